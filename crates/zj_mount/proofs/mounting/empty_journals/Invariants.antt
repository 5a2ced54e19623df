use Rattle.std.proofs.Common.{◌≡◌, ◌<◌, ℕ, length}
use Rattle.std.specs.Prelude.{slice_get}
use Rattle.std.specs.Option.{option_map}
use Rattle.zj_mount.specs.Recovered.{empty_from}
use Rattle.zj_mount.proofs.mounting.empty_journals.Given as goal

abbrev pub invariant-loop-core : goal.invariant-loop-core
invariant-loop-core g l = record {
  many : length l.journals.items ≡ l.core;
  told : (core : ℕ) → core < l.core → slice_get l.journals.items core ≡ option_map empty_from (slice_get l.home.told.tails core);
}
