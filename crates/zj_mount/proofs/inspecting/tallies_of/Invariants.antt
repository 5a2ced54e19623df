use Rattle.std.proofs.Common.{◌≡◌, ◌<◌, ℕ, Some, length}
use Rattle.std.specs.Prelude.{slice_get, slice_index}
use Rattle.zj_closure.specs.Found.{tail_of}
use Rattle.zj_mount.specs.Inspecting.{tally_of}
use Rattle.zj_mount.proofs.inspecting.tallies_of.Given as goal

abbrev pub invariant-loop-core : goal.invariant-loop-core
invariant-loop-core g l = record {
  many : length l.tallies.items ≡ l.core;
  told : (k : ℕ) → k < l.core → slice_get l.tallies.items k ≡ Some (tally_of (tail_of l.home.told.tails) l.found (slice_index l.kept) k);
}
