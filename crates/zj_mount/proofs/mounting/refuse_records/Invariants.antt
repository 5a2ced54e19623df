use Rattle.std.proofs.Common.{◌≡◌, ◌<◌, ℕ, Some}
use Rattle.std.specs.Prelude.{slice_get}
use Rattle.zj_mount.proofs.mounting.refuse_records.Given as goal

abbrev pub invariant-loop-core : goal.invariant-loop-core
invariant-loop-core l = record {
  none : (k : ℕ) → k < l.core → slice_get l.counts k ≡ Some 0;
}
