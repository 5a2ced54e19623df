use Rattle.std.proofs.Common.{◌<◌, ℕ}
use Rattle.std.specs.Prelude.{slice_index}
use Rattle.zj_closure.specs.Found.{records_of}
use Rattle.zj_mount.specs.Gathering.{ChooseSame}
use Rattle.zj_mount.proofs.gathering.choose_same.Given as goal

abbrev pub invariant-loop-core : goal.invariant-loop-core
invariant-loop-core l = (k : ℕ) → k < l.core → ChooseSame (slice_index l.guess k) (slice_index l.kept k) (records_of l.heads k)
