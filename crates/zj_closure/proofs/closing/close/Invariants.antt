use Rattle.std.proofs.Common.{ℕ, ◌*◌, ◌<◌, ◌≤◌}
use Rattle.std.specs.Prelude.{slice_index}
use Rattle.zj_block.specs.Numbers.{IsBounds}
use Rattle.zj_closure.specs.Found.{record_count}
use Rattle.zj_closure.specs.Growing.{AreGrown, IsDone}
use Rattle.zj_closure.proofs.closing.close.Given as goal

abbrev pub invariant-loop-core : goal.invariant-loop-core
invariant-loop-core l = record {
  grown : AreGrown (slice_index l.starts) l.found l.closing.kept;
  bounds : IsBounds l.closing.kept;
  looks : l.closing.looks ≤ l.core * record_count l.found;
  done : (d : ℕ) → d < l.core → IsDone (slice_index l.starts) l.found l.closing.kept d;
}
