use Rattle.std.proofs.Common.{◌≡◌, ℕ, ◌<◌, ◌≤◌, max}
use Rattle.std.specs.Prelude.{slice_index}
use Rattle.zj_block.specs.Numbers.{IsBounds}
use Rattle.zj_tx.proofs.follows.raise_bounds.Given as goal

abbrev pub invariant-loop-core : goal.invariant-loop-core
invariant-loop-core l = record {
  bounds : IsBounds l.bounds;
  raised : (k : ℕ) → k < l.core → slice_index l.bounds k ≡ max (slice_index l.initial.bounds k) (slice_index l.by k);
  still : (k : ℕ) → l.core ≤ k → slice_index l.bounds k ≡ slice_index l.initial.bounds k;
}
