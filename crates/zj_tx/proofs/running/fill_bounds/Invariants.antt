use Rattle.std.proofs.Common.{◌≡◌, ℕ, ◌<◌, ◌^◌}
use Rattle.std.specs.Prelude.{slice_index}
use Rattle.zj_tx.specs.Running.{recorded_bound}
use Rattle.zj_tx.proofs.running.fill_bounds.Given as goal

abbrev pub invariant-loop-core : goal.invariant-loop-core
invariant-loop-core l = record {
  filled : (k : ℕ) → k < l.core → slice_index l.bounds k ≡ recorded_bound l.own l.follows k;
  fit : (k : ℕ) → slice_index l.bounds k < 2 ^ 64;
}
