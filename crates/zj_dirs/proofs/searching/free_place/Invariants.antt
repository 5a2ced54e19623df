use Rattle.std.proofs.Common.{ℕ, ◌<◌}
use Rattle.zj_dirs.specs.Looking.{IsUsedAt}
use Rattle.zj_dirs.proofs.searching.free_place.Given as goal

abbrev pub invariant-loop-place : goal.invariant-loop-place
invariant-loop-place l = (lower : ℕ) → lower < l.place → IsUsedAt l.content lower
