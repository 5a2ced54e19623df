use Rattle.std.proofs.Common.{◌≢◌, ℕ, ◌<◌}
use Rattle.zj_layout.specs.Node.{byte_in}
use Rattle.zj_dirs.proofs.searching.free_byte.Given as goal

abbrev pub invariant-loop-place : goal.invariant-loop-place
invariant-loop-place l = (lower : ℕ) → lower < l.place → byte_in l.content lower ≢ 0
