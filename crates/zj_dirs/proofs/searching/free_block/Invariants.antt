use Rattle.std.proofs.Common.{◌≢◌, ℕ, ◌*◌, ◌<◌}
use Rattle.zj_dirs.specs.Possible.{Made}
use Rattle.zj_dirs.proofs.searching.free_block.Given as goal

abbrev pub invariant-loop-k : goal.invariant-loop-k
invariant-loop-k l = (lower : ℕ) → lower < 512 * l.k → lower < l.sizes.blocks → Made l.sizes l.taken l.written (λ image. image.map lower ≢ 0)
