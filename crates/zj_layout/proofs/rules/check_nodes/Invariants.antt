use Rattle.std.proofs.Common.{ℕ, ◌<◌}
use Rattle.zj_layout.specs.Image.{image_of}
use Rattle.zj_layout.specs.Rules.{IsPlaced}
use Rattle.zj_layout.proofs.rules.check_nodes.Given as goal

abbrev pub invariant-loop-number : goal.invariant-loop-number
invariant-loop-number l = (k : ℕ) → k < l.number → IsPlaced l.sizes (image_of l.sizes l.blocks) k
