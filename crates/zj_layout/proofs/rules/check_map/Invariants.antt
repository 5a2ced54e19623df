use Rattle.std.proofs.Common.{◌≡◌, ℕ, ◌<◌, ◌||◌, cond, ltb}
use Rattle.zj_block.specs.Sizes.{first_data}
use Rattle.zj_layout.specs.Image.{image_of, is_named}
use Rattle.zj_layout.proofs.rules.check_map.Given as goal

abbrev pub invariant-loop-block : goal.invariant-loop-block
invariant-loop-block l = (k : ℕ) → k < l.block → (image_of l.sizes l.blocks).map k ≡ cond (ltb k (first_data l.sizes) || is_named l.sizes.nodes (image_of l.sizes l.blocks) k) 1 0
