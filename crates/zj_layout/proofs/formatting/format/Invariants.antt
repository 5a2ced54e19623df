use Rattle.std.proofs.Common.{◌≡◌, ℕ, ◌<◌, ◌≤◌, length}
use Rattle.std.specs.List.{All}
use Rattle.zj_block.specs.Block.{IsContent, zero_content}
use Rattle.zj_layout.specs.Image.{block_at}
use Rattle.zj_layout.specs.Format.{IsMadeMap}
use Rattle.zj_layout.proofs.formatting.format.Given as goal

abbrev pub invariant-loop-block : goal.invariant-loop-block
invariant-loop-block l = record {
  many : length l.blocks ≡ l.sizes.blocks;
  contents : All IsContent l.blocks;
  made : (k : ℕ) → k < l.block → IsMadeMap l.sizes k (block_at l.blocks k);
  zero : (k : ℕ) → l.block ≤ k → block_at l.blocks k ≡ zero_content;
}
