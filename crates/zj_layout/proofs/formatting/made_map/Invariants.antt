use Rattle.std.proofs.Common.{◌≡◌, ℕ, ◌+◌, ◌*◌, ◌<◌, cond}
use Rattle.zj_block.specs.Block.{IsContent}
use Rattle.zj_layout.specs.Node.{byte_in}
use Rattle.zj_layout.specs.Format.{made_byte}
use Rattle.zj_layout.proofs.formatting.made_map.Given as goal

abbrev pub invariant-loop-i : goal.invariant-loop-i
invariant-loop-i l = record {
  made : (k : ℕ) → k < l.i → byte_in l.content k ≡ cond (made_byte l.sizes (512 * l.block + k)) 1 0;
  content : IsContent l.content;
}
