use Rattle.zj_block.proofs.Views.{IsContent-zero, byte-zero, u32_at-zero, word-zero}
use Rattle.zj_block.proofs.laws.zeros.Goals as goal

pub returns : goal.returns
returns c = record {
  content = IsContent-zero;
  words = word-zero;
  bytes = byte-zero;
  numbers = u32_at-zero;
}
