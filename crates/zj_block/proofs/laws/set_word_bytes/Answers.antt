use Rattle.std.proofs.Common.{arith}
use Rattle.zj_block.proofs.Views.{bytes_of-set}
use Rattle.zj_block.proofs.laws.set_word_bytes.Goals as goal

pub returns : goal.returns
returns c = λ content i word is within. bytes_of-set content i word (omega (arith, is.many))
