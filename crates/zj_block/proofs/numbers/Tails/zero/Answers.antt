use Rattle.std.proofs.Common.{refl}
use Rattle.zj_block.specs.Numbers.{zero_tails}
use Rattle.zj_block.proofs.numbers.Tails.zero.Goals as goal

pub returns-clause-zero : goal.returns-clause-zero
unfolding zero_tails
returns-clause-zero c = refl
