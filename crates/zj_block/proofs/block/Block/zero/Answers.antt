use Rattle.std.proofs.Common.{refl}
use Rattle.zj_block.specs.Block.{zero_content}
use Rattle.zj_block.proofs.Views.{IsContent-zero}
use Rattle.zj_block.proofs.block.Block.zero.Goals as goal

pub invariant_of-result : goal.invariant_of-result
unfolding zero_content
invariant_of-result c = IsContent-zero

pub returns-clause-zero : goal.returns-clause-zero
unfolding zero_content
returns-clause-zero c = refl

pub returns-clause-content : goal.returns-clause-content
unfolding zero_content
returns-clause-content c = IsContent-zero
