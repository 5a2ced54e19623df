use Rattle.std.proofs.Common.{refl}
use Rattle.zj_block.specs.Numbers.{zero_bounds}
use Rattle.zj_block.proofs.Cores.{IsBounds-zero}
use Rattle.zj_block.proofs.numbers.Bounds.zero.Goals as goal

pub invariant_of-result : goal.invariant_of-result
unfolding zero_bounds
invariant_of-result c = IsBounds-zero

pub returns-clause-zero : goal.returns-clause-zero
unfolding zero_bounds
returns-clause-zero c = refl

pub returns-clause-bounds : goal.returns-clause-bounds
unfolding zero_bounds
returns-clause-bounds c = IsBounds-zero
