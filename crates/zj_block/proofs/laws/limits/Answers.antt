use Rattle.zj_block.proofs.Limits.{in_limits, none_out}
use Rattle.zj_block.proofs.laws.limits.Goals as goal

pub returns : goal.returns
returns c = λ n. (none_out n, in_limits n)
