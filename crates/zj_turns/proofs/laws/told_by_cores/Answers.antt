use Rattle.zj_turns.proofs.Single as single
use Rattle.zj_turns.proofs.laws.told_by_cores.Goals as goal

pub returns : goal.returns
returns c = single.told_by_cores
