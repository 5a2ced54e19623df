use Rattle.zj_turns.proofs.Single as single
use Rattle.zj_turns.proofs.laws.one_history.Goals as goal

pub returns : goal.returns
returns c = single.one_history
