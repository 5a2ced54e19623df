use Rattle.zj_turns.proofs.Single as single
use Rattle.zj_turns.proofs.laws.grows_by_one.Goals as goal

pub returns : goal.returns
returns c = single.grows_by_one
