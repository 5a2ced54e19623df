use Rattle.zj_tx.proofs.FrozenLemmas as laws
use Rattle.zj_tx.proofs.laws.noted_are_bounds.Goals as goal

pub returns-clause-none : goal.returns-clause-none
returns-clause-none c = laws.none_noted

pub returns-clause-more : goal.returns-clause-more
returns-clause-more c = laws.one_noted_more
