use Rattle.zj_tx.proofs.FrozenLemmas as laws
use Rattle.zj_tx.proofs.laws.sealed_is_frozen.Goals as goal

pub returns-clause-none : goal.returns-clause-none
returns-clause-none c = laws.nothing_kept

pub returns-clause-more : goal.returns-clause-more
returns-clause-more c = laws.keeps_one_more

pub returns-clause-all : goal.returns-clause-all
returns-clause-all c = laws.sealed_is_frozen

pub returns-clause-within : goal.returns-clause-within
returns-clause-within c = laws.parts_are_within
