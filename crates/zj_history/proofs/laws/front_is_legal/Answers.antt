use Rattle.zj_history.proofs.Numbers as laws
use Rattle.zj_history.proofs.laws.front_is_legal.Goals as goal

pub returns-clause-front : goal.returns-clause-front
returns-clause-front c = laws.legal_front

pub returns-clause-numbers : goal.returns-clause-numbers
returns-clause-numbers c = laws.numbered_front

pub returns-clause-history : goal.returns-clause-history
returns-clause-history c = laws.legal_is_history
