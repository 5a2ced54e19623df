use Rattle.zj_history.proofs.Writes as laws
use Rattle.zj_history.proofs.laws.one_write_more.Goals as goal

pub returns-clause-state : goal.returns-clause-state
returns-clause-state c = laws.after-push

pub returns-clause-last : goal.returns-clause-last
returns-clause-last c = laws.last_write-push
