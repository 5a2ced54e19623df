use Rattle.zj_history.proofs.Cuts as laws
use Rattle.zj_history.proofs.laws.state_of_cut.Goals as goal

pub returns-clause-state : goal.returns-clause-state
returns-clause-state c = laws.state_of_cut

pub returns-clause-earlier : goal.returns-clause-earlier
returns-clause-earlier c = laws.earlier_is_within
