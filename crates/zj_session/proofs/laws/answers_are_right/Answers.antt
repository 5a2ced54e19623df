use Rattle.zj_session.proofs.Right as right
use Rattle.zj_session.proofs.laws.answers_are_right.Goals as goal

pub returns : goal.returns
returns g c = right.answers_are_right g.row.D.Denot
