use Rattle.zj_session.proofs.Round as round
use Rattle.zj_session.proofs.laws.round_recovers.Goals as goal

pub returns : goal.returns
returns g c = round.round_recovers c.recovers_cut.ensures c.cut_is_run.ensures c.front_is_consistent.ensures c.none_below_first.ensures g.row.D.Denot
