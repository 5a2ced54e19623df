use Rattle.zj_session.proofs.Logs as logs
use Rattle.zj_session.proofs.laws.logs_are_right.Goals as goal

pub returns : goal.returns
returns g c = logs.logs_are_right c.frozen_stays.ensures.stays c.frozen_stays.ensures.one c.sealed_is_frozen.ensures.all g.row.D.Denot
