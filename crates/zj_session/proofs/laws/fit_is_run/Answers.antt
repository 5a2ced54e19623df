use Rattle.zj_session.proofs.Running as running
use Rattle.zj_session.proofs.laws.fit_is_run.Goals as goal

pub returns : goal.returns
returns c = running.fit_is_run c.history_is_run.ensures
