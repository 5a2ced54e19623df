use Rattle.zj_inode.proofs.Runs.{history_is_run}
use Rattle.zj_inode.proofs.laws.history_is_run.Goals as goal

pub returns : goal.returns
returns c = history_is_run c.front_is_legal.ensures.history
