use Rattle.zj_inode.proofs.Runs.{cut_is_run}
use Rattle.zj_inode.proofs.laws.cut_is_run.Goals as goal

pub returns : goal.returns
returns c = cut_is_run c.cut_is_history.ensures
