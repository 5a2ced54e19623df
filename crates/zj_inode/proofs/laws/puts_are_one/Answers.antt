use Rattle.zj_inode.proofs.Runs.{puts_are_one}
use Rattle.zj_inode.proofs.laws.puts_are_one.Goals as goal

pub returns : goal.returns
returns c = puts_are_one
