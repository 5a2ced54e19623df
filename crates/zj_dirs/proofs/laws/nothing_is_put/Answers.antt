use Rattle.zj_dirs.proofs.Walks.{put_nothing}
use Rattle.zj_dirs.proofs.laws.nothing_is_put.Goals as goal

pub returns : goal.returns
returns c = put_nothing
