use Rattle.zj_inode.proofs.Within.{footprint_is_within}
use Rattle.zj_inode.proofs.laws.footprint_is_within.Goals as goal

pub returns : goal.returns
returns c = footprint_is_within
