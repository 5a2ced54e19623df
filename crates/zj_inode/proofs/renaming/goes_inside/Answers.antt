-- Only a directory has paths below its own.
use Rattle.zj_inode.proofs.renaming.goes_inside.Goals as goal

pub returns-in-Dir : goal.returns-in-Dir
returns-in-Dir c = (λ t. (c.in-Dir.is, c.begins.ensures.0 t), λ q. c.begins.ensures.1 q.1)
