use Rattle.std.proofs.Common.{◌≡◌}
use Rattle.zj_dirs.specs.Possible.{Always}
use Rattle.zj_inode.proofs.Looked.{names_to}
use Rattle.zj_inode.proofs.looking.read_names.Given as goal

abbrev pub invariant-loop-place : goal.invariant-loop-place
invariant-loop-place l = Always l.sizes l.taken (λ image. l.names.items ≡ names_to image l.dir.number l.place)
