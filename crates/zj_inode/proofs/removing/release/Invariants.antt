use Rattle.zj_inode.proofs.Releases.{Freeing}
use Rattle.zj_inode.proofs.removing.release.Given as goal

abbrev pub invariant-loop-j : goal.invariant-loop-j
invariant-loop-j l = Freeing l.sizes l.taken l.initial.built l.built l.number l.j
