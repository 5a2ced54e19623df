use Rattle.zj_inode.proofs.Ranged.{ReadsTo}
use Rattle.zj_inode.proofs.looking.read_range.Given as goal

abbrev pub invariant-loop-j : goal.invariant-loop-j
invariant-loop-j l = ReadsTo l.sizes l.taken l.file.number l.from l.to l.bytes l.j
