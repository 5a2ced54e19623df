use Rattle.zj_inode.proofs.Cuts.{FreesTo}
use Rattle.zj_inode.proofs.files.free_blocks.Given as goal

abbrev pub invariant-loop-j : goal.invariant-loop-j
invariant-loop-j l = FreesTo l.sizes l.taken l.fn.built l.built l.of.number l.low l.j
