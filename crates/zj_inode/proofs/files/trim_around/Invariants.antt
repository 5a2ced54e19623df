use Rattle.zj_inode.proofs.Around.{AddsBlocks}
use Rattle.zj_inode.proofs.files.trim_around.Given as goal

abbrev pub invariant-loop-j : goal.invariant-loop-j
invariant-loop-j l = AddsBlocks l.taken l.built l.blocks l.low l.j l.written
