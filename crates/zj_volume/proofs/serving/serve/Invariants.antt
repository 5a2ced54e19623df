use Rattle.std.proofs.Common.{length}
use Rattle.zj_block.specs.Lists.{count_left}
use Rattle.zj_volume.specs.Volume.{Agrees}
use Rattle.zj_volume.proofs.serving.serve.Given as goal

abbrev pub invariant-loop-taken : goal.invariant-loop-taken
invariant-loop-taken l = Agrees l.taken l.blocks

abbrev pub decreases-loop-taken : goal.decreases-loop-taken
decreases-loop-taken l = count_left l.taken (length l.blocks)
