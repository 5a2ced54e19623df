-- What was taken so far, and how many blocks are left.
use Rattle.std.proofs.Common.{◌≡◌, length}
use Rattle.zj_block.specs.Lists.{count_left}
use Rattle.zj_core.specs.Handle.{HasTaken, TakesFor}
use Rattle.zj_core.specs.Steps.{TakesMore}
use Rattle.zj_core.proofs.steps.take_all.Given as goal

abbrev pub invariant-loop-block : goal.invariant-loop-block
invariant-loop-block l = record {
  has : HasTaken l.sizes l.pass l.handle.taken l.handle.follows;
  call : l.handle.call ≡ l.fn.handle.call;
  takes : TakesMore l.cache l.fn.pass l.pass;
  foot : TakesFor l.sizes l.fn.pass l.pass l.fn.handle.call;
}

abbrev pub decreases-loop-block : goal.decreases-loop-block
decreases-loop-block l = count_left l.handle.taken (length l.cache.start)
