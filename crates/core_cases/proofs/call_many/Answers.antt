use Rattle.std.proofs.Common.{◌∙◌}
use Rattle.zj_core.specs.Core.{number_of}
use Rattle.zj_core.proofs.Going.{begun_called, of_called, sizes_called}
use Rattle.core_cases.proofs.call_many.Goals as goal

pub loop-init : goal.loop-init
loop-init c = (c.requires.of, c.requires.idle)

pub call-done-requires-clause-of : goal.call-done-requires-clause-of
call-done-requires-clause-of c = c.loop.invariant.0

pub call-done-requires-clause-idle : goal.call-done-requires-clause-idle
call-done-requires-clause-idle c = c.loop.invariant.1

pub loop-preserved : goal.loop-preserved
loop-preserved c = (
  of_called c.args.cache.now c.loop.core c.call-done.new.self c.loop.invariant.0 c.call-done.result c.args.call.now (number_of c.loop.core)
      c.call-done.ensures.done c.call-done.ensures.err (sizes_called c.args.cache.now c.loop.core c.call-done.new.self c.loop.invariant.0 c.call-done.result c.call-done.ensures.closed),
  begun_called c.args.cache.now c.loop.core c.call-done.new.self c.loop.invariant.0 c.call-done.result c.call-done.ensures.closed c.call-done.ensures.err ∙ c.loop.invariant.1,
)

pub returns-clause-of : goal.returns-clause-of
returns-clause-of c = c.loop.invariant.0

pub returns-clause-idle : goal.returns-clause-idle
returns-clause-idle c = c.loop.invariant.1
