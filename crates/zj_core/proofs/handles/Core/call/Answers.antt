-- A call that is refused leaves the core as it was.
use Rattle.zj_core.proofs.Stopping.{call_cause, call_undone}
use Rattle.zj_core.proofs.handles.Core.call.Goals as goal

pub returns-in-Err-clause-cause : goal.returns-in-Err-clause-cause
returns-in-Err-clause-cause g c =
    call_cause c.args.cache.now c.self.inside.pass c.self.inside.area c.self.inside.sizes c.self.inside.handle c.self.inside.running c.self.invariant c.args.self.now c.begin.new.self c.stop.new.self c.self.view_is c.requires.idle c.args.call.now c.in_ok-begin.ensures.begun c.in-Err.ensures.takes
    c.in-Err.fault c.into.result c.in_ok-begin.ensures.may c.in-Err.ensures.foot c.in-Err.ensures.cause c.into.ensures

pub returns-in-Err-clause-err : goal.returns-in-Err-clause-err
returns-in-Err-clause-err g c =
    call_undone c.args.cache.now c.self.inside.pass c.self.inside.area c.self.inside.sizes c.self.inside.handle c.self.inside.running c.self.invariant c.args.self.now c.begin.new.self c.stop.new.self c.self.view_is c.requires.idle c.args.call.now c.in_ok-begin.ensures.begun c.in-Err.ensures.takes
    c.drop_handle.new.self c.in-Err.ensures.stays c.drop_handle.ensures
