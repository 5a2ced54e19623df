-- What was taken performs the call, and its operation enters the history and joins the running transaction.
use Rattle.std.proofs.Common.{IsSome, Option, refl, subst}
use Rattle.zj_tree.specs.declared.call.Call.{Call}
use Rattle.zj_core.specs.declared.steps.Handle.{Handle}
use Rattle.zj_core.specs.Core.{CoreState}
use Rattle.zj_core.specs.Handle.{TakesFor}
use Rattle.zj_core.proofs.Resting.{core_stopped}
use Rattle.zj_core.proofs.Running.{few_added, shown}
use Rattle.zj_core.proofs.Stopping.{of_begun}
use Rattle.zj_core.proofs.handles.Core.stop.Goals as goal

pub stop_handle-requires-clause-handles : goal.stop_handle-requires-clause-handles
stop_handle-requires-clause-handles g c =
    few_added (shown c.self.inside.pass c.self.inside.area c.self.inside.sizes c.self.inside.handle c.self.inside.running) c.self.invariant.runs
    (c.self.invariant.may (subst (λ (o : Option Handle). IsSome o) c.in-Some.ensures.value refl)).left

pub invariant_of-self : goal.invariant_of-self
invariant_of-self g c =
    core_stopped c.args.cache.now c.self.inside.pass c.stop_handle.new.pass c.self.inside.area c.self.inside.sizes c.self.inside.handle c.take.new.self c.self.inside.running c.stop_handle.new.running c.in-Some.handle c.in-Ok.done
    c.noted_are_bounds.ensures.none c.self.invariant c.in-Some.ensures.value c.in-Ok.ensures.done c.in-Ok.ensures.joined c.in-Ok.ensures.adds c.take.ensures.after

pub returns-in-Err-clause-foot : goal.returns-in-Err-clause-foot
returns-in-Err-clause-foot g c =
    of_begun (λ (x : CoreState g.row.D.Denot) (call : Call). TakesFor x.sizes x.pass c.stop_handle.new.pass call)
    c.self.inside.pass c.self.inside.area c.self.inside.sizes c.self.inside.handle c.self.inside.running c.in-Some.handle c.args.self.now c.self.view_is c.in-Some.ensures.value c.in-Err.ensures.foot
