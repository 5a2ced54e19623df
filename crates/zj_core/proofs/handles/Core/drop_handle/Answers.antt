-- All that was taken is given back.
use Rattle.std.proofs.Common.{inr}
use Rattle.zj_core.proofs.Resting.{core_dropped, dropped, has_opened, shows_dropped}
use Rattle.zj_core.proofs.handles.Core.drop_handle.Goals as goal

pub give_all-requires-clause-done : goal.give_all-requires-clause-done
give_all-requires-clause-done g c = inr (λ b h at. (c.self.invariant.has.read b h at).stored)

pub invariant_of-self : goal.invariant_of-self
invariant_of-self g c =
    let p = c.self.inside.pass in
    let is = dropped c.self.inside.sizes p c.in-Some.handle.taken (has_opened c.self.inside.sizes p c.self.inside.handle c.in-Some.handle c.in-Some.ensures.value c.self.invariant.has) c.give_all.new.pass c.give_all.ensures in
    core_dropped p c.give_all.new.pass c.self.inside.area c.self.inside.sizes c.self.inside.handle c.take.new.self c.self.inside.running c.noted_are_bounds.ensures.none c.self.invariant is c.take.ensures.after

pub returns-in-Some : goal.returns-in-Some
returns-in-Some g c =
    let p = c.self.inside.pass in
    let is = dropped c.self.inside.sizes p c.in-Some.handle.taken (has_opened c.self.inside.sizes p c.self.inside.handle c.in-Some.handle c.in-Some.ensures.value c.self.invariant.has) c.give_all.new.pass c.give_all.ensures in
    shows_dropped p c.give_all.new.pass c.self.inside.area c.self.inside.sizes c.self.inside.handle c.take.new.self c.self.inside.running c.args.self.now c.self.view_is is c.take.ensures.after
