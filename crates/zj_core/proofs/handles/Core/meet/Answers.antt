-- Each core keeps what it knows of itself.
use Rattle.std.proofs.Common.{true, false, ap}
use Rattle.zj_core.specs.Core.{CoreState}
use Rattle.zj_core.proofs.Meeting.{core_meets, core_moves}
use Rattle.zj_core.proofs.handles.Core.meet.Goals as goal

pub invariant_of-self : goal.invariant_of-self
invariant_of-self g c =
    core_meets c.self.inside.pass c.other.inside.pass c.meet.new.pass c.self.inside.area c.self.inside.sizes c.self.inside.handle c.self.inside.running c.self.invariant c.args.self.now.pass c.args.other.now.pass false
    (ap (λ (x : CoreState g.row.D.Denot). x.pass) c.self.view_is) (ap (λ (x : CoreState g.row.D.Denot). x.pass) c.other.view_is) c.requires.peer c.meet.ensures.pass

pub invariant_of-other : goal.invariant_of-other
invariant_of-other g c = core_moves c.other.inside.pass c.meet.new.other c.other.inside.area c.other.inside.sizes c.other.inside.handle c.other.inside.running true c.other.invariant c.meet.ensures.other
