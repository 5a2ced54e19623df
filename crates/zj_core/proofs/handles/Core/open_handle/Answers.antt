-- What a core keeps says how it rests.
use Rattle.zj_core.proofs.Resting.{core_rests}
use Rattle.zj_core.proofs.handles.Core.open_handle.Goals as goal

pub returns-clause-steady : goal.returns-clause-steady
returns-clause-steady g c = core_rests c.self.inside.pass c.self.inside.area c.self.inside.sizes c.self.inside.handle c.self.inside.running c.self.invariant c.args.self.now c.self.view_is
