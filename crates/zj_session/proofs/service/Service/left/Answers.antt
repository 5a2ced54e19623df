use Rattle.std.proofs.Common.{ap, ◌∙◌}
use Rattle.zj_session.specs.Playing.{ServiceState}
use Rattle.zj_session.proofs.Least.{at_most_all, at_most_more, of_one_all, of_one_more}
use Rattle.zj_session.proofs.service.Service.left.Goals as goal

pub loop-core-preserved : goal.loop-core-preserved
loop-core-preserved g c =
    let same = c.deref-core-items.ensures.value ∙ ap (λ (s : ServiceState _). s.cores) c.self.view_is in
    let at = c.loop-core in
    let core = c.core-item.result in
    record {
      at_most = at_most_more c.args.self.now.cores c.deref-core-items.result.now same at.core-index c.loop-core-test.true core c.core-item.is at.least c.left.result c.min-least.result c.left.ensures c.min-least.ensures at.invariant.at_most;
      least = of_one_more c.args.self.now.cores c.deref-core-items.result.now same at.core-index c.loop-core-test.true core c.core-item.is at.least c.left.result c.min-least.result c.left.ensures c.min-least.ensures at.invariant.least;
    }

pub returns-clause-at_most : goal.returns-clause-at_most
returns-clause-at_most g c =
    let same = c.deref-core-items.ensures.value ∙ ap (λ (s : ServiceState _). s.cores) c.self.view_is in
    at_most_all c.args.self.now.cores c.deref-core-items.result.now same c.loop-core.core-index c.loop-core.least c.loop-core-test.false c.loop-core.invariant.at_most

pub returns-clause-least : goal.returns-clause-least
returns-clause-least g c =
    let same = c.deref-core-items.ensures.value ∙ ap (λ (s : ServiceState _). s.cores) c.self.view_is in
    of_one_all c.args.self.now.cores c.deref-core-items.result.now same c.loop-core.core-index c.loop-core.least c.loop-core-test.false c.loop-core.invariant.least
