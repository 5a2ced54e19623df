use Rattle.std.proofs.Common.{get_or, sym, ap, ◌∙◌, subst}
use Rattle.zj_core.specs.Core.{IsOf}
use Rattle.zj_session.specs.Playing.{resting}
use Rattle.zj_session.proofs.Lists.{mapped_here}
use Rattle.zj_session.proofs.Resting.{rest_closed, rest_next, rest_open}
use Rattle.zj_session.proofs.playing.drop_all.Goals as goal
use Rattle.zj_session.proofs.playing.drop_all.Goals.{then-open_handle, else-open_handle}

pub drop_handle-requires-clause-of : goal.drop_handle-requires-clause-of
drop_handle-requires-clause-of g c =
    subst (λ x. IsOf c.args.cache.now x)
    (sym (ap (λ l. get_or l c.loop-core.core-index c.core-item.result) c.loop-core.invariant ∙ mapped_here resting c.args.cores.now c.loop-core.core-index c.core-item.result c.loop-core-test.true))
    (c.requires c.loop-core.core-index c.core-item.result c.loop-core-test.true)

pub loop-core-preserved : goal.loop-core-preserved
loop-core-preserved g c = elim c.if-open_handle.branch [
  | then-open_handle w ↦ rest_next c.args.cores.now c.loop-core.core-items c.if-open_handle.core-items c.loop-core.core-index c.core-item.result w.drop_handle.new.self c.loop-core-test.true
      c.loop-core.invariant (w.drop_handle.ensures ∙ rest_open (get_or c.loop-core.core-items c.loop-core.core-index c.core-item.result) (sym c.open_handle.ensures.«open» ∙ w.if-open_handle.true)) w.core-items-is
  | else-open_handle w ↦ rest_next c.args.cores.now c.loop-core.core-items c.if-open_handle.core-items c.loop-core.core-index c.core-item.result
      (get_or c.loop-core.core-items c.loop-core.core-index c.core-item.result) c.loop-core-test.true
      c.loop-core.invariant (sym (rest_closed (get_or c.loop-core.core-items c.loop-core.core-index c.core-item.result) (sym c.open_handle.ensures.«open» ∙ w.if-open_handle.false))) w.core-items-is
]
