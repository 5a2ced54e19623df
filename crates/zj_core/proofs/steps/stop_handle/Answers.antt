-- What was taken performs the call, and its operation enters the history and joins the running transaction.
use Rattle.std.proofs.Common.{refl, sym, subst}
use Rattle.std.proofs.lemmas.Result.{err_from_is_err_and}
use Rattle.zj_turns.specs.Passes.{PassState}
use Rattle.zj_core.specs.Core.{IsStopCause}
use Rattle.zj_core.specs.Handle.{TakesFor}
use Rattle.zj_core.specs.Steps.{roomless_by}
use Rattle.zj_core.proofs.Stopping.{joined, keeps_tree, performed, room_stops}
use Rattle.zj_core.proofs.steps.stop_handle.Goals as goal

pub enter-requires-clause-keeps : goal.enter-requires-clause-keeps
enter-requires-clause-keeps c =
    keeps_tree c.args.cache.now.sizes c.args.sizes.now c.take_all.new.handle.taken c.in_ok-reply.written c.args.handle.now.call c.in_ok-reply.reply c.requires.sizes c.in_ok-reply.ensures.performs

pub returns-in_err-ticket-clause-foot : goal.returns-in_err-ticket-clause-foot
returns-in_err-ticket-clause-foot c =
    let p = err_from_is_err_and c.from_residual-in_err-ticket.result c.from_residual-in_err-ticket.ensures.1 in
    rw p.1
    (subst (λ (q : PassState). TakesFor c.args.sizes.now c.args.pass.now q c.args.handle.now.call) (sym c.in_err-ticket.ensures.pass) c.in_ok-reply.ensures.foot)

pub returns-in_err-ticket-clause-cause : goal.returns-in_err-ticket-clause-cause
returns-in_err-ticket-clause-cause c =
    let p = err_from_is_err_and c.from_residual-in_err-ticket.result c.from_residual-in_err-ticket.ensures.1 in
    rw (p.1, p.2)
    (subst (λ (q : PassState). IsStopCause c.args.cache.now c.args.sizes.now q c.args.running.now c.args.handle.now.call (roomless_by c.in_err-ticket.field-0.0)) (sym c.in_err-ticket.ensures.pass)
    (room_stops c.args.cache.now c.args.sizes.now c.take_all.new.pass c.args.running.now c.args.handle.now.call c.take_all.new.handle.taken c.in_ok-reply.written c.in_ok-reply.reply
    c.in_ok-reply.ensures.has c.in_ok-reply.ensures.root c.in_ok-reply.ensures.performs c.in_err-ticket.field-0.0 c.in_err-ticket.ensures.cause))

pub returns-clause-done : goal.returns-clause-done
returns-clause-done c =
    performed c.args.cache.now c.args.pass.now c.take_all.new.pass c.enter.new.pass c.args.sizes.now c.take_all.new.handle.taken c.in_ok-reply.written c.args.handle.now.call c.in_ok-reply.reply c.args.running.now.number c.in_ok-ticket.ticket
    c.in_ok-reply.ensures.takes c.in_ok-reply.ensures.foot c.in_ok-reply.ensures.has c.in_ok-reply.ensures.root c.in_ok-reply.ensures.performs c.in_ok-ticket.ensures.draws

pub returns-clause-adds : goal.returns-clause-adds
returns-clause-adds c =
    joined c.args.cache.now c.args.pass.now c.take_all.new.pass c.enter.new.pass c.args.sizes.now c.take_all.new.handle.taken c.in_ok-reply.written c.args.handle.now.call c.in_ok-reply.reply c.args.running.now.number c.in_ok-ticket.ticket
    c.in_ok-reply.ensures.takes c.in_ok-reply.ensures.foot c.in_ok-reply.ensures.has c.in_ok-reply.ensures.root c.in_ok-reply.ensures.performs c.in_ok-ticket.ensures.draws
    c.args.running.now c.enter.new.running refl c.sealed_is_frozen.ensures.more c.in_ok-ticket.ensures.adds c.in_ok-ticket.ensures.ascending c.in_ok-ticket.ensures.blocks
