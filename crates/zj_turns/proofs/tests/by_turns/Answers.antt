use Rattle.std.proofs.Common.{sym, ◌∙◌, subst}
use Rattle.zj_turns.specs.Passes.{IsIdle}
use Rattle.zj_turns.proofs.Lone.{dealt_next, fresh_idle, fresh_left}
use Rattle.zj_turns.proofs.tests.by_turns.Goals as goal

pub loop-core-init : goal.loop-core-init
loop-core-init c = c.requires.all

pub add_one-ticket-requires-clause-idle : goal.add_one-ticket-requires-clause-idle
add_one-ticket-requires-clause-idle c =
    let t = c.args.cache.now.table in
    let next = dealt_next t c.loop-core.core c.next.new.self c.in-Some.pass c.loop-core-test.true (sym c.loop-core.invariant ∙ c.in-Some.ensures.some) in
    subst (IsIdle t c.loop-core.core) (sym next.1) (fresh_idle t c.loop-core.core)

pub add_one-ticket-requires-clause-room : goal.add_one-ticket-requires-clause-room
add_one-ticket-requires-clause-room c =
    let t = c.args.cache.now.table in
    let next = dealt_next t c.loop-core.core c.next.new.self c.in-Some.pass c.loop-core-test.true (sym c.loop-core.invariant ∙ c.in-Some.ensures.some) in
    fresh_left t c.loop-core.core c.in-Some.pass next.1

pub loop-core-preserved : goal.loop-core-preserved
loop-core-preserved c =
    let t = c.args.cache.now.table in
    (dealt_next t c.loop-core.core c.next.new.self c.in-Some.pass c.loop-core-test.true (sym c.loop-core.invariant ∙ c.in-Some.ensures.some)).0
