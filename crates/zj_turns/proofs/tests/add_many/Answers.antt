use Rattle.std.proofs.Common.{arith, sym, subst}
use Rattle.zj_turns.specs.Passes.{IsIdle}
use Rattle.zj_turns.proofs.Lone.{fresh_idle, fresh_room}
use Rattle.zj_turns.proofs.tests.add_many.Goals as goal

pub loop-init : goal.loop-init
loop-init c =
    let t = c.args.cache.now.table in
    let room = fresh_room t c.args.core c.args.pass c.requires.fresh in
    record { idle = subst (IsIdle t c.args.core) (sym c.requires.fresh) (fresh_idle t c.args.core); few = omega arith; room = omega arith }

pub add_one-after-requires-clause-idle : goal.add_one-after-requires-clause-idle
add_one-after-requires-clause-idle c = c.loop.invariant.idle

pub add_one-after-requires-clause-room : goal.add_one-after-requires-clause-room
add_one-after-requires-clause-room c = λ none. c.if-made-eq-MANY.false (omega (arith, none, c.loop.invariant.few, c.loop.invariant.room))

pub overflow_add-made : goal.overflow_add-made
overflow_add-made c = omega (arith, c.loop.invariant.few, c.add_one-after.ensures.count)

pub loop-preserved : goal.loop-preserved
loop-preserved c =
    let few = c.loop.invariant.few in
    let room = c.loop.invariant.room in
    let left = c.add_one-after.ensures.left in
    let count = c.add_one-after.ensures.count in
    let unmade = c.if-made-eq-MANY.false in
    record { idle = c.add_one-after.ensures.idle; few = omega arith; room = omega arith }

pub returns : goal.returns
returns c = record { idle = c.loop.invariant.idle }
