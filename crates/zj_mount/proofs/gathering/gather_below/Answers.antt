use Rattle.std.proofs.Common.{◌≡◌, ◌<◌, Some, length, get_or, arith}
use Rattle.std.specs.Prelude.{slice_get, slice_index}
use Rattle.std.proofs.lemmas.Option.{slice_get-get_or}
use Rattle.std.proofs.lemmas.Result.{err_from_is_err_and}
use Rattle.zj_mount.proofs.InspectLemmas.{seen_here, seen_stop}
use Rattle.zj_mount.proofs.GatherLemmas.{gathered_more}
use Rattle.zj_mount.proofs.gathering.gather_below.Goals as goal

pub returns-in_err-head-clause-cause : goal.returns-in_err-head-clause-cause
returns-in_err-head-clause-cause g c =
    let p = err_from_is_err_and c.from_residual-in_err-head.result c.from_residual-in_err-head.ensures.1 in
    let a = get_or c.loop-core.journals c.loop-core.core c.index-journals-core.result in
    let below : c.loop-core.core < length c.loop-core.journals = omega (arith, c.loop-core-test.true, c.loop-core.auto.journals) in
    let here : slice_get c.loop-core.journals c.loop-core.core ≡ Some a = slice_get-get_or c.loop-core.journals c.loop-core.core c.index-journals-core.result below in
    rw (p.1, p.2)
    (seen_stop g.J.Journal.journal c.args.journals.now c.loop-core.journals c.loop-core.invariant.found c.loop-core.core a c.gather_one.new.journal below here c.loop-core.invariant.so_far c.in_err-head.field-0.0 c.in_err-head.ensures.cause)

pub returns-in_err-head-clause-read : goal.returns-in_err-head-clause-read
returns-in_err-head-clause-read g c =
    let a = get_or c.loop-core.journals c.loop-core.core c.index-journals-core.result in
    let below : c.loop-core.core < length c.loop-core.journals = omega (arith, c.loop-core-test.true, c.loop-core.auto.journals) in
    let here : slice_get c.loop-core.journals c.loop-core.core ≡ Some a = slice_get-get_or c.loop-core.journals c.loop-core.core c.index-journals-core.result below in
    seen_here g.J.Journal.journal c.args.journals.now c.loop-core.journals c.loop-core.invariant.found c.loop-core.core a c.gather_one.new.journal below here c.loop-core.invariant.so_far c.gather_one.ensures.read

pub loop-core-preserved : goal.loop-core-preserved
loop-core-preserved g c =
    let a = get_or c.loop-core.journals c.loop-core.core c.index-journals-core.result in
    let below : c.loop-core.core < length c.loop-core.journals = omega (arith, c.loop-core-test.true, c.loop-core.auto.journals) in
    let here : slice_get c.loop-core.journals c.loop-core.core ≡ Some a = slice_get-get_or c.loop-core.journals c.loop-core.core c.index-journals-core.result below in
    let items = rw (c.unwrap.ensures, c.reserve.ensures.items) at c.push.ensures.items in
    rw items
    (gathered_more g.J.Journal.journal c.args.journals.now c.loop-core.journals (slice_index c.args.bounds.now) c.loop-core.heads.items c.loop-core.images c.gather_one.new.images c.in_ok-head.head c.loop-core.core c.bound_of-bound.result a c.gather_one.new.journal below here
    c.loop-core.invariant c.bound_of-bound.ensures c.gather_one.ensures.read c.in_ok-head.ensures.ready c.in_ok-head.ensures.gathered)
