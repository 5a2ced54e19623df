use Rattle.std.proofs.Common.{◌≡◌, ◌<◌, Some, length, get_or, arith}
use Rattle.std.specs.Prelude.{slice_get}
use Rattle.std.proofs.lemmas.Option.{slice_get-get_or}
use Rattle.std.proofs.lemmas.Result.{err_from_is_err_and}
use Rattle.zj_mount.proofs.InspectLemmas.{seen_here, seen_more, seen_stop}
use Rattle.zj_mount.proofs.gathering.find_all.Goals as goal

pub returns-in_err-records-clause-cause : goal.returns-in_err-records-clause-cause
returns-in_err-records-clause-cause g c =
    let p = err_from_is_err_and c.from_residual-in_err-records.result c.from_residual-in_err-records.ensures.1 in
    let a = get_or c.loop-core.journals c.loop-core.core c.index-journals-core.result in
    let below : c.loop-core.core < length c.loop-core.journals = omega (arith, c.loop-core-test.true, c.loop-core.auto.journals) in
    let here : slice_get c.loop-core.journals c.loop-core.core ≡ Some a = slice_get-get_or c.loop-core.journals c.loop-core.core c.index-journals-core.result below in
    rw (p.1, p.2)
    (seen_stop g.J.Journal.journal c.args.journals.now c.loop-core.journals c.loop-core.found.items c.loop-core.core a c.find_one.new.journal below here c.loop-core.invariant c.in_err-records.field-0.0 c.in_err-records.ensures.cause)

pub returns-in_err-records-clause-read : goal.returns-in_err-records-clause-read
returns-in_err-records-clause-read g c =
    let a = get_or c.loop-core.journals c.loop-core.core c.index-journals-core.result in
    let below : c.loop-core.core < length c.loop-core.journals = omega (arith, c.loop-core-test.true, c.loop-core.auto.journals) in
    let here : slice_get c.loop-core.journals c.loop-core.core ≡ Some a = slice_get-get_or c.loop-core.journals c.loop-core.core c.index-journals-core.result below in
    seen_here g.J.Journal.journal c.args.journals.now c.loop-core.journals c.loop-core.found.items c.loop-core.core a c.find_one.new.journal below here c.loop-core.invariant c.find_one.ensures.read

pub loop-core-preserved : goal.loop-core-preserved
loop-core-preserved g c =
    let a = get_or c.loop-core.journals c.loop-core.core c.index-journals-core.result in
    let below : c.loop-core.core < length c.loop-core.journals = omega (arith, c.loop-core-test.true, c.loop-core.auto.journals) in
    let here : slice_get c.loop-core.journals c.loop-core.core ≡ Some a = slice_get-get_or c.loop-core.journals c.loop-core.core c.index-journals-core.result below in
    let items = rw (c.unwrap.ensures, c.reserve.ensures.items) at c.push.ensures.items in
    rw items
    (seen_more g.J.Journal.journal c.args.journals.now c.loop-core.journals c.loop-core.found.items c.loop-core.core a c.find_one.new.journal below here c.loop-core.invariant c.in_ok-records.records c.find_one.ensures.read c.in_ok-records.ensures.ready c.in_ok-records.ensures.found)
