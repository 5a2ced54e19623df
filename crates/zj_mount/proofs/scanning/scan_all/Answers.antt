use Rattle.std.proofs.Common.{◌≡◌, ◌<◌, Some, length, get_or, arith}
use Rattle.std.specs.Prelude.{slice_get}
use Rattle.std.proofs.lemmas.Option.{slice_get-get_or}
use Rattle.std.proofs.lemmas.Result.{err_from_is_err_and}
use Rattle.zj_mount.specs.declared.fault.MountFault.TheVariants as faults
use Rattle.zj_mount.proofs.ScanLemmas.{read_here, read_more, stops_here}
use Rattle.zj_mount.proofs.scanning.scan_all.Goals as goal

pub returns-in_err-reserve-clause-cause : goal.returns-in_err-reserve-clause-cause
returns-in_err-reserve-clause-cause g c =
    let p = err_from_is_err_and c.from_residual.result c.from_residual.ensures.1 in
    let a = get_or c.loop-core.areas c.loop-core.core c.index-areas-core.result in
    let below : c.loop-core.core < length c.loop-core.areas = omega (arith, c.loop-core-test.true, c.loop-core.auto.areas) in
    let here : slice_get c.loop-core.areas c.loop-core.core ≡ Some a = slice_get-get_or c.loop-core.areas c.loop-core.core c.index-areas-core.result below in
    rw (p.1, p.2, c.reserve.ensures.items)
    (stops_here g.D.Disk.view c.args.areas.now c.loop-core.areas c.loop-core.counts.items c.loop-core.core a a faults.NoMemory below here c.loop-core.invariant tt)

pub returns-in_err-count-clause-read : goal.returns-in_err-count-clause-read
returns-in_err-count-clause-read g c =
    let a = get_or c.loop-core.areas c.loop-core.core c.index-areas-core.result in
    let below : c.loop-core.core < length c.loop-core.areas = omega (arith, c.loop-core-test.true, c.loop-core.auto.areas) in
    let here : slice_get c.loop-core.areas c.loop-core.core ≡ Some a = slice_get-get_or c.loop-core.areas c.loop-core.core c.index-areas-core.result below in
    read_here g.D.Disk.view c.args.areas.now c.loop-core.areas c.loop-core.counts.items c.loop-core.core a c.scan_one.new.area below here c.loop-core.invariant c.scan_one.ensures.read

pub returns-in_err-count-clause-cause : goal.returns-in_err-count-clause-cause
returns-in_err-count-clause-cause g c =
    let p = err_from_is_err_and c.from_residual-in_err-count.result c.from_residual-in_err-count.ensures.1 in
    let a = get_or c.loop-core.areas c.loop-core.core c.index-areas-core.result in
    let below : c.loop-core.core < length c.loop-core.areas = omega (arith, c.loop-core-test.true, c.loop-core.auto.areas) in
    let here : slice_get c.loop-core.areas c.loop-core.core ≡ Some a = slice_get-get_or c.loop-core.areas c.loop-core.core c.index-areas-core.result below in
    rw (p.1, p.2, c.reserve.ensures.items)
    (stops_here g.D.Disk.view c.args.areas.now c.loop-core.areas c.loop-core.counts.items c.loop-core.core a c.scan_one.new.area c.in_err-count.field-0.0 below here c.loop-core.invariant c.in_err-count.ensures.cause)

pub loop-core-preserved : goal.loop-core-preserved
loop-core-preserved g c =
    let a = get_or c.loop-core.areas c.loop-core.core c.index-areas-core.result in
    let below : c.loop-core.core < length c.loop-core.areas = omega (arith, c.loop-core-test.true, c.loop-core.auto.areas) in
    let here : slice_get c.loop-core.areas c.loop-core.core ≡ Some a = slice_get-get_or c.loop-core.areas c.loop-core.core c.index-areas-core.result below in
    let items = rw (c.unwrap.ensures, c.reserve.ensures.items) at c.push.ensures.items in
    rw items
    (read_more g.D.Disk.view c.args.areas.now c.loop-core.areas c.loop-core.counts.items c.loop-core.core c.in_ok-count.count a c.scan_one.new.area below here c.loop-core.invariant c.scan_one.ensures.read c.in_ok-count.ensures.ready c.in_ok-count.ensures.count c.in_ok-count.ensures.rest)
