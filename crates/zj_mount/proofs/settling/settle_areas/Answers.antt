use Rattle.std.proofs.Common.{◌≡◌, ◌<◌, Some, length, get_or, arith}
use Rattle.std.specs.Prelude.{slice_get}
use Rattle.std.proofs.lemmas.Option.{slice_get-get_or}
use Rattle.std.proofs.lemmas.Result.{err_from_is_err_and}
use Rattle.zj_mount.proofs.SettleLemmas.{fails_here, settled_more, settled_none, synced_here}
use Rattle.zj_mount.proofs.settling.settle_areas.Goals as goal

pub loop-core-init : goal.loop-core-init
loop-core-init g c = settled_none g.D.Disk.view c.args.areas.now

pub returns-in_err-settle_one-clause-cause : goal.returns-in_err-settle_one-clause-cause
returns-in_err-settle_one-clause-cause g c =
    let p = err_from_is_err_and c.from_residual.result c.from_residual.ensures.1 in
    let a = get_or c.loop-core.areas c.loop-core.core c.index-areas-core.result in
    let below : c.loop-core.core < length c.loop-core.areas = omega (arith, c.loop-core-test.true, c.loop-core.auto.areas) in
    let here : slice_get c.loop-core.areas c.loop-core.core ≡ Some a = slice_get-get_or c.loop-core.areas c.loop-core.core c.index-areas-core.result below in
    rw (p.1, p.2)
    (fails_here g.D.Disk.view c.args.areas.now c.loop-core.areas c.loop-core.core a c.settle_one.new.area c.in_err-settle_one.field-0.0 below here c.loop-core.invariant c.in_err-settle_one.ensures.cause.0 c.in_err-settle_one.ensures.cause.1)

pub returns-in_err-settle_one-clause-synced : goal.returns-in_err-settle_one-clause-synced
returns-in_err-settle_one-clause-synced g c =
    let a = get_or c.loop-core.areas c.loop-core.core c.index-areas-core.result in
    let below : c.loop-core.core < length c.loop-core.areas = omega (arith, c.loop-core-test.true, c.loop-core.auto.areas) in
    let here : slice_get c.loop-core.areas c.loop-core.core ≡ Some a = slice_get-get_or c.loop-core.areas c.loop-core.core c.index-areas-core.result below in
    synced_here g.D.Disk.view c.args.areas.now c.loop-core.areas c.loop-core.core a c.settle_one.new.area below here c.loop-core.invariant c.settle_one.ensures.synced

pub loop-core-preserved : goal.loop-core-preserved
loop-core-preserved g c =
    let a = get_or c.loop-core.areas c.loop-core.core c.index-areas-core.result in
    let below : c.loop-core.core < length c.loop-core.areas = omega (arith, c.loop-core-test.true, c.loop-core.auto.areas) in
    let here : slice_get c.loop-core.areas c.loop-core.core ≡ Some a = slice_get-get_or c.loop-core.areas c.loop-core.core c.index-areas-core.result below in
    settled_more g.D.Disk.view c.args.areas.now c.loop-core.areas c.loop-core.core a c.settle_one.new.area below here c.loop-core.invariant c.settle_one.ensures.synced c.in_ok-settle_one.ensures.settled
