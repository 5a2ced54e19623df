use Rattle.std.proofs.Common.{◌≡◌, length, ap, refl, arith}
use Rattle.zj_cli.proofs.AskedLemmas.{got}
use Rattle.zj_cli.proofs.PhaseLemmas.{all_disks, all_told, one_more_told, one_told}
use Rattle.zj_cli.proofs.phase.moments.Goals as goal

pub loop-core-init : goal.loop-core-init
loop-core-init g c = one_told g.D.Disk.view c.args.home.now.device c.args.areas.now.areas _ _ refl c.calls.ensures c.calls.type_inv

pub loop-core-preserved : goal.loop-core-preserved
loop-core-preserved g c =
    let here = c.slice_mut.ensures.value in
    one_more_told g.D.Disk.view c.args.home.now.device c.args.areas.now.areas c.loop-core.moments c.loop-core.core c.calls-in-loop-core.result c.area-item.result (omega (arith, c.loop-core-test.true, ap length here, c.requires.few))
    (rw here at (got c.slice_mut.result.now c.loop-core.core c.area-item.result c.loop-core-test.true c.area-item.is)) c.calls-in-loop-core.ensures.calls c.calls-in-loop-core.ensures.is_disk c.calls-in-loop-core.type_inv c.loop-core.invariant

pub returns-clause-moments : goal.returns-clause-moments
returns-clause-moments g c =
    let end : c.loop-core.core ≡ length c.args.areas.now.areas = omega (arith, c.loop-core-test.false, c.loop-core.auto.core-end, ap length c.slice_mut.ensures.value) in
    all_told g.D.Disk.view c.args.home.now.device c.args.areas.now.areas c.loop-core.moments c.loop-core.core end c.loop-core.invariant

pub returns-clause-disks : goal.returns-clause-disks
returns-clause-disks g c =
    let end : c.loop-core.core ≡ length c.args.areas.now.areas = omega (arith, c.loop-core-test.false, c.loop-core.auto.core-end, ap length c.slice_mut.ensures.value) in
    all_disks g.D.Disk.view c.args.home.now.device c.args.areas.now.areas c.loop-core.moments c.loop-core.core end c.loop-core.invariant

pub returns-clause-fits : goal.returns-clause-fits
returns-clause-fits g c = c.loop-core.invariant.fits
