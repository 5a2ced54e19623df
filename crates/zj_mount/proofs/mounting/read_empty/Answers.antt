use Rattle.std.proofs.lemmas.Result.{err_from_is_err_and}
use Rattle.zj_mount.proofs.MountLemmas.{counted_empty, counted_resting, counted_used, scan_cause}
use Rattle.zj_mount.proofs.mounting.read_empty.Goals as goal

pub returns-in_err-scan_all-clause-cause : goal.returns-in_err-scan_all-clause-cause
returns-in_err-scan_all-clause-cause g c =
    let p = err_from_is_err_and c.from_residual.result c.from_residual.ensures.1 in
    rw (p.1, p.2) (scan_cause g.D.Disk.view c.args.areas.now c.scan_all.new.areas c.scan_all.new.counts.items c.in_err-scan_all.field-0.0 c.in_err-scan_all.ensures.cause)

pub returns-clause-empty : goal.returns-clause-empty
returns-clause-empty g c =
    counted_empty g.D.Disk.view c.args.areas.now c.scan_all.new.counts.items c.refuse_records.result c.in_ok-scan_all.ensures.many c.in_ok-scan_all.ensures.counted (rw c.deref.ensures.value at c.refuse_records.ensures.none)

pub returns-clause-rest : goal.returns-clause-rest
returns-clause-rest g c =
    counted_resting g.D.Disk.view c.args.areas.now c.scan_all.new.areas c.scan_all.new.counts.items c.refuse_records.result c.in_ok-scan_all.ensures.many c.in_ok-scan_all.ensures.rest (rw c.deref.ensures.value at c.refuse_records.ensures.none)

pub returns-clause-cause : goal.returns-clause-cause
returns-clause-cause g c =
    counted_used g.D.Disk.view c.args.areas.now c.scan_all.new.areas c.scan_all.new.counts.items c.refuse_records.result c.in_ok-scan_all.ensures.many c.in_ok-scan_all.ensures.counted (rw c.deref.ensures.value at c.refuse_records.ensures.first)
