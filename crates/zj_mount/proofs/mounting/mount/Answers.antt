use Rattle.std.proofs.Common.{◌≡◌, List, length, inl, inr, sym, subst}
use Rattle.std.proofs.lemmas.Result.{err_from_is_err_and}
use Rattle.zj_dev.specs.Disk.{DiskView, IsSettled, OnlyReads}
use Rattle.zj_dev.specs.declared.device.Device.TheVariants as devices
use Rattle.zj_dev.proofs.DiskLaws.{reads_refl}
use Rattle.zj_area.specs.Journal.{AreaView}
use Rattle.zj_mount.specs.declared.fault.MountFault.{MountFault}
use Rattle.zj_mount.specs.declared.fault.MountFault.TheVariants as faults
use Rattle.zj_mount.specs.Scanning.{AreRead}
use Rattle.zj_mount.specs.Settling.{AllSettled, IsOfImage, IsSettleCause, NothingPends}
use Rattle.zj_mount.proofs.SettleLemmas.{all_settled_read, empty_before, home_before, settled_read, then_read, then_rest, used_before}
use Rattle.zj_mount.proofs.mounting.mount.Goals as goal

-- nothing is pending once all was settled
settled_then : {D : Type 0} (view : D → DiskView) (home home' : D) (mid new : List (AreaView D)) → OnlyReads (view home) (view home') → AreRead view mid new → length new ≡ length mid → IsSettled (view home) → AllSettled view mid (length mid) → NothingPends view home' new
settled_then view home home' mid new home_read read count home_settled settled = record {
  home_rests = settled_read (view home) (view home') home_read home_settled;
  journals_rest = subst (AllSettled view new) (sym count) (all_settled_read view mid new (length mid) read settled);
}

-- a device that failed as it was settled is no fault of the image
settling_is_none : {D : Type 0} (view : D → DiskView) (home home' : D) (old new : List (AreaView D)) (fault : MountFault) → IsSettleCause view home home' old new fault → IsOfImage fault → ⊥
settling_is_none view home home' old new (faults.DiskFault devices.Home) cause of = of
settling_is_none view home home' old new (faults.DiskFault (devices.Journal core)) cause of = of
settling_is_none view home home' old new fault cause of = cause

pub returns-in_err-refuse_used-clause-cause : goal.returns-in_err-refuse_used-clause-cause
returns-in_err-refuse_used-clause-cause g c =
    let p = err_from_is_err_and c.from_residual-in_err-refuse_used.result c.from_residual-in_err-refuse_used.ensures.1 in
    rw (p.1, p.2)
    (inr (inl (used_before g.D.Disk.view c.args.areas.now.areas c.settle_all.new.areas.areas c.settle_all.ensures.synced c.refuse_used.new.areas.areas c.in_err-refuse_used.field-0.0 c.settle_all.ensures.count c.in_err-refuse_used.ensures.cause)))

pub returns-in_err-blocks-clause-cause : goal.returns-in_err-blocks-clause-cause
returns-in_err-blocks-clause-cause g c =
    let p = err_from_is_err_and c.from_residual-in_err-blocks.result c.from_residual-in_err-blocks.ensures.1 in
    let empty = empty_before g.D.Disk.view c.args.areas.now.areas c.settle_all.new.areas.areas c.settle_all.ensures.synced _ (rw c.settle_all.ensures.count at c.in_ok-refuse_used.ensures.empty) in
    rw (p.1, p.2)
    (inr (inr (empty, home_before g.D.Disk.view c.args.home.now.told c.args.home.now.device c.settle_all.new.home.device c.read_home.new.home.device c.in_err-blocks.field-0.0 c.settle_all.ensures.settles (rw c.settle_all.ensures.told at c.in_err-blocks.ensures.cause))))

pub returns-clause-settles : goal.returns-clause-settles
returns-clause-settles g c =
    then_read g.D.Disk.view c.args.areas.now.areas c.settle_all.new.areas.areas c.settle_all.ensures.synced c.refuse_used.new.areas.areas c.refuse_used.ensures.read

pub returns-clause-rest : goal.returns-clause-rest
returns-clause-rest g c =
    then_rest g.D.Disk.view c.args.areas.now.areas c.settle_all.new.areas.areas c.settle_all.ensures.synced c.refuse_used.new.areas.areas c.settle_all.ensures.count c.in_ok-settle_all.ensures.all_settled c.in_ok-refuse_used.ensures.rest

pub returns-in_err-settle_all-clause-refused : goal.returns-in_err-settle_all-clause-refused
returns-in_err-settle_all-clause-refused g c =
    let p = err_from_is_err_and c.from_residual.result c.from_residual.ensures.1 in
    rw (p.1, p.2)
    (λ of. absurd (settling_is_none g.D.Disk.view c.args.home.now.device c.settle_all.new.home.device c.args.areas.now.areas c.settle_all.new.areas.areas c.in_err-settle_all.field-0.0 c.in_err-settle_all.ensures.cause of))

pub returns-in_err-refuse_used-clause-refused : goal.returns-in_err-refuse_used-clause-refused
returns-in_err-refuse_used-clause-refused g c =
    let p = err_from_is_err_and c.from_residual-in_err-refuse_used.result c.from_residual-in_err-refuse_used.ensures.1 in
    rw (p.1, p.2)
    (λ _. settled_then g.D.Disk.view c.settle_all.new.home.device c.settle_all.new.home.device c.settle_all.new.areas.areas c.refuse_used.new.areas.areas (reads_refl _) c.refuse_used.ensures.read c.refuse_used.ensures.count
    c.in_ok-settle_all.ensures.settled (rw c.settle_all.ensures.count c.in_ok-settle_all.ensures.all_settled))

pub returns-in_err-blocks-clause-refused : goal.returns-in_err-blocks-clause-refused
returns-in_err-blocks-clause-refused g c =
    let p = err_from_is_err_and c.from_residual-in_err-blocks.result c.from_residual-in_err-blocks.ensures.1 in
    rw (p.1, p.2)
    (λ _. settled_then g.D.Disk.view c.settle_all.new.home.device c.read_home.new.home.device c.settle_all.new.areas.areas c.refuse_used.new.areas.areas c.read_home.ensures.read c.refuse_used.ensures.read c.refuse_used.ensures.count
    c.in_ok-settle_all.ensures.settled (rw c.settle_all.ensures.count c.in_ok-settle_all.ensures.all_settled))

pub returns-clause-settled : goal.returns-clause-settled
returns-clause-settled g c =
    settled_then g.D.Disk.view c.settle_all.new.home.device c.read_home.new.home.device c.settle_all.new.areas.areas c.refuse_used.new.areas.areas c.read_home.ensures.read c.refuse_used.ensures.read c.refuse_used.ensures.count
    c.in_ok-settle_all.ensures.settled (rw c.settle_all.ensures.count c.in_ok-settle_all.ensures.all_settled)
