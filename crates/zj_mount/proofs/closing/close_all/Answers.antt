use Rattle.std.proofs.Common.{◌≡◌, length, subst, inl, inr}
use Rattle.zj_dev.specs.Shelf.{Closes}
use Rattle.zj_mount.specs.Set.{home_name}
use Rattle.zj_dev.specs.declared.device.Device.TheVariants as devices
use Rattle.zj_mount.specs.Opening.{IsJournalBelow, IsOfSet}
use Rattle.zj_mount.proofs.CloseLemmas.{all_back, closed_all, closes_all, first_fault, weaker}
use Rattle.zj_mount.proofs.closing.close_all.Goals as goal

pub returns-clause-closes : goal.returns-clause-closes
returns-clause-closes g c =
    let old = g.H.Shelf.names c.args.shelf.now in
    let mid = g.H.Shelf.names c.put_back-closed.new.shelf in
    let new = g.H.Shelf.names c.close_areas.new.shelf in
    closes_all g.H.D.Disk.view old mid new (g.H.D.Disk.view c.args.set.home.device) c.args.set.areas.areas c.requires
    (subst (λ d. Closes (g.H.D.Disk.view d) (old home_name) (mid home_name)) c.into_device.ensures c.put_back-closed.ensures.closed)
    c.put_back-closed.ensures.others c.close_areas.ensures.closed c.close_areas.ensures.others

pub returns-clause-closed : goal.returns-clause-closed
returns-clause-closed g c before out =
    closed_all g.H.D.Disk.view before (g.H.Shelf.names c.args.shelf.now) (g.H.Shelf.names c.close_areas.new.shelf) (g.H.D.Disk.view c.args.set.home.device) c.args.set.areas.areas out (returns-clause-closes g c)

pub returns-clause-back : goal.returns-clause-back
returns-clause-back g c before out =
    all_back g.H.D.Disk.view before (g.H.Shelf.names c.close_areas.new.shelf) (g.H.D.Disk.view c.args.set.home.device) c.args.set.areas.areas
    (returns-clause-closed g c before out)

pub returns-clause-cause : goal.returns-clause-cause
returns-clause-cause g c =
    let count = length c.args.set.areas.areas in
    first_fault (λ fault. IsOfSet count fault.device) c.put_back-closed.result c.close_areas.result c.and.result (g.H.Shelf.faults c.args.shelf.now) (g.H.Shelf.faults c.put_back-closed.new.shelf) (g.H.Shelf.faults c.close_areas.new.shelf)
    c.and.ensures
    (weaker (λ fault. fault.device ≡ devices.Home) (λ fault. IsOfSet count fault.device) c.put_back-closed.result _ _ (λ fault e. inl e) c.put_back-closed.ensures.cause)
    c.put_back-closed.ensures.no_fewer c.close_areas.ensures.no_fewer
    (weaker (λ fault. IsJournalBelow count fault.device) (λ fault. IsOfSet count fault.device) c.close_areas.result _ _ (λ fault is. inr is) c.close_areas.ensures.cause)
