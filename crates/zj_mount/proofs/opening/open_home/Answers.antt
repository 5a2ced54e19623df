use Rattle.zj_mount.proofs.SetLemmas.{back_after, home_cause, lent_after}
use Rattle.zj_mount.proofs.opening.open_home.Goals as goal

pub returns-in-Ok-clause-lent : goal.returns-in-Ok-clause-lent
returns-in-Ok-clause-lent g c = lent_after _ _ (g.H.D.Disk.view c.in_ok-d.d) _ c.in_ok-d.ensures.taken c.in-Ok.ensures.read_only

pub returns-in-Err-clause-back : goal.returns-in-Err-clause-back
returns-in-Err-clause-back g c = back_after _ _ _ (g.H.D.Disk.view c.in_ok-d.d) _ c.in_ok-d.ensures.taken c.in-Err.ensures.refused_read_only c.close.ensures.closed

pub returns-in-Err-clause-cause : goal.returns-in-Err-clause-cause
returns-in-Err-clause-cause g c =
    rw c.home_fault.ensures
    (home_cause (g.H.Shelf.names c.args.shelf.now) (g.H.Shelf.names c.close.new.self) _ _ _ (g.H.D.Disk.view c.in_ok-d.d) (g.H.D.Disk.view c.in-Err.refused.device) c.in-Err.refused.fault
    c.in_ok-d.ensures.taken c.in-Err.ensures.refused_read_only c.close.ensures.closed c.in-Err.ensures.cause)
