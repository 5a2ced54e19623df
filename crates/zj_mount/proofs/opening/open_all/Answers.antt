use Rattle.zj_mount.proofs.Opened.{all_opened, all_out, in_order, set_cause}
use Rattle.zj_mount.proofs.opening.open_all.Goals as goal

pub returns-in-Err-clause-back : goal.returns-in-Err-clause-back
returns-in-Err-clause-back g c =
    c.close_refused.ensures.back (g.H.Shelf.names c.args.shelf.now) (g.H.Shelf.names c.open_home.new.shelf) c.in_ok-home.home.told c.open_home.ensures.others c.in_ok-home.ensures.lent c.in-Err.ensures.stops

pub returns-in-Err-clause-cause : goal.returns-in-Err-clause-cause
returns-in-Err-clause-cause g c =
    set_cause (g.H.Shelf.names c.args.shelf.now) (g.H.Shelf.names c.open_home.new.shelf) c.open_home.ensures.others (g.H.Shelf.names c.close_refused.new.shelf)
    (g.H.Shelf.faults c.args.shelf.now) (g.H.Shelf.faults c.open_home.new.shelf) (g.H.Shelf.faults c.open_journals.new.shelf) (g.H.Shelf.faults c.close_refused.new.shelf)
    c.in_ok-home.home.told c.in-Err.field-0.fault c.in_ok-home.ensures.home c.open_home.ensures.no_fewer c.close_refused.ensures.no_fewer c.in-Err.ensures.cause

pub returns-in-Ok-clause-out : goal.returns-in-Ok-clause-out
returns-in-Ok-clause-out g c =
    all_out (g.H.Shelf.names c.args.shelf.now) (g.H.Shelf.names c.open_home.new.shelf) c.open_home.ensures.others g.H.D.Disk.view (g.H.Shelf.names c.open_journals.new.shelf) (g.H.D.Disk.view c.in_ok-home.home.device) c.in_ok-home.home.told _ c.open_journals.new.areas.areas c.in_ok-home.ensures.lent c.in-Ok.ensures.opened

pub returns-in-Ok-clause-opened : goal.returns-in-Ok-clause-opened
returns-in-Ok-clause-opened g c =
    all_opened g.H.D.Disk.view (g.H.Shelf.names c.open_home.new.shelf) (g.H.Shelf.names c.open_journals.new.shelf) c.in_ok-home.home.told c.open_journals.new.areas.areas c.in-Ok.ensures.few c.in-Ok.ensures.opened

pub returns-in-Ok-clause-in_order : goal.returns-in-Ok-clause-in_order
returns-in-Ok-clause-in_order g c =
    in_order c.in_ok-home.home.told c.open_journals.new.areas.areas
    (all_opened g.H.D.Disk.view (g.H.Shelf.names c.open_home.new.shelf) (g.H.Shelf.names c.open_journals.new.shelf) c.in_ok-home.home.told c.open_journals.new.areas.areas c.in-Ok.ensures.few c.in-Ok.ensures.opened)
