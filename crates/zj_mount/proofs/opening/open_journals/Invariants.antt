use Rattle.std.proofs.Common.{◌≡◌, ◌≤◌}
use Rattle.zj_mount.specs.Opening.{AreOpened}
use Rattle.zj_mount.proofs.opening.open_journals.Given as goal

abbrev pub invariant-loop-core : goal.invariant-loop-core
invariant-loop-core g l = record {
  opened : AreOpened g.H.D.Disk.view (g.H.Shelf.names l.fn.shelf) (g.H.Shelf.names l.shelf) l.home.told l.core l.areas.areas;
  quiet : g.H.Shelf.faults l.shelf ≡ g.H.Shelf.faults l.fn.shelf;
  no_fewer : g.H.Shelf.faults l.fn.shelf ≤ g.H.Shelf.faults l.shelf;
}
