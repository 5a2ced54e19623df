use Rattle.std.proofs.Common.{◌≡◌, ◌+◌, ◌≤◌, IfErr, OnOk, length, drop}
use Rattle.std.specs.Vec.Iter.{into_iter_items, into_iter_len}
use Rattle.zj_dev.specs.Fault.{Rose}
use Rattle.zj_mount.specs.Opening.{IsJournalBelow}
use Rattle.zj_mount.proofs.CloseLemmas.{ClosedBelow, KeptBut}
use Rattle.zj_mount.proofs.closing.close_areas.Given as goal

abbrev pub invariant-loop-area : goal.invariant-loop-area
invariant-loop-area g l = record {
  few : length l.fn.areas.areas ≤ 8;
  items : drop l.core l.fn.areas.areas ≡ into_iter_items l.left;
  count : l.core + into_iter_len l.left ≡ length l.fn.areas.areas;
  below : ClosedBelow g.H.D.Disk.view l.fn.areas.areas l.core (g.H.Shelf.names l.fn.shelf) (g.H.Shelf.names l.shelf);
  others : KeptBut l.core (g.H.Shelf.names l.fn.shelf) (g.H.Shelf.names l.shelf);
  cause : IfErr l.closed (λ fault. IsJournalBelow (length l.fn.areas.areas) fault.device × Rose (g.H.Shelf.faults l.fn.shelf) (g.H.Shelf.faults l.shelf));
  quiet : OnOk l.closed (g.H.Shelf.faults l.shelf ≡ g.H.Shelf.faults l.fn.shelf);
  no_fewer : g.H.Shelf.faults l.fn.shelf ≤ g.H.Shelf.faults l.shelf;
}

abbrev pub decreases-loop-area : goal.decreases-loop-area
decreases-loop-area g l = into_iter_len l.left
