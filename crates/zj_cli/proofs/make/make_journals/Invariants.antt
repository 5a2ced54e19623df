use Rattle.std.proofs.Common.{◌≤◌}
use Rattle.std.specs.Result.{result_err}
use Rattle.zj_cli.specs.Make.{IsClosing, MakesJournals}
use Rattle.zj_cli.proofs.make.make_journals.Given as goal

abbrev pub invariant-loop-core : goal.invariant-loop-core
invariant-loop-core g l = record {
  made : MakesJournals l.sizes (g.H.Shelf.names l.fn.shelf) (g.H.Shelf.names l.shelf) l.core;
  closing : IsClosing l.sizes (g.H.Shelf.faults l.fn.shelf) (g.H.Shelf.faults l.shelf) (result_err l.closed);
  no_fewer : g.H.Shelf.faults l.fn.shelf ≤ g.H.Shelf.faults l.shelf;
}
