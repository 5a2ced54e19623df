use Rattle.zj_area.proofs.Turns.{SoFar, to_go}
use Rattle.zj_area.proofs.reading.read_records.Given as goal

abbrev pub invariant-loop-found : goal.invariant-loop-found
invariant-loop-found g l = SoFar l.sizes l.core (g.D.Disk.view l.fn.d) (g.D.Disk.view l.d) l.fn.tail l.due l.found l.first

abbrev pub decreases-loop-found : goal.decreases-loop-found
decreases-loop-found g l = to_go l.fn.sizes l.first l.due.place
