use Rattle.zj_area.proofs.Readings.{again}
use Rattle.zj_area.proofs.reading.next_record.Goals as goal

pub returns-then-due-eq0-clause-refused : goal.returns-then-due-eq0-clause-refused
returns-then-due-eq0-clause-refused g c =
    let seen = rw c.in-Some.is at c.requires.seen in
    again c.one_spelling.ensures c.gate_is_open.ensures c.args.sizes.now c.args.core (g.D.Disk.view c.args.d.now) (g.D.Disk.view c.args.d.now) c.args.due c.in-Some.number c.if-due-eq0.true seen
