use Rattle.std.proofs.Common.{sym}
use Rattle.zj_script.proofs.Splitting.{part_ends, part_is_all}
use Rattle.zj_script.proofs.parts.cut.Goals as goal

pub returns-in-Some : goal.returns-in-Some
returns-in-Some c = part_ends c.args.separator c.args.text.now c.in-Some.end (sym c.in-Some.ensures)

pub returns-in-None : goal.returns-in-None
returns-in-None c = part_is_all c.args.separator c.args.text.now (sym c.in-None.ensures)
