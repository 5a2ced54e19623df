use Rattle.std.proofs.Common.{length}
use Rattle.zj_script.specs.Lines.{lines_left}
use Rattle.zj_script.proofs.Inputs.{HasRead}
use Rattle.zj_script.proofs.script.read_lines.Given as goal

abbrev pub invariant-loop-text : goal.invariant-loop-text
invariant-loop-text l = HasRead l.fn.acts l.fn.cores l.fn.input l.texts.cut (lines_left l.texts) l.number l.lines.items

abbrev pub decreases-loop-text : goal.decreases-loop-text
decreases-loop-text l = length (lines_left l.texts)
