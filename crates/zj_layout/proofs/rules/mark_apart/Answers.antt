use Rattle.std.proofs.Common.{arith}
use Rattle.zj_layout.proofs.Ruled.{marked_none, marked_more, marked_all, repeats}
use Rattle.zj_layout.proofs.rules.mark_apart.Goals as goal

pub loop-number-init : goal.loop-number-init
loop-number-init c = marked_none c.args.marks.now c.args.numbers.now

pub loop-number-preserved : goal.loop-number-preserved
loop-number-preserved c = marked_more c.args.marks.now c.loop-number.marks c.args.numbers.now c.loop-number.number-index c.loop-number-test.true (c.requires c.loop-number.number-index c.loop-number-test.true) c.loop-number.invariant c.if-marks-at.false

pub returns-then-marks-at-clause-no : goal.returns-then-marks-at-clause-no
returns-then-marks-at-clause-no c = λ _. repeats c.args.marks.now c.loop-number.marks c.args.numbers.now c.loop-number.number-index c.loop-number-test.true (c.requires c.loop-number.number-index c.loop-number-test.true) c.loop-number.invariant c.if-marks-at.true

pub returns-clause-yes : goal.returns-clause-yes
returns-clause-yes c = λ _. marked_all c.args.marks.now c.loop-number.marks c.args.numbers.now c.loop-number.number-index (omega arith) c.loop-number.invariant
