use Rattle.zj_layout.proofs.Ruled.{MarkedSome}
use Rattle.zj_layout.proofs.rules.mark_apart.Given as goal

abbrev pub invariant-loop-number : goal.invariant-loop-number
invariant-loop-number l = MarkedSome l.initial.marks l.marks l.numbers l.number-index
