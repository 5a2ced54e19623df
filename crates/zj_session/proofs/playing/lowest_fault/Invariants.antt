use Rattle.zj_session.proofs.Faults.{IsLowestCore, between}
use Rattle.zj_session.proofs.playing.lowest_fault.Given as goal

abbrev pub invariant-loop-i : goal.invariant-loop-i
invariant-loop-i l = IsLowestCore (between l.fn.out.answers l.fn.from l.i) l.lowest
