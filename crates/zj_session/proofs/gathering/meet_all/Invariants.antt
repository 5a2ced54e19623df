use Rattle.std.proofs.Common.{true}
use Rattle.zj_session.proofs.Moving.{MovedTo}
use Rattle.zj_session.proofs.Seen.{joining, joining_aside}
use Rattle.zj_session.proofs.gathering.meet_all.Given as goal

abbrev pub invariant-loop-other : goal.invariant-loop-other
invariant-loop-other g l = MovedTo joining joining_aside true l.fn.core l.fn.others l.core l.other-items l.other-index
