use Rattle.std.proofs.Common.{false}
use Rattle.zj_session.proofs.Moving.{MovedTo}
use Rattle.zj_session.proofs.Seen.{parting, parting_aside}
use Rattle.zj_session.proofs.gathering.part_all.Given as goal

abbrev pub invariant-loop-other : goal.invariant-loop-other
invariant-loop-other g l = MovedTo parting parting_aside false l.fn.core l.fn.others l.core l.other-items l.other-index
