use Rattle.zj_mount.proofs.InspectLemmas.{AreCopied}
use Rattle.zj_mount.proofs.gathering.tails_of.Given as goal

abbrev pub invariant-loop-core : goal.invariant-loop-core
invariant-loop-core g l = AreCopied l.home.told.tails l.tails l.core
