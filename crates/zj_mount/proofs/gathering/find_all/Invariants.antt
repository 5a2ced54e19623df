use Rattle.std.proofs.Common.{map}
use Rattle.zj_mount.proofs.InspectLemmas.{FoundTo}
use Rattle.zj_mount.proofs.gathering.find_all.Given as goal

abbrev pub invariant-loop-core : goal.invariant-loop-core
invariant-loop-core g l = FoundTo (map g.J.Journal.journal l.initial.journals) (map g.J.Journal.journal l.journals) l.found.items l.core
