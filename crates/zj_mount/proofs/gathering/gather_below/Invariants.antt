use Rattle.std.proofs.Common.{map}
use Rattle.std.specs.Prelude.{slice_index}
use Rattle.zj_mount.proofs.GatherLemmas.{GatheredTo}
use Rattle.zj_mount.proofs.gathering.gather_below.Given as goal

abbrev pub invariant-loop-core : goal.invariant-loop-core
invariant-loop-core g l = GatheredTo (map g.J.Journal.journal l.initial.journals) (map g.J.Journal.journal l.journals) (slice_index l.bounds) l.heads.items l.images l.core
