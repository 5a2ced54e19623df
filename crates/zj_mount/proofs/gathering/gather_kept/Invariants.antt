use Rattle.std.proofs.Common.{map}
use Rattle.zj_mount.specs.Inspecting.{AreOnlyRead}
use Rattle.zj_mount.proofs.gathering.gather_kept.Given as goal

abbrev pub invariant-loop-reading : goal.invariant-loop-reading
invariant-loop-reading g l = AreOnlyRead (map g.J.Journal.journal l.initial.journals) (map g.J.Journal.journal l.journals)
