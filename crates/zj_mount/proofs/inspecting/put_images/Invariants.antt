use Rattle.zj_mount.proofs.InspectLemmas.{AreOver}
use Rattle.zj_mount.proofs.inspecting.put_images.Given as goal

abbrev pub invariant-loop-i : goal.invariant-loop-i
invariant-loop-i l = AreOver l.images l.initial.blocks l.blocks l.i
