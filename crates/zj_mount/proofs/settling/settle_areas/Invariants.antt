use Rattle.zj_mount.proofs.SettleLemmas.{SettledTo}
use Rattle.zj_mount.proofs.settling.settle_areas.Given as goal

abbrev pub invariant-loop-core : goal.invariant-loop-core
invariant-loop-core g l = SettledTo g.D.Disk.view l.initial.areas l.areas l.core
