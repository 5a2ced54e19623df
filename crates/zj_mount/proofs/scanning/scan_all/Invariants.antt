use Rattle.zj_mount.proofs.ScanLemmas.{ReadTo}
use Rattle.zj_mount.proofs.scanning.scan_all.Given as goal

abbrev pub invariant-loop-core : goal.invariant-loop-core
invariant-loop-core g l = ReadTo g.D.Disk.view l.initial.areas l.areas l.counts.items l.core
