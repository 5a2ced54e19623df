use Rattle.std.proofs.Common.{◌≡◌, true, length, drop}
use Rattle.zj_dev.specs.Medium.{may_be}
use Rattle.zj_dev.proofs.mem_disk.settle.Given as goal

abbrev pub invariant-loop-extent : goal.invariant-loop-extent
invariant-loop-extent l = (may_be (drop l.extent-index l.pending) 0 l.settled l.bytes ≡ true) × (length l.settled ≡ length l.bytes)
