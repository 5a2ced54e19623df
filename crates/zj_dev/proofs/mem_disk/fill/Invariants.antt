use Rattle.std.proofs.Common.{◌≡◌, length, drop}
use Rattle.zj_dev.specs.Medium.{filled}
use Rattle.zj_dev.proofs.mem_disk.fill.Given as goal

abbrev pub invariant-loop-extent : goal.invariant-loop-extent
invariant-loop-extent l = (filled l.byte (drop l.extent-index l.extents) l.image ≡ filled l.byte l.extents l.initial.image) × (length l.image ≡ length l.initial.image)
