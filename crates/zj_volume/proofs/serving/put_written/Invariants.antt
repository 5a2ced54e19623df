use Rattle.std.proofs.Common.{◌≡◌, drop}
use Rattle.std.specs.FinMap as map_of
use Rattle.zj_history.specs.State.{put_all}
use Rattle.zj_volume.proofs.serving.put_written.Given as goal

abbrev pub invariant-loop-i : goal.invariant-loop-i
invariant-loop-i l = l.blocks ≡ put_all l.fn.blocks (drop l.i (map_of.entries l.written))
