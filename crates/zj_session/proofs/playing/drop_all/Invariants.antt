use Rattle.std.proofs.Common.{◌≡◌, ◌++◌, map, take, drop}
use Rattle.zj_session.specs.Playing.{resting}
use Rattle.zj_session.proofs.playing.drop_all.Given as goal

abbrev pub invariant-loop-core : goal.invariant-loop-core
invariant-loop-core g l = l.core-items ≡ map resting (take l.core-index l.fn.cores) ++ drop l.core-index l.fn.cores
