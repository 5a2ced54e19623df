use Rattle.std.proofs.Common.{◌≡◌, ◌+◌, ◌++◌, length}
use Rattle.std.specs.Vec.Iter.{into_iter_items, into_iter_len}
use Rattle.zj_session.specs.Playing.{AreIdle, journals_of}
use Rattle.zj_session.proofs.starting.close_all.Given as goal

abbrev pub invariant-loop-core : goal.invariant-loop-core
invariant-loop-core g l = record {
  all : l.places.areas ++ journals_of (into_iter_items l.left) ≡ l.fn.places.areas ++ journals_of l.fn.cores.items;
  spare : l.places.spare + length l.fn.cores.items ≡ l.fn.places.spare + into_iter_len l.left;
  count : length (into_iter_items l.left) ≡ into_iter_len l.left;
  idle : AreIdle (into_iter_items l.left);
}

abbrev pub decreases-loop-core : goal.decreases-loop-core
decreases-loop-core g l = into_iter_len l.left
