use Rattle.std.proofs.Common.{◌≡◌, ◌≤◌, ◌+◌, ◌++◌, length, reverse}
use Rattle.std.specs.Vec.{vec_capacity, vec_len}
use Rattle.zj_session.proofs.starting.take_all.Given as goal

abbrev pub invariant-loop-area : goal.invariant-loop-area
invariant-loop-area g l = record {
  all : l.areas.areas ++ reverse l.waiting.items ≡ l.fn.areas.areas;
  capacity : vec_capacity l.waiting ≡ vec_capacity l.fn.waiting;
  many : length l.areas.areas + vec_len l.waiting ≡ length l.fn.areas.areas;
  spare : vec_len l.waiting ≤ l.areas.spare;
}

abbrev pub decreases-loop-area : goal.decreases-loop-area
decreases-loop-area g l = length l.areas.areas
