use Rattle.std.proofs.Common.{◌≡◌, length, take, None}
use Rattle.std.specs.Prelude.{All, map}
use Rattle.std.specs.List.{range_with_len}
use Rattle.zj_home.specs.Super.{IsTail, tail_in, tails_fault}
use Rattle.zj_home.proofs.slot.read_tails.Given as goal

-- the tails read so far have no fault
abbrev pub invariant-loop-core : goal.invariant-loop-core
invariant-loop-core l = record {
  none : tails_fault l.head l.slot l.sizes l.core ≡ None;
  read : take l.core l.tails ≡ map (λ core. tail_in l.head l.slot core) (range_with_len 0 l.core);
  many : length l.tails ≡ 64;
  sound : All (IsTail l.sizes) (take l.core l.tails);
}
