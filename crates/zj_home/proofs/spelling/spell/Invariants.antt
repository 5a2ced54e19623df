use Rattle.std.proofs.Common.{◌≡◌, ◌+◌, ◌*◌, ◌++◌, length, take}
use Rattle.std.specs.List.{flat_map}
use Rattle.zj_home.specs.Made.{field_bytes, tail_bytes}
use Rattle.zj_home.proofs.spelling.spell.Given as goal

-- the fields, and the tails so far
abbrev pub invariant-loop-core : goal.invariant-loop-core
invariant-loop-core l = record {
  spelled : l.slot ≡ field_bytes l.told.epoch l.told.sizes ++ flat_map tail_bytes (take l.core l.told.tails);
  len : length l.slot ≡ 40 + 16 * l.core;
}
