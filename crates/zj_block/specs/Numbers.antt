-- A number or a tail for each of 64 cores.
use Rattle.std.specs.Prelude.{◌≡◌, ℕ, ◌^◌, ◌<◌, List, length, replicate, slice_index}
use Rattle.zj_block.specs.declared.numbers.Tail.{Tail}

-- 64 numbers, each of 64 bits
pub record IsBounds (bounds : List ℕ) : Type 0 where
  pub many : length bounds ≡ 64
  pub fits : (core : ℕ) → slice_index bounds core < 2 ^ 64

-- 0 for each core
unfoldable pub zero_bounds : List ℕ
zero_bounds = replicate 64 0

-- place 0 and number 0
abbrev pub zero_tail : Tail
zero_tail = record { place = 0; number = 0 }

-- that tail for each core
unfoldable pub zero_tails : List Tail
zero_tails = replicate 64 zero_tail
