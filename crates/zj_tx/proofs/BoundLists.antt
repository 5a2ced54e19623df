-- Bounds as lists of 64 numbers.
use Rattle.std.proofs.Common.{◌≡◌, ◌≢◌, ℕ, ◌<◌, ◌≤◌, List, length, arith, get_or-set_same, get_or-set_other}
use Rattle.std.specs.Prelude.{slice_index, slice_set}
use Rattle.std.proofs.lemmas.List.{get_or_past}
use Rattle.zj_block.specs.Numbers.{IsBounds}

-- from core 64 on a bound is 0
pub past : (b : List ℕ) (core : ℕ) → IsBounds b → 64 ≤ core → slice_index b core ≡ 0
past b core is le = let many = is.many in get_or_past b core 0 (omega (arith, many, le))

-- a bound that was set, and the others
pub set_same : (b : List ℕ) (core bound : ℕ) → core < length b → slice_index (slice_set b core bound) core ≡ bound
set_same b core bound within = get_or-set_same b core bound 0 within

pub set_other : (b : List ℕ) (core bound other : ℕ) → other ≢ core → slice_index (slice_set b core bound) other ≡ slice_index b other
set_other b core bound other ne = get_or-set_other b core other bound 0 ne
