-- What stays of a block where some of its bytes are put.
use Rattle.std.specs.Prelude.{◌≡◌, ◌⊎◌, ℕ, ◌+◌, ◌<◌, ◌≤◌, List, slice_index}
use Rattle.zj_block.specs.Block.{bytes_of}
use Rattle.zj_layout.specs.declared.fields.Kind.{Kind}
use Rattle.zj_layout.specs.declared.fields.Kind.TheVariants as kinds

-- The bytes but some from a place on are as they were.
pub record KeepsBytesOff (old new : List ℕ) (at count : ℕ) : Type 0 where
  pub each : (m : ℕ) → (m < at) ⊎ (at + count ≤ m) → slice_index (bytes_of new) m ≡ slice_index (bytes_of old) m

-- the number that a kind is spelled by
abbrev pub kind_number : Kind → ℕ
kind_number kinds.Free = 0
kind_number kinds.File = 1
kind_number kinds.Dir = 2
