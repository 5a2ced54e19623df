-- What is outside of a call of the tool, before it and after it.
use Rattle.std.specs.Prelude.{◌≡◌, ℕ, List, Option}
use Rattle.zj_dev.specs.Shelf.{ShelfView}

-- The bytes left in the input and those that the output holds, where they are told; what the shelf tells of each name; and how
-- many faults each of the three has met.
pub record Outside : Type 0 where
  pub left : Option (List ℕ)
  pub held : Option (List ℕ)
  pub names : ShelfView
  pub input_faults : ℕ
  pub output_faults : ℕ
  pub shelf_faults : ℕ

-- None of the three met a fault.
pub record MeetsNoFault (before after : Outside) : Type 0 where
  pub input : after.input_faults ≡ before.input_faults
  pub output : after.output_faults ≡ before.output_faults
  pub shelf : after.shelf_faults ≡ before.shelf_faults

-- Nothing was written.
abbrev pub IsUnwritten : Outside → Outside → Type 0
IsUnwritten before after = after.held ≡ before.held
