-- What a shelf in memory has under each name.
use Rattle.std.specs.Prelude.{◌≡◌, ◌≢◌, ℕ, Bool, true, false, List, [], ◌∷◌, Option, Some, None, if◌then◌else◌, string_bytes}
use Rattle.std.specs.Str.{bytes_eq}
use Rattle.zj_dev.specs.Shelf.{Slot, ShelfView}
use Rattle.zj_dev.specs.Shelf as shelf
use Rattle.zj_dev.specs.MemDisk.{disk_view}
use Rattle.zj_dev.specs.declared.mem_disk.MemDisk.{MemDisk}
use Rattle.zj_dev.specs.declared.mem_shelf.Held.{Held}
use Rattle.zj_dev.specs.declared.mem_shelf.Held.TheVariants.{Absent, Out, Stands}
use Rattle.zj_dev.specs.declared.mem_shelf.ShelfPlace.{ShelfPlace}
use Rattle.zj_dev.specs.declared.mem_shelf.MemShelf.{MemShelf}

-- whether the place has this name
abbrev pub is_named : List ℕ → ShelfPlace → Bool
is_named name place = bytes_eq (string_bytes place.name) name

-- what the first place of that name has
abbrev pub held_at : List ShelfPlace → List ℕ → Held
held_at [] name = Absent
held_at (place ∷ rest) name = if is_named name place then place.held else held_at rest name

-- what the shelf has under a name
abbrev pub held_under : MemShelf → List ℕ → Held
held_under shelf name = held_at shelf.places.items name

-- the device that stands there
abbrev pub disk_in : Held → Option MemDisk
disk_in (Stands disk) = Some disk
disk_in Absent = None
disk_in Out = None

-- whether a device is out
abbrev pub is_out : Held → Bool
is_out Out = true
is_out Absent = false
is_out (Stands disk) = false

-- whether a device has the name, also one that is out
abbrev pub is_taken : Held → Bool
is_taken Absent = false
is_taken Out = true
is_taken (Stands disk) = true

-- what the shelf tells of it
abbrev pub slot_of : Held → Slot
slot_of Absent = shelf.Absent
slot_of Out = shelf.Out
slot_of (Stands disk) = shelf.Stands (disk_view disk)

-- what the shelf tells of each name
abbrev pub shelf_names : MemShelf → ShelfView
shelf_names shelf name = slot_of (held_under shelf name)

-- The shelf has under all other names what it had.
abbrev pub OthersHeld : List ℕ → MemShelf → MemShelf → Type 0
OthersHeld name old new = (other : List ℕ) → other ≢ name → held_under new other ≡ held_under old other

-- how many calls of the shelf have failed
abbrev pub shelf_faults : MemShelf → ℕ
shelf_faults shelf = shelf.calls.faults

-- the numbers of the calls that were told to fail
abbrev pub failing_calls_of : MemShelf → List ℕ
failing_calls_of shelf = shelf.calls.failing.items

-- how many calls were made since these were told
abbrev pub calls_of : MemShelf → ℕ
calls_of shelf = shelf.calls.made

-- No call of the trait was counted, and the same ones fail.
pub record SameCalls (old new : MemShelf) : Type 0 where
  pub failing : failing_calls_of new ≡ failing_calls_of old
  pub made : calls_of new ≡ calls_of old
