-- What a shelf is: which device stands under each name.
use Rattle.std.specs.Prelude.{◌≡◌, ◌≢◌, ℕ, true, List, replicate, Option, Some, None, IfSome, ◌⊎◌}
use Rattle.zj_dev.specs.Disk.{DiskView, IsDisk}

-- What a shelf tells of a name: nothing, that no device has it, that its device is out, or its device.
pub data Slot : Type 0 where
  Untold : Slot
  Absent : Slot
  Out : Slot
  Stands : (disk : DiskView) → Slot

-- what a shelf tells of each name
abbrev pub ShelfView : Type 0
ShelfView = List ℕ → Slot

-- All other names stay as they were.
abbrev pub OthersStay : List ℕ → ShelfView → ShelfView → Type 0
OthersStay name old new = (other : List ℕ) → other ≢ name → new other ≡ old other

-- Opening takes the device that stands under the name, and answers None exactly where none does.
abbrev pub Opens : Slot → Slot → Option DiskView → Type 0
Opens Untold new disk = new ≡ Untold
Opens Absent new disk = (new ≡ Absent) × (disk ≡ None)
Opens Out new disk = (new ≡ Out) × (disk ≡ None)
Opens (Stands stood) new disk = (new ≡ Out) × (disk ≡ Some stood)

-- A device of zero bytes, with nothing pending, as far as it tells its bytes.
pub record IsBlank (count : ℕ) (disk : DiskView) : Type 0 where
  pub size : disk.size ≡ count
  pub bytes : IfSome disk.bytes (λ bytes. bytes ≡ replicate count 0)
  pub only : (image : List ℕ) → disk.may_leave disk.calls image ≡ true → image ≡ replicate count 0
  pub is_disk : IsDisk disk

-- Creating makes a blank device, which is then out, and answers None exactly where the name is taken. A device that was made has
-- the length that was asked for, also where the shelf tells nothing of the name.
abbrev pub Creates : ℕ → Slot → Slot → Option DiskView → Type 0
Creates size Untold new disk = (new ≡ Untold) × IfSome disk (λ made. made.size ≡ size)
Creates size Absent new disk = (new ≡ Out) × (made : DiskView) × (disk ≡ Some made) × IsBlank size made
Creates size Out new disk = (new ≡ Out) × (disk ≡ None)
Creates size (Stands stood) new disk = (new ≡ Stands stood) × (disk ≡ None)

-- Creating failed: where the name was free, a device of zero bytes may stand there.
abbrev pub FailsToCreate : Slot → Slot → Type 0
FailsToCreate Untold new = new ≡ Untold
FailsToCreate Absent new = (new ≡ Absent) ⊎ ((size : ℕ) × (made : DiskView) × (new ≡ Stands made) × IsBlank size made)
FailsToCreate Out new = new ≡ Out
FailsToCreate (Stands stood) new = new ≡ Stands stood

-- Closing puts the device back under a name that was out, also where it fails. Other names keep what they had.
abbrev pub Closes : DiskView → Slot → Slot → Type 0
Closes disk Untold new = new ≡ Untold
Closes disk Absent new = new ≡ Absent
Closes disk Out new = new ≡ Stands disk
Closes disk (Stands stood) new = new ≡ Stands stood
