-- What the devices of an image hold that stand on a shelf. A shelf may leave devices and their bytes untold: nothing is said of those.
use Rattle.std.specs.Prelude.{◌≡◌, ℕ, ◌<◌, List, length, IfSome, ⊤}
use Rattle.zj_block.specs.Sizes.{Numbers}
use Rattle.zj_dev.specs.Fault.{Rose}
use Rattle.zj_dev.specs.Shelf.{ShelfView, Slot, Untold, Absent, Out, Stands}
use Rattle.zj_home.specs.Made.{HoldsBlocks}
use Rattle.zj_home.specs.Super.{OpensAs, Super}
use Rattle.zj_tree.specs.Tree.{FileTree}
use Rattle.zj_layout.specs.Shows.{Shows}
use Rattle.zj_mount.specs.Set.{home_name, journal_name}

-- a device stands there, and its bytes have this property
abbrev pub OfDevice : Slot → (List ℕ → Type 0) → Type 0
OfDevice Untold P = ⊤
OfDevice (Stands disk) P = IfSome disk.bytes P
OfDevice Absent P = ⊥
OfDevice Out P = ⊥

-- a device stands there, and its length has this property
abbrev pub OfLength : Slot → (ℕ → Type 0) → Type 0
OfLength Untold P = ⊤
OfLength (Stands disk) P = P disk.size
OfLength Absent P = ⊥
OfLength Out P = ⊥

-- no device is at hand there
abbrev pub IsMissing : Slot → Type 0
IsMissing Untold = ⊤
IsMissing Absent = ⊤
IsMissing Out = ⊤
IsMissing (Stands disk) = ⊥

-- the home that stands there opens, and its super is this
abbrev pub HasHome : ShelfView → Super → Type 0
HasHome names super = OfDevice (names home_name) (λ image. OpensAs image super)

-- the journals of the first cores, so many, stand there, each as long as its area
abbrev pub HasJournals : ShelfView → Super → ℕ → Type 0
HasJournals names super count = (core : ℕ) → core < count → OfLength (names (journal_name core)) (λ len. len ≡ super.sizes.area)

-- the count of faults of the device under a name rose
abbrev pub RoseUnder : Slot → Slot → Type 0
RoseUnder Untold now = ⊤
RoseUnder (Stands old) (Stands new) = Rose old.faults new.faults
RoseUnder (Stands old) Untold = ⊥
RoseUnder (Stands old) Absent = ⊥
RoseUnder (Stands old) Out = ⊥
RoseUnder Absent now = ⊥
RoseUnder Out now = ⊥

-- The blocks of a home with these bytes show the tree.
pub record ShowsIn (sizes : Numbers) (image : List ℕ) (tree : FileTree) : Type 0 where
  pub blocks : List (List ℕ)
  pub held : HoldsBlocks image blocks (length blocks)
  pub shows : Shows sizes blocks tree
