-- The tree of an image that stands on a shelf and whose journals hold no record, and why there is none.
use Rattle.std.specs.Prelude.{◌≡◌, ◌⊎◌, ℕ, ◌<◌, List, [], ◌∷◌, length}
use Rattle.zj_dev.specs.Shelf.{ShelfView}
use Rattle.zj_dev.specs.declared.device.Device.TheVariants as devices
use Rattle.zj_home.specs.Made.{HoldsBlocks}
use Rattle.zj_home.specs.Super.{Super}
use Rattle.zj_tx.specs.Record.{Record}
use Rattle.zj_tree.specs.Tree.{FileTree}
use Rattle.zj_layout.specs.Image.{State}
use Rattle.zj_layout.specs.Shows.{Shows}
use Rattle.zj_mount.specs.Image.{HasHome, HasJournals, OfDevice}
use Rattle.zj_mount.specs.Mounting.{FailsIn}
use Rattle.zj_mount.specs.Set.{home_name}
use Rattle.zj_cli.specs.declared.status.ImageFault.{ImageFault}
use Rattle.zj_cli.specs.declared.status.ImageFault.TheVariants as images
use Rattle.zj_cli.specs.Check.{AllHold, IsImageCause, JournalHolds}

-- The journals of the first cores, so many, hold no record.
abbrev pub HoldNothing : ShelfView → Super → ℕ → Type 0
HoldNothing names super count = (core : ℕ) → core < count → JournalHolds names super core []

-- An image whose journals hold no record.
pub record IsUnused (names : ShelfView) (super : Super) : Type 0 where
  pub home : HasHome names super
  pub journals : HasJournals names super super.sizes.cores
  pub empty : HoldNothing names super super.sizes.cores

-- Such an image whose home holds these blocks, which show the tree.
pub record Mounts (names : ShelfView) (super : Super) (start : State) (tree : FileTree) : Type 0 where
  pub rests : IsUnused names super
  pub held : OfDevice (names home_name) (λ image. HoldsBlocks image start (length start))
  pub shows : Shows super.sizes start tree

-- All journals hold records that follow one another, and this is the first that holds one.
pub record IsFirstUsed (names : ShelfView) (super : Super) (core : ℕ) : Type 0 where
  pub home : HasHome names super
  pub journals : HasJournals names super super.sizes.cores
  pub hold : AllHold names super super.sizes.cores
  pub within : core < super.sizes.cores
  pub before : HoldNothing names super core
  pub first : Record
  pub rest : List Record
  pub here : JournalHolds names super core (first ∷ rest)

-- Why an image gives no tree.
abbrev pub IsTreeCause : ShelfView → ImageFault → Type 0
IsTreeCause names fault = IsImageCause names fault
    ⊎ ((core : ℕ) × (super : Super) × (fault ≡ images.Unbuilt (devices.Journal core)) × IsFirstUsed names super core)
    ⊎ ((rule block : ℕ) × (super : Super) × (fault ≡ images.NoTree rule block) × IsUnused names super × OfDevice (names home_name) (λ image. FailsIn super.sizes image rule block))
