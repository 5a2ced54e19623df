-- The tree of an image whose journals hold no record, and why there is none.
use Rattle.std.specs.Prelude.{◌≡◌, ◌⊎◌, ℕ, ◌<◌, ◌≤◌, List, [], ◌∷◌, length, IfSome, IsSomeAnd, slice_get, ⊤}
use Rattle.zj_block.specs.Sizes.{Numbers}
use Rattle.zj_block.specs.declared.sizes.TheConstants.{MAX_CORES}
use Rattle.zj_dev.specs.Fault.{Rose}
use Rattle.zj_dev.specs.Disk.{DiskView}
use Rattle.zj_dev.specs.declared.device.Device.TheVariants as devices
use Rattle.zj_home.specs.Super.{Super}
use Rattle.zj_home.specs.Made.{HoldsBlocks}
use Rattle.zj_tx.specs.Record.{Record}
use Rattle.zj_area.specs.Journal.{AreaView}
use Rattle.zj_tree.specs.Tree.{FileTree}
use Rattle.zj_layout.specs.declared.faults.TreeFault.{TreeFault}
use Rattle.zj_layout.specs.declared.faults.TreeFault.TheVariants as trees
use Rattle.zj_layout.specs.Image.{State, image_of}
use Rattle.zj_layout.specs.Shows.{Shows}
use Rattle.zj_layout.specs.Rules.{FailsFirst}
use Rattle.zj_mount.specs.declared.fault.MountFault.{MountFault}
use Rattle.zj_mount.specs.declared.fault.MountFault.TheVariants as faults
use Rattle.zj_mount.specs.Settling.{IsSettleCause}
use Rattle.zj_mount.specs.Scanning.{AreCounted, AreaHolds, FailsAt, IsDamagedAt}

-- An area is the journal of that core of an image: with the image's sizes, and from home's tail of that core on.
abbrev pub IsJournalOf : {D : Type 0} → Super → ℕ → AreaView D → Type 0
IsJournalOf super core area = IfSome (slice_get super.tails core) (λ tail. (area.sizes ≡ super.sizes) × (area.core ≡ core) × (area.tail ≡ tail))

-- The areas are the journals of an image, in the order of their cores.
pub record AreInOrder {D : Type 0} (super : Super) (areas : List (AreaView D)) : Type 0 where
  pub many : length areas ≡ super.sizes.cores
  pub few : length areas ≤ MAX_CORES
  pub journals : (core : ℕ) → core < MAX_CORES → IfSome (slice_get areas core) (IsJournalOf super core)

-- The blocks of a home with these bytes show no tree: this is the first rule that fails, and the lowest block at which it does.
pub record FailsIn (sizes : Numbers) (image : List ℕ) (rule block : ℕ) : Type 0 where
  pub blocks : List (List ℕ)
  pub many : length blocks ≡ sizes.blocks
  pub held : HoldsBlocks image blocks (length blocks)
  pub fails : FailsFirst sizes (image_of sizes blocks) rule block

-- the fault of blocks that show no tree
abbrev pub fault_of_tree : TreeFault → MountFault
fault_of_tree (trees.NoTree rule block) = faults.NoTree rule block
fault_of_tree trees.NoMemory = faults.NoMemory

-- Each of the first areas, so many, holds no record.
abbrev pub AreEmpty : {D : Type 0} → (D → DiskView) → List (AreaView D) → ℕ → Type 0
AreEmpty view areas count = (core : ℕ) → core < count → IsSomeAnd (slice_get areas core) (λ a. AreaHolds view a [])

-- No area holds a record, and home holds these blocks, which show the tree.
pub record HasTree {D : Type 0} (view : D → DiskView) (super : Super) (home : D) (areas : List (AreaView D)) (blocks : State) (tree : FileTree) : Type 0 where
  pub empty : AreEmpty view areas (length areas)
  pub held : IfSome (view home).bytes (λ image. HoldsBlocks image blocks (length blocks))
  pub shows : Shows super.sizes blocks tree

-- This area is the first that holds a record, and all hold some or none.
pub record HoldsFirst {D : Type 0} (view : D → DiskView) (areas : List (AreaView D)) (core : ℕ) : Type 0 where
  pub within : core < length areas
  pub counts : List ℕ
  pub counted : AreCounted view areas counts (length areas)
  pub before : AreEmpty view areas core
  pub here : IsSomeAnd (slice_get areas core) (λ a. (first : Record) × (rest : List Record) × AreaHolds view a (first ∷ rest))

-- The areas before this one hold records or none.
abbrev pub AreReadBefore : {D : Type 0} → (D → DiskView) → List (AreaView D) → ℕ → Type 0
AreReadBefore view areas core = (counts : List ℕ) × AreCounted view areas counts core

-- Why the journals are not all without a record: the device of one failed, its bytes are damaged, or it is the first that holds a record.
abbrev pub IsUsedCause : {D : Type 0} → (D → DiskView) → List (AreaView D) → List (AreaView D) → MountFault → Type 0
IsUsedCause view old new (faults.DiskFault (devices.Journal core)) = AreReadBefore view old core × IsSomeAnd (slice_get old core) (λ a. IsSomeAnd (slice_get new core) (λ b. FailsAt view a b))
IsUsedCause view old new (faults.Damaged (devices.Journal core) at found expected) = AreReadBefore view old core × IsSomeAnd (slice_get old core) (λ a. IsDamagedAt view a at found expected)
IsUsedCause view old new (faults.Unbuilt (devices.Journal core)) = HoldsFirst view old core
IsUsedCause view old new faults.NoMemory = ⊤
IsUsedCause view old new fault = ⊥

-- Why home gives no tree: its device failed, or its blocks show none.
abbrev pub IsHomeCause : {D : Type 0} → (D → DiskView) → Super → D → D → MountFault → Type 0
IsHomeCause view super old new (faults.DiskFault devices.Home) = Rose (view old).faults (view new).faults
IsHomeCause view super old new (faults.NoTree rule block) = IfSome (view old).bytes (λ image. FailsIn super.sizes image rule block)
IsHomeCause view super old new faults.NoMemory = ⊤
IsHomeCause view super old new fault = ⊥

-- Why an image was not mounted: a device was not settled; or else by its journals first; and where none holds a record, by home.
abbrev pub IsMountCause : {D : Type 0} → (D → DiskView) → Super → D → D → List (AreaView D) → List (AreaView D) → MountFault → Type 0
IsMountCause view super home home' old new fault = IsSettleCause view home home' old new fault ⊎ IsUsedCause view old new fault ⊎ (AreEmpty view old (length old) × IsHomeCause view super home home' fault)
