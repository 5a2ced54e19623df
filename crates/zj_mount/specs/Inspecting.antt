-- What an image holds whose journals may hold records, and why it can't be told.
use Rattle.std.specs.Prelude.{◌≡◌, ◌⊎◌, ℕ, ◌-◌, ◌<◌, ◌≤◌, true, List, length, All, None, Some, IfSome, IsSomeAnd, MatchOption, slice_get, ⊤}
use Rattle.zj_block.specs.Block.{IsContent}
use Rattle.zj_block.specs.Sizes.{Numbers}
use Rattle.zj_block.specs.declared.numbers.Tail.{Tail}
use Rattle.zj_block.specs.declared.sizes.TheConstants.{MAX_CORES}
use Rattle.zj_dev.specs.Disk.{DiskView, OnlyReads}
use Rattle.zj_dev.specs.Fault.{Rose}
use Rattle.zj_dev.specs.declared.device.Device.TheVariants as devices
use Rattle.zj_history.specs.Transactions.{Bounds}
use Rattle.zj_home.specs.Made.{HoldsBlocks}
use Rattle.zj_home.specs.Super.{Super}
use Rattle.zj_tx.specs.Record.{Record}
use Rattle.zj_area.specs.Journal.{JournalView}
use Rattle.zj_area.specs.Ring.{Holds, IsDamaged}
use Rattle.zj_closure.specs.Found.{Journals, records_of, tail_of}
use Rattle.zj_closure.specs.Kept.{AreKept}
use Rattle.zj_closure.specs.Recovered.{kept_records, recovered}
use Rattle.zj_layout.specs.Image.{State, image_of}
use Rattle.zj_layout.specs.Rules.{FailsFirst}
use Rattle.zj_layout.specs.Shows.{Shows, limits_of}
use Rattle.zj_mount.specs.Recovered.{Restored}
use Rattle.zj_mount.specs.declared.fault.MountFault.{MountFault}
use Rattle.zj_mount.specs.declared.fault.MountFault.TheVariants as faults
use Rattle.zj_mount.specs.declared.recovered.Tally.{Tally}

-- ---- the journals

-- A journal is that of a core of an image: with the image's sizes, and from home's tail of that core on.
abbrev pub IsJournalAt : Super → ℕ → JournalView → Type 0
IsJournalAt super core j = IfSome (slice_get super.tails core) (λ tail. (j.sizes ≡ super.sizes) × (j.core ≡ core) × (j.tail ≡ tail))

-- The journals are those of an image, in the order of their cores.
pub record AreJournals (super : Super) (journals : List JournalView) : Type 0 where
  pub many : length journals ≡ super.sizes.cores
  pub few : length journals ≤ MAX_CORES
  pub each : (core : ℕ) → core < MAX_CORES → IfSome (slice_get journals core) (IsJournalAt super core)

-- A journal's device was only read, and the journal is as it was but for its device, whether it was read, and where its
-- records end.
pub record IsOnlyRead (old new : JournalView) : Type 0 where
  pub reads : OnlyReads old.disk new.disk
  pub same : new ≡ record old { disk = new.disk; ready = new.ready; end = new.end }

-- each journal is there still, and was only read
abbrev pub AreOnlyRead : List JournalView → List JournalView → Type 0
AreOnlyRead old new = (core : ℕ) → MatchOption (slice_get old core) (slice_get new core ≡ None) (λ a. IsSomeAnd (slice_get new core) (IsOnlyRead a))

-- the first journals, so many, are ready
abbrev pub AreAllReady : List JournalView → ℕ → Type 0
AreAllReady journals many = (core : ℕ) → core < many → IsSomeAnd (slice_get journals core) (λ j. j.ready ≡ true)

-- the device of a journal holds these records from the tail on
abbrev pub JournalHolds : JournalView → List Record → Type 0
JournalHolds j records = IfSome j.disk.bytes (λ image. (end : Tail) × Holds j.sizes j.core image j.tail records end)

-- the first journals, so many, hold these records
abbrev pub AreFound : List JournalView → Journals → ℕ → Type 0
AreFound journals found many = (core : ℕ) → core < many → IsSomeAnd (slice_get journals core) (λ j. IsSomeAnd (slice_get found core) (JournalHolds j))

-- All journals hold these records, and this is what is kept of them: the greatest consistent cut found.
pub record HoldKept (super : Super) (journals : List JournalView) (found : Journals) (kept : Bounds) : Type 0 where
  pub many : length found ≡ super.sizes.cores
  pub holds : AreFound journals found super.sizes.cores
  pub is_kept : AreKept (tail_of super.tails) found kept

-- ---- what is recovered

-- Home has these blocks: as many as its sizes say, and those that its device holds.
pub record HomeHolds (sizes : Numbers) (home : DiskView) (blocks : State) : Type 0 where
  pub many : length blocks ≡ sizes.blocks
  pub contents : All IsContent blocks
  pub held : IfSome home.bytes (λ image. HoldsBlocks image blocks (length blocks))

-- what the journal of a core held: from which number on, how many records, and how many of these are kept
abbrev pub tally_of : Bounds → Journals → Bounds → ℕ → Tally
tally_of tails found kept core = record { from = tails core; found = length (records_of found core); kept = kept core - tails core }

-- What is recovered of an image: home's blocks under the newest images of the records that are kept, the tree that these
-- blocks show, and what each journal held.
pub record Inspects (super : Super) (home : DiskView) (journals : List JournalView) (restored : Restored) : Type 0 where
  pub found : Journals
  pub kept : Bounds
  pub base : State
  pub holds : HoldKept super journals found kept
  pub held : HomeHolds super.sizes home base
  pub blocks : restored.blocks ≡ recovered (kept_records found kept) base
  pub shows : Shows super.sizes restored.blocks restored.tree.tree
  pub limits : restored.tree.limits ≡ limits_of super.sizes
  pub sizes : restored.sizes ≡ super.sizes
  pub many : length restored.journals ≡ super.sizes.cores
  pub tallies : (core : ℕ) → core < super.sizes.cores → slice_get restored.journals core ≡ Some (tally_of (tail_of super.tails) found kept core)

-- ---- why it can't be told

-- the journals before this one hold some records or none
abbrev pub AreFoundBefore : List JournalView → ℕ → Type 0
AreFoundBefore journals core = (found : Journals) × AreFound journals found core

-- why the journal of a core was not read
abbrev pub IsOneCause : ℕ → JournalView → JournalView → MountFault → Type 0
IsOneCause core old new faults.NoMemory = ⊤
IsOneCause core old new (faults.DiskFault device) = (device ≡ devices.Journal core) × Rose old.disk.faults new.disk.faults
IsOneCause core old new (faults.Damaged device at found expected) = (device ≡ devices.Journal core) × IfSome old.disk.bytes (λ image. IsDamaged old.sizes old.core image old.tail at found expected)
IsOneCause core old new fault = ⊥

-- Why the journals were not all read: the device of one failed, or its bytes are damaged, and those before it were read.
abbrev pub IsFindCause : List JournalView → List JournalView → MountFault → Type 0
IsFindCause old new (faults.DiskFault (devices.Journal core)) = AreFoundBefore old core × IsSomeAnd (slice_get old core) (λ a. IsSomeAnd (slice_get new core) (λ b. Rose a.disk.faults b.disk.faults))
IsFindCause old new (faults.Damaged (devices.Journal core) at found expected) =
    AreFoundBefore old core × IsSomeAnd (slice_get old core) (λ a. IfSome a.disk.bytes (λ image. IsDamaged a.sizes a.core image a.tail at found expected))
IsFindCause old new faults.NoMemory = ⊤
IsFindCause old new fault = ⊥

-- The recovered blocks show no tree: this is the first rule that fails, and the lowest block at which it does.
pub record FailsRecovered (sizes : Numbers) (home : DiskView) (records : List Record) (rule block : ℕ) : Type 0 where
  pub base : State
  pub held : HomeHolds sizes home base
  pub fails : FailsFirst sizes (image_of sizes (recovered records base)) rule block

-- Why kept records give no tree: home's device failed, or the blocks that are recovered show none.
abbrev pub IsRecoverCause : Numbers → DiskView → DiskView → List Record → MountFault → Type 0
IsRecoverCause sizes old new records (faults.DiskFault devices.Home) = Rose old.faults new.faults
IsRecoverCause sizes old new records (faults.NoTree rule block) = FailsRecovered sizes old records rule block
IsRecoverCause sizes old new records faults.NoMemory = ⊤
IsRecoverCause sizes old new records fault = ⊥

-- All journals hold records, and what is kept of them gives no tree.
pub record KeepsNoTree (super : Super) (home home' : DiskView) (journals : List JournalView) (fault : MountFault) : Type 0 where
  pub found : Journals
  pub kept : Bounds
  pub holds : HoldKept super journals found kept
  pub cause : IsRecoverCause super.sizes home home' (kept_records found kept) fault

-- Why an image was not inspected: by its journals first; and where all were read, by home and what they leave of it.
abbrev pub IsInspectCause : Super → DiskView → DiskView → List JournalView → List JournalView → MountFault → Type 0
IsInspectCause super home home' old new fault = IsFindCause old new fault ⊎ KeepsNoTree super home home' old fault
