-- What `check` prints, and why it refuses an image. A shelf may leave devices and their bytes untold: nothing is said of those.
use Rattle.std.specs.Prelude.{◌≡◌, ◌⊎◌, ℕ, ◌-◌, ◌<◌, All, List, [], ◌∷◌, ◌++◌, length, Option, Some, None, IfSome, slice_get, codes, decimal, ⊤}
use Rattle.std.specs.List.{flat_map, range_with_len}
use Rattle.std.specs.Option.{option_map, unwrap_or}
use Rattle.zj_block.specs.Block.{IsContent}
use Rattle.zj_block.specs.declared.numbers.Tail.{Tail}
use Rattle.zj_dev.specs.Fault.{Rose}
use Rattle.zj_dev.specs.Disk.{DiskView}
use Rattle.zj_dev.specs.Stream.{Took}
use Rattle.zj_dev.specs.Shelf.{ShelfView}
use Rattle.zj_dev.specs.declared.device.Device.{Device}
use Rattle.zj_dev.specs.declared.device.Device.TheVariants as devices
use Rattle.zj_history.specs.Transactions.{Bounds}
use Rattle.zj_home.specs.Made.{HoldsBlocks}
use Rattle.zj_home.specs.Super.{Super}
use Rattle.zj_tx.specs.Record.{Record}
use Rattle.zj_area.specs.Journal.{JournalView}
use Rattle.zj_area.specs.Ring.{Holds, IsDamaged}
use Rattle.zj_closure.specs.Found.{Journals, records_of, tail_of}
use Rattle.zj_closure.specs.Kept.{AreKept}
use Rattle.zj_closure.specs.Recovered.{kept_records, recovered}
use Rattle.std.specs.FinMap as map_of
use Rattle.zj_tree.specs.declared.content.Content.{Content}
use Rattle.zj_tree.specs.Tree.{FileTree, entry_count, node_count, used}
use Rattle.zj_script.specs.Entries.{entry_text}
use Rattle.zj_layout.specs.Image.{State, image_of}
use Rattle.zj_layout.specs.Rules.{FailsFirst}
use Rattle.zj_layout.specs.Shows.{Shows}
use Rattle.zj_mount.specs.declared.fault.MountFault.{MountFault}
use Rattle.zj_mount.specs.declared.fault.OpenFault.TheVariants as opens
use Rattle.zj_mount.specs.declared.recovered.Tally.{Tally}
use Rattle.zj_mount.specs.Image.{HasHome, HasJournals, OfDevice, RoseUnder}
use Rattle.zj_mount.specs.Inspecting.{HoldKept, HomeHolds, IsInspectCause}
use Rattle.zj_mount.specs.Opening.{IsReached, IsRefusal}
use Rattle.zj_mount.specs.Recovered.{Restored}
use Rattle.zj_mount.specs.Set.{AllBack, home_name, journal_name}
use Rattle.zj_cli.specs.declared.check.Telling.{Telling}
use Rattle.zj_cli.specs.declared.check.Telling.TheVariants as tellings
use Rattle.zj_cli.specs.declared.status.ImageFault.{ImageFault}
use Rattle.zj_cli.specs.declared.status.ImageFault.TheVariants as images
use Rattle.zj_cli.specs.declared.status.Fault.{Fault}
use Rattle.zj_cli.specs.declared.status.Fault.TheVariants as faults
use Rattle.zj_cli.specs.Faults.{fault_of_mounting}
use Rattle.zj_cli.specs.Outside.{IsUnwritten, MeetsNoFault, Outside}

-- the journal of a core, read from its tail on, has this property
abbrev pub OfJournal : ShelfView → Super → ℕ → (List ℕ → Tail → Type 0) → Type 0
OfJournal names super core P = IfSome (slice_get super.tails core) (λ tail. OfDevice (names (journal_name core)) (λ image. P image tail))

-- the journal of a core holds these records
abbrev pub JournalHolds : ShelfView → Super → ℕ → List Record → Type 0
JournalHolds names super core records = OfJournal names super core (λ image tail. (end : Tail) × Holds super.sizes core image tail records end)

-- the journals of the first cores, so many, each hold some records
abbrev pub AllHold : ShelfView → Super → ℕ → Type 0
AllHold names super count = (core : ℕ) → core < count → (records : List Record) × JournalHolds names super core records

-- ---- what is recovered of an image

-- What the devices of an image hold: records in each journal, of which the greatest consistent cut found is kept, and
-- blocks in home.
pub record IsHeld (names : ShelfView) (super : Super) (found : Journals) (kept : Bounds) (base : State) : Type 0 where
  pub home : HasHome names super
  pub journals : HasJournals names super super.sizes.cores
  pub many : length found ≡ super.sizes.cores
  pub records : (core : ℕ) → core < super.sizes.cores → JournalHolds names super core (records_of found core)
  pub is_kept : AreKept (tail_of super.tails) found kept
  pub many_blocks : length base ≡ super.sizes.blocks
  pub contents : All IsContent base
  pub blocks : OfDevice (names home_name) (λ image. HoldsBlocks image base (length base))

-- The tree of an image: that of home's blocks under the newest images of what is kept.
pub record IsRecovered (names : ShelfView) (super : Super) (found : Journals) (kept : Bounds) (tree : FileTree) : Type 0 where
  pub base : State
  pub held : IsHeld names super found kept base
  pub shows : Shows super.sizes (recovered (kept_records found kept) base) tree

-- Those blocks show no tree: this is the first rule that fails, and the lowest block at which it does.
pub record RecoversNoTree (names : ShelfView) (rule block : ℕ) : Type 0 where
  pub super : Super
  pub found : Journals
  pub kept : Bounds
  pub base : State
  pub held : IsHeld names super found kept base
  pub fails : FailsFirst super.sizes (image_of super.sizes (recovered (kept_records found kept) base)) rule block

-- ---- why nothing is

-- A home stands there that opens, its journals are as long as their areas, and those of the cores before this one hold some records.
abbrev pub IsReadTo : ShelfView → ℕ → (Super → Type 0) → Type 0
IsReadTo names core P = (super : Super) × HasHome names super × HasJournals names super super.sizes.cores × (core < super.sizes.cores) × AllHold names super core × P super

-- Why an image is refused: as it is opened, by the first device that is missing or of another length, home first; then by the first
-- journal that is damaged.
abbrev pub IsImageCause : ShelfView → ImageFault → Type 0
IsImageCause names (images.Absent device) = IsRefusal names (opens.Absent device)
IsImageCause names (images.NotAnImage at) = IsRefusal names (opens.NotAnImage at)
IsImageCause names (images.Version found) = IsRefusal names (opens.Version found)
IsImageCause names (images.Sizes device found expected) = IsRefusal names (opens.Sizes device found expected)
IsImageCause names (images.Damaged (devices.Journal core) at found expected) = IsReadTo names core (λ super. OfJournal names super core (λ image tail. IsDamaged super.sizes core image tail at found expected))
IsImageCause names fault = ⊥

-- Why an image gives no tree that can be told: it is refused, or what is recovered of it shows none.
abbrev pub IsTellingCause : ShelfView → ImageFault → Type 0
IsTellingCause names fault = IsImageCause names fault ⊎ ((rule block : ℕ) × (fault ≡ images.NoTree rule block) × RecoversNoTree names rule block)

-- Why a device failed: the shelf failed to open or to close it, and the shelf's count of faults rose from `old` to `new`; or it
-- failed to be read, and its own count rose. What comes before it is in order.
abbrev pub IsDeviceCause : ShelfView → ShelfView → ℕ → ℕ → Device → Type 0
IsDeviceCause before now old new devices.Home = Rose old new ⊎ RoseUnder (before home_name) (now home_name)
IsDeviceCause before now old new (devices.Journal core) = IsReached before core (λ super. Rose old new) ⊎ IsReadTo before core (λ super. RoseUnder (before (journal_name core)) (now (journal_name core)))

-- why the devices were not all opened, read and closed
abbrev pub IsDevicesCause : ShelfView → ShelfView → ℕ → ℕ → Fault → Type 0
IsDevicesCause before now old new (faults.Image fault) = IsTellingCause before fault
IsDevicesCause before now old new (faults.Device device) = IsDeviceCause before now old new device
IsDevicesCause before now old new faults.Memory = ⊤
IsDevicesCause before now old new fault = ⊥

-- ---- what is printed of it

-- what a command prints of an image: by its super, the records found, what is kept of them, and the tree
abbrev pub Spelling : Type 0
Spelling = Super → Journals → Bounds → FileTree → List ℕ

-- the line of a core's journal: `jC from NUMBER found COUNT kept COUNT`
abbrev pub journal_text : ℕ → ℕ → ℕ → ℕ → List ℕ
journal_text core number found kept = journal_name core ++ (codes " from " ++ (decimal number ++ (codes " found " ++ (decimal found ++ (codes " kept " ++ (decimal kept ++ 10 ∷ []))))))

-- the line of the tree: `nodes COUNT blocks COUNT`
abbrev pub size_text : FileTree → List ℕ
size_text tree = codes "nodes " ++ (decimal (node_count tree) ++ (codes " blocks " ++ (decimal (used tree) ++ 10 ∷ [])))

-- what `check` prints: a line for each journal, in the order of the cores, and one for the tree
abbrev pub check_text : Spelling
check_text super found kept tree =
    flat_map (λ core. journal_text core (tail_of super.tails core) (length (records_of found core)) (kept core - tail_of super.tails core)) (range_with_len 0 super.sizes.cores) ++ size_text tree

-- the line of an entry of the tree, with the count of entries where it is a directory
abbrev pub line_of : FileTree → List (List ℕ) × Content → List ℕ
line_of tree (path, content) = entry_text path content (entry_count tree path)

-- what `dump` prints: the line of each entry, in the order of the paths
abbrev pub dump_text : Spelling
dump_text super found kept tree = flat_map (line_of tree) (map_of.entries tree)

-- what such a command prints
abbrev pub spelling_of : Telling → Spelling
spelling_of tellings.Check = check_text
spelling_of tellings.Dump = dump_text

-- The text is that of what is recovered of an image.
pub record Tells (spelling : Spelling) (names : ShelfView) (text : List ℕ) : Type 0 where
  pub super : Super
  pub found : Journals
  pub kept : Bounds
  pub tree : FileTree
  pub is_recovered : IsRecovered names super found kept tree
  pub text_is : text ≡ spelling super found kept tree

-- what `check` prints of an image
abbrev pub Checks : ShelfView → List ℕ → Type 0
Checks = Tells check_text

-- and what `dump` prints of it
abbrev pub Dumps : ShelfView → List ℕ → Type 0
Dumps = Tells dump_text

-- The text of the image was written but for the rest.
pub record Prints (spelling : Spelling) (before after : Outside) (rest : List ℕ) : Type 0 where
  pub written : List ℕ
  pub text : Tells spelling before.names (written ++ rest)
  pub took : Took before.held after.held written

-- How a command ends that prints what is recovered of an image.
abbrev pub TellingEnds : Spelling → Outside → Outside → Option Fault → Type 0
TellingEnds spelling before after None = Prints spelling before after [] × MeetsNoFault before after
TellingEnds spelling before after (Some (faults.Image fault)) = IsTellingCause before.names fault × IsUnwritten before after
TellingEnds spelling before after (Some (faults.Device device)) = IsDeviceCause before.names after.names before.shelf_faults after.shelf_faults device × (IsUnwritten before after ⊎ (Prints spelling before after [] × Rose before.shelf_faults after.shelf_faults))
TellingEnds spelling before after (Some faults.Memory) = IsUnwritten before after
TellingEnds spelling before after (Some faults.Output) = ((rest : List ℕ) × Prints spelling before after rest) × Rose before.output_faults after.output_faults
TellingEnds spelling before after (Some fault) = ⊥

-- What such a command does: however it ends, each device stands again where it stood, and was only read.
pub record RunsTelling (spelling : Spelling) (before after : Outside) (fault : Option Fault) : Type 0 where
  pub back : AllBack before.names after.names
  pub ends : TellingEnds spelling before after fault

-- how `check` ends
abbrev pub CheckEnds : Outside → Outside → Option Fault → Type 0
CheckEnds = TellingEnds check_text

-- and what it does
abbrev pub RunsCheck : Outside → Outside → Option Fault → Type 0
RunsCheck = RunsTelling check_text

-- how `dump` ends
abbrev pub DumpEnds : Outside → Outside → Option Fault → Type 0
DumpEnds = TellingEnds dump_text

-- and what it does
abbrev pub RunsDump : Outside → Outside → Option Fault → Type 0
RunsDump = RunsTelling dump_text

-- ---- of devices that are out of their shelf

-- What is recovered of an image that was opened, as a text.
pub record IsTold (spelling : Spelling) (super : Super) (home : DiskView) (journals : List JournalView) (text : List ℕ) : Type 0 where
  pub found : Journals
  pub kept : Bounds
  pub base : State
  pub tree : FileTree
  pub holds : HoldKept super journals found kept
  pub held : HomeHolds super.sizes home base
  pub shows : Shows super.sizes (recovered (kept_records found kept) base) tree
  pub text_is : text ≡ spelling super found kept tree

-- why nothing is, or memory ran out
abbrev pub IsReadingCause : Super → DiskView → DiskView → List JournalView → List JournalView → Fault → Type 0
IsReadingCause super home home' old new fault = ((told : MountFault) × (fault ≡ fault_of_mounting told) × IsInspectCause super home home' old new told) ⊎ (fault ≡ faults.Memory)

-- one of the numbers that tallies tell of a core, 0 where there is none
abbrev pub told_of : (Tally → ℕ) → List Tally → ℕ → ℕ
told_of part tallies core = unwrap_or (option_map part (slice_get tallies core)) 0

-- the line of a core's journal, by the tallies
abbrev pub tally_text : List Tally → ℕ → List ℕ
tally_text tallies core = journal_text core (told_of (λ t. t.from) tallies core) (told_of (λ t. t.found) tallies core) (told_of (λ t. t.kept) tallies core)

-- what `check` prints, by what an inspection gave
abbrev pub restored_text : Restored → List ℕ
restored_text restored = flat_map (tally_text restored.journals) (range_with_len 0 restored.sizes.cores) ++ size_text restored.tree.tree

-- what `dump` prints, by the tree
abbrev pub tree_text : FileTree → List ℕ
tree_text tree = flat_map (line_of tree) (map_of.entries tree)

-- what such a command prints, by what an inspection gave
abbrev pub telling_text : Telling → Restored → List ℕ
telling_text tellings.Check restored = restored_text restored
telling_text tellings.Dump restored = tree_text restored.tree.tree
