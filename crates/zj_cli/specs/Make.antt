-- What `make` does, by the fault that it ends with. A shelf may leave devices untold: nothing is said of those.
use Rattle.std.specs.Prelude.{◌≡◌, ◌≢◌, ◌⊎◌, ℕ, ◌<◌, List, [], Option, Some, None, ⊤}
use Rattle.zj_block.specs.Sizes.{Numbers}
use Rattle.zj_block.specs.Numbers.{zero_tail}
use Rattle.zj_dev.specs.Fault.{Rose}
use Rattle.zj_dev.specs.Disk.{DiskView, Continues, EachImageSince}
use Rattle.zj_dev.specs.Shelf.{ShelfView, Slot, Untold, Absent, Out, Stands, OthersStay, IsBlank, FailsToCreate}
use Rattle.zj_dev.specs.declared.device.Device.{Device}
use Rattle.zj_dev.specs.declared.device.Device.TheVariants as devices
use Rattle.zj_home.specs.Super.{OpensAs, home_length}
use Rattle.zj_home.specs.Made.{IsNoImage, first_super}
use Rattle.zj_area.specs.Ring.{Holds}
use Rattle.zj_tree.specs.Tree.{root_alone}
use Rattle.zj_mount.specs.Image.{ShowsIn}
use Rattle.zj_mount.specs.Set.{home_name, journal_name}
use Rattle.zj_cli.specs.declared.status.ImageFault.TheVariants as images
use Rattle.zj_cli.specs.declared.status.Fault.{Fault}
use Rattle.zj_cli.specs.declared.status.Fault.TheVariants as faults
use Rattle.zj_cli.specs.Outside.{MeetsNoFault, Outside}

-- the name was free, and now a device stands there that has this property
abbrev pub IsNew : (DiskView → Type 0) → Slot → Slot → Type 0
IsNew P Untold now = now ≡ Untold
IsNew P Absent now = (disk : DiskView) × (now ≡ Stands disk) × P disk
IsNew P Out now = ⊥
IsNew P (Stands stood) now = ⊥

-- the name isn't free
abbrev pub IsUsed : Slot → Type 0
IsUsed Untold = ⊤
IsUsed Absent = ⊥
IsUsed Out = ⊤
IsUsed (Stands stood) = ⊤

-- A new journal: it is as long as the area, and whatever a crash leaves of it holds no record.
pub record IsNewJournal (sizes : Numbers) (core : ℕ) (disk : DiskView) : Type 0 where
  pub size : disk.size ≡ sizes.area
  pub empty : EachImageSince disk.calls disk (λ image. Holds sizes core image zero_tail [] zero_tail)

-- A home with these bytes is new: its super has these sizes, the first epoch and no transaction, and its blocks show the root
-- alone.
pub record IsNewHome (sizes : Numbers) (image : List ℕ) : Type 0 where
  pub opens : OpensAs image (first_super sizes)
  pub shows : ShowsIn sizes image root_alone

-- A blank device on which a home was being made: whatever a crash left of it at any moment is no image, or the new home.
pub record IsBeingMade (sizes : Numbers) (blank disk : DiskView) : Type 0 where
  pub was_blank : IsBlank (home_length sizes) blank
  pub continues : Continues blank disk
  pub moments : EachImageSince blank.calls disk (λ image. IsNoImage image ⊎ IsNewHome sizes image)

-- A home that was made: whatever a crash leaves of it now is the new home.
pub record IsMadeHome (sizes : Numbers) (disk : DiskView) : Type 0 where
  pub blank : DiskView
  pub begun : IsBeingMade sizes blank disk
  pub left : EachImageSince disk.calls disk (IsNewHome sizes)

-- A home that was not made, since its device failed.
pub record IsFailedHome (sizes : Numbers) (disk : DiskView) : Type 0 where
  pub blank : DiskView
  pub begun : IsBeingMade sizes blank disk
  pub rose : Rose blank.faults disk.faults

-- The journals of the first cores, so many, are new, and all other names have what they had.
pub record MakesJournals (sizes : Numbers) (before now : ShelfView) (count : ℕ) : Type 0 where
  pub journals : (core : ℕ) → core < count → IsNew (IsNewJournal sizes core) (before (journal_name core)) (now (journal_name core))
  pub others : (name : List ℕ) → ((core : ℕ) → core < count → name ≢ journal_name core) → now name ≡ before name

-- The journals of the first cores, so many, were made, and then one name more went on from what it had.
pub record MakesNext (sizes : Numbers) (before now : ShelfView) (count : ℕ) (name : List ℕ) (Goes : Slot → Slot → Type 0) : Type 0 where
  pub mid : ShelfView
  pub journals : MakesJournals sizes before mid count
  pub others : OthersStay name mid now
  pub next : Goes (mid name) (now name)

-- The whole set was made: all journals, and then home.
abbrev pub MakesSet : Numbers → ShelfView → ShelfView → Type 0
MakesSet sizes before now = MakesNext sizes before now sizes.cores home_name (IsNew (IsMadeHome sizes))

-- a device of the set, with how many journals come before it
abbrev pub IsInSet : Numbers → Device → ℕ → List ℕ → Type 0
IsInSet sizes devices.Home count name = (count ≡ sizes.cores) × (name ≡ home_name)
IsInSet sizes (devices.Journal core) count name = (core < sizes.cores) × (count ≡ core) × (name ≡ journal_name core)

-- Why a device was not created: its name is used, or the shelf failed.
abbrev pub IsCreateCause : Device → Slot → Slot → ℕ → ℕ → Fault → Type 0
IsCreateCause device slot now old new fault =
    ((fault ≡ faults.Image (images.Exists device)) × IsUsed slot × (now ≡ slot)) ⊎ ((fault ≡ faults.Device device) × FailsToCreate slot now × Rose old new)

-- Why home was not made: it was not created, or the device failed.
abbrev pub IsHomeCause : Numbers → Slot → Slot → ℕ → ℕ → Fault → Type 0
IsHomeCause sizes slot now old new fault = IsCreateCause devices.Home slot now old new fault ⊎ ((fault ≡ faults.Device devices.Home) × IsNew (IsFailedHome sizes) slot now)

-- How closing went: well, or the first fault is of a device of the set.
abbrev pub IsClosing : Numbers → ℕ → ℕ → Option Fault → Type 0
IsClosing sizes old new None = new ≡ old
IsClosing sizes old new (Some fault) = ((device : Device) × (count : ℕ) × (name : List ℕ) × IsInSet sizes device count name × (fault ≡ faults.Device device)) × Rose old new

-- a device was not made
abbrev pub FailsToMake : Numbers → Device → ℕ → ℕ → Slot → Slot → Type 0
FailsToMake sizes device old new slot now = (FailsToCreate slot now × Rose old new) ⊎ ((device ≡ devices.Home) × IsNew (IsFailedHome sizes) slot now)

-- How `make` ends: with the set made; or at the first device that can't be made, where all before it stand and no other name was
-- touched; or with a fault of closing.
abbrev pub MakeEnds : Numbers → Outside → Outside → Option Fault → Type 0
MakeEnds sizes before after None = MakesSet sizes before.names after.names × MeetsNoFault before after
MakeEnds sizes before after (Some (faults.Image (images.Exists device))) = (count : ℕ) × (name : List ℕ) × IsInSet sizes device count name × MakesNext sizes before.names after.names count name (λ slot now. IsUsed slot × (now ≡ slot))
MakeEnds sizes before after (Some (faults.Device device)) = (count : ℕ) × (name : List ℕ) × IsInSet sizes device count name
    × (MakesNext sizes before.names after.names count name (FailsToMake sizes device before.shelf_faults after.shelf_faults) ⊎ (MakesSet sizes before.names after.names × Rose before.shelf_faults after.shelf_faults))
MakeEnds sizes before after (Some faults.Memory) = after.names ≡ before.names
MakeEnds sizes before after (Some fault) = ⊥
