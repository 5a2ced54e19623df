-- The devices of an image as they are taken out of their shelf, one after the other, and why that stops.
use Rattle.std.specs.Prelude.{◌≡◌, ◌≢◌, ◌⊎◌, ℕ, ◌<◌, ◌≤◌, List, length, Option, Some, IfSome, MatchOption, slice_get, ⊤}
use Rattle.zj_block.specs.declared.sizes.TheConstants.{MAX_CORES}
use Rattle.zj_dev.specs.Disk.{DiskView}
use Rattle.zj_dev.specs.Fault.{Rose}
use Rattle.zj_dev.specs.Shelf.{ShelfView, Slot, OthersStay}
use Rattle.zj_dev.specs.declared.device.Device.{Device}
use Rattle.zj_dev.specs.declared.device.Device.TheVariants as devices
use Rattle.zj_area.specs.Journal.{AreaView, opened as just_opened}
use Rattle.zj_home.specs.Super.{Super, image_fault}
use Rattle.zj_home.specs.declared.fault.HomeFault.{HomeFault}
use Rattle.zj_home.specs.declared.fault.HomeFault.TheVariants as homes
use Rattle.zj_mount.specs.declared.fault.OpenFault.{OpenFault}
use Rattle.zj_mount.specs.declared.fault.OpenFault.TheVariants as faults
use Rattle.zj_mount.specs.Image.{HasHome, HasJournals, IsMissing, OfDevice, OfLength, RoseUnder}
use Rattle.zj_mount.specs.Set.{IsLent, IsNoJournal, home_name, journal_name}

-- an area that was just opened for a core of an image
abbrev pub IsOpened : {D : Type 0} → Super → ℕ → AreaView D → Type 0
IsOpened super core area = IfSome (slice_get super.tails core) (λ tail. area ≡ just_opened area.device super.sizes core tail)

-- there is an area for each core, and each was just opened
pub record AllOpened {D : Type 0} (super : Super) (areas : List (AreaView D)) : Type 0 where
  pub many : length areas ≡ super.sizes.cores
  pub few : length areas ≤ MAX_CORES
  pub opened : (core : ℕ) → core < MAX_CORES → IfSome (slice_get areas core) (IsOpened super core)

-- The journals of the first cores, so many, were taken out and opened, and all else is as it was.
pub record AreOpened {D : Type 0} (view : D → DiskView) (before now : ShelfView) (super : Super) (count : ℕ) (areas : List (AreaView D)) : Type 0 where
  pub many : length areas ≡ count
  pub lengths : HasJournals before super count
  pub journals : (core : ℕ) → core < MAX_CORES → MatchOption (slice_get areas core) (now (journal_name core) ≡ before (journal_name core))
      (λ area. IsLent (before (journal_name core)) (now (journal_name core)) (view area.device) × IsOpened super core area)
  pub others : (name : List ℕ) → IsNoJournal name → now name ≡ before name

-- Opening stopped at the next journal: those before it are out, its own device is out where it was taken out, and all else is
-- as it was.
pub record StopsOpening {D : Type 0} (view : D → DiskView) (before now : ShelfView) (super : Super) (areas : List (AreaView D)) (refused : Option D) : Type 0 where
  pub mid : ShelfView
  pub few : length areas < MAX_CORES
  pub opened : AreOpened view before mid super (length areas) areas
  pub others : OthersStay (journal_name (length areas)) mid now
  pub next : MatchOption refused (now (journal_name (length areas)) ≡ mid (journal_name (length areas))) (λ d. IsLent (mid (journal_name (length areas))) (now (journal_name (length areas))) (view d))

-- ---- why it stops

-- the fault of a home that was not opened
abbrev pub fault_of_home : HomeFault → OpenFault
fault_of_home homes.DiskFault = faults.DiskFault devices.Home
fault_of_home (homes.NotAnImage at) = faults.NotAnImage at
fault_of_home (homes.Version found) = faults.Version found
fault_of_home (homes.Sizes found expected) = faults.Sizes devices.Home found expected
fault_of_home homes.NoMemory = faults.NoMemory

-- Why the journal of a core was not opened: it is missing or of another length, or the shelf failed, whose count of faults rose from
-- `old` to `new`. No journal is read.
abbrev pub IsJournalCause : Slot → ℕ → ℕ → Super → ℕ → OpenFault → Type 0
IsJournalCause slot old new super core (faults.Absent device) = (device ≡ devices.Journal core) × IsMissing slot
IsJournalCause slot old new super core (faults.Sizes device found expected) = (device ≡ devices.Journal core) × OfLength slot (λ len. (len ≡ found) × (expected ≡ super.sizes.area) × (found ≢ expected))
IsJournalCause slot old new super core (faults.ShelfFault device) = (device ≡ devices.Journal core) × Rose old new
IsJournalCause slot old new super core faults.NoMemory = ⊤
IsJournalCause slot old new super core fault = ⊥

-- why one of them was not opened: those before it were
abbrev pub IsJournalsCause : ShelfView → ℕ → ℕ → Super → OpenFault → Type 0
IsJournalsCause before old new super fault = (core : ℕ) × (core < super.sizes.cores) × HasJournals before super core × IsJournalCause (before (journal_name core)) old new super core fault

-- a home stands there that opens, and the journals of the cores before this one are as long as their areas
abbrev pub IsReached : ShelfView → ℕ → (Super → Type 0) → Type 0
IsReached before core P = (super : Super) × HasHome before super × (core < super.sizes.cores) × HasJournals before super core × P super

-- Why an image is refused, by the first device that is missing or of another length, home first.
abbrev pub IsRefusal : ShelfView → OpenFault → Type 0
IsRefusal names (faults.Absent devices.Home) = IsMissing (names home_name)
IsRefusal names (faults.Absent (devices.Journal core)) = IsReached names core (λ super. IsMissing (names (journal_name core)))
IsRefusal names (faults.NotAnImage at) = OfDevice (names home_name) (λ image. image_fault image ≡ Some (homes.NotAnImage at))
IsRefusal names (faults.Version found) = OfDevice (names home_name) (λ image. image_fault image ≡ Some (homes.Version found))
IsRefusal names (faults.Sizes devices.Home found expected) = OfDevice (names home_name) (λ image. image_fault image ≡ Some (homes.Sizes found expected))
IsRefusal names (faults.Sizes (devices.Journal core) found expected) =
    IsReached names core (λ super. OfLength (names (journal_name core)) (λ len. (len ≡ found) × (expected ≡ super.sizes.area) × (found ≢ expected)))
IsRefusal names fault = ⊥

-- Why an image was not opened: home, which alone is read, failed; the shelf failed, whose count of faults went from `old` to `new`;
-- or the image is refused.
abbrev pub IsOpenCause : ShelfView → ShelfView → ℕ → ℕ → OpenFault → Type 0
IsOpenCause before now old new (faults.DiskFault devices.Home) = RoseUnder (before home_name) (now home_name)
IsOpenCause before now old new (faults.ShelfFault devices.Home) = Rose old new
IsOpenCause before now old new (faults.ShelfFault (devices.Journal core)) = IsReached before core (λ super. Rose old new)
IsOpenCause before now old new faults.NoMemory = ⊤
IsOpenCause before now old new fault = IsRefusal before fault

-- ---- why devices were not put back

-- the journal of one of the first cores, so many
abbrev pub IsJournalBelow : ℕ → Device → Type 0
IsJournalBelow count device = (core : ℕ) × (core < count) × (device ≡ devices.Journal core)

-- home, or one of those journals
abbrev pub IsOfSet : ℕ → Device → Type 0
IsOfSet count device = (device ≡ devices.Home) ⊎ IsJournalBelow count device
