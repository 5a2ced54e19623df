-- The devices of an image that are out of their shelf, and what stands under their names.
use Rattle.std.specs.Prelude.{◌≡◌, ◌≢◌, ℕ, ◌<◌, List, MatchOption, slice_get, bytes_eq, if◌then◌else◌}
use Rattle.zj_block.specs.declared.sizes.TheConstants.{MAX_CORES}
use Rattle.zj_dev.specs.Disk.{DiskView, OnlyReads}
use Rattle.zj_dev.specs.Shelf.{Closes, ShelfView, Slot, Untold, Absent, Out, Stands}
use Rattle.zj_dev.specs.Device.{device_name}
use Rattle.zj_dev.specs.declared.device.Device.TheVariants as devices
use Rattle.zj_area.specs.Journal.{AreaView}

-- the names of the devices
abbrev pub home_name : List ℕ
home_name = device_name devices.Home

abbrev pub journal_name : ℕ → List ℕ
journal_name core = device_name (devices.Journal core)

-- names of which one has another slot
abbrev pub with_slot : List ℕ → Slot → ShelfView → ShelfView
with_slot name slot names other = if bytes_eq other name then slot else names other

-- the name of no core's journal
abbrev pub IsNoJournal : List ℕ → Type 0
IsNoJournal name = (core : ℕ) → core < MAX_CORES → name ≢ journal_name core

-- A device stood there and has this property, and the slot is now that one.
abbrev pub WentTo : Slot → (DiskView → Type 0) → Slot → Slot → Type 0
WentTo slot P Untold now = now ≡ Untold
WentTo slot P (Stands stood) now = (now ≡ slot) × P stood
WentTo slot P Absent now = ⊥
WentTo slot P Out now = ⊥

-- The device that stood there was taken out.
abbrev pub IsTakenOut : Slot → Slot → DiskView → Type 0
IsTakenOut before now disk = WentTo Out (λ stood. disk ≡ stood) before now

-- The device that stood there is out, and was only read since.
abbrev pub IsLent : Slot → Slot → DiskView → Type 0
IsLent before now disk = WentTo Out (λ stood. OnlyReads stood disk) before now

-- The device that stood there was put back, and was only read since.
abbrev pub IsPutBack : Slot → Slot → DiskView → Type 0
IsPutBack before now disk = WentTo (Stands disk) (λ stood. OnlyReads stood disk) before now

-- What stood there stands there, and this was done to it since.
abbrev pub IsBackAs : (DiskView → DiskView → Type 0) → Slot → Slot → Type 0
IsBackAs Did Untold now = now ≡ Untold
IsBackAs Did (Stands stood) now = (disk : DiskView) × (now ≡ Stands disk) × Did stood disk
IsBackAs Did Absent now = now ≡ Absent
IsBackAs Did Out now = now ≡ Out

-- it was only read since
abbrev pub IsBack : Slot → Slot → Type 0
IsBack = IsBackAs OnlyReads

-- Home and each journal stand where they stood, with what was done to them since; all other names have what they had.
pub record AllBackAs (ToHome ToJournal : DiskView → DiskView → Type 0) (before now : ShelfView) : Type 0 where
  pub home : IsBackAs ToHome (before home_name) (now home_name)
  pub journals : (core : ℕ) → core < MAX_CORES → IsBackAs ToJournal (before (journal_name core)) (now (journal_name core))
  pub others : (name : List ℕ) → name ≢ home_name → IsNoJournal name → now name ≡ before name

-- they were only read
abbrev pub AllBack : ShelfView → ShelfView → Type 0
AllBack = AllBackAs OnlyReads OnlyReads

-- Home and the journals of these areas, from core 0 on, are out, and all else is back.
pub record IsOut {D : Type 0} (view : D → DiskView) (before now : ShelfView) (home : DiskView) (areas : List (AreaView D)) : Type 0 where
  pub home_lent : IsLent (before home_name) (now home_name) home
  pub journals : (core : ℕ) → core < MAX_CORES → MatchOption (slice_get areas core) (IsBack (before (journal_name core)) (now (journal_name core))) (λ area. IsLent (before (journal_name core)) (now (journal_name core)) (view area.device))
  pub others : (name : List ℕ) → name ≢ home_name → IsNoJournal name → now name ≡ before name

-- These devices stand where they stood, and were only read; so does all else.
pub record IsClosed {D : Type 0} (view : D → DiskView) (before now : ShelfView) (home : DiskView) (areas : List (AreaView D)) : Type 0 where
  pub home_back : IsPutBack (before home_name) (now home_name) home
  pub journals : (core : ℕ) → core < MAX_CORES → MatchOption (slice_get areas core) (IsBack (before (journal_name core)) (now (journal_name core))) (λ area. IsPutBack (before (journal_name core)) (now (journal_name core)) (view area.device))
  pub others : (name : List ℕ) → name ≢ home_name → IsNoJournal name → now name ≡ before name

-- These devices were put back under their names, where those were out; all other names have what they had.
pub record ClosesAll {D : Type 0} (view : D → DiskView) (old now : ShelfView) (home : DiskView) (areas : List (AreaView D)) : Type 0 where
  pub home_closed : Closes home (old home_name) (now home_name)
  pub journals : (core : ℕ) → core < MAX_CORES → MatchOption (slice_get areas core) (now (journal_name core) ≡ old (journal_name core)) (λ area. Closes (view area.device) (old (journal_name core)) (now (journal_name core)))
  pub others : (name : List ℕ) → name ≢ home_name → IsNoJournal name → now name ≡ old name
