-- Devices that are settled: what was pending on them outlasts a crash from then on. Nothing is written.
use Rattle.std.specs.Prelude.{◌≡◌, ℕ, ◌<◌, List, [], length, None, Some, IsSomeAnd, MatchOption, slice_get, ⊤}
use Rattle.zj_dev.specs.Disk.{Continues, DiskView, IsSettled, StaysSince}
use Rattle.zj_dev.specs.Fault.{Rose}
use Rattle.zj_dev.specs.declared.device.Device.TheVariants as devices
use Rattle.zj_area.specs.Cause.{IsKnown}
use Rattle.zj_area.specs.Journal.{AreaView, IsAtRest, journal_of}
use Rattle.zj_mount.specs.Scanning.{FailsAt}
use Rattle.zj_mount.specs.declared.fault.MountFault.{MountFault}
use Rattle.zj_mount.specs.declared.fault.MountFault.TheVariants as faults

-- A device was read and synced, and nothing was written: a read gives what it gave, and whatever a crash leaves at a moment since, it
-- might leave at first.
pub record Settles (old new : DiskView) : Type 0 where
  pub goes_on : Continues old new
  pub bytes : new.bytes ≡ old.bytes
  pub stays : StaysSince old new

-- Each area is there still, and so its device was.
abbrev pub AreSettled : {D : Type 0} → (D → DiskView) → List (AreaView D) → List (AreaView D) → Type 0
AreSettled view old new = (core : ℕ) → MatchOption (slice_get old core) (slice_get new core ≡ None) (λ a. IsSomeAnd (slice_get new core) (λ b. Settles (view a.device) (view b.device)))

-- Each journal whose end was not known before is at rest, with no record: it ends at its tail.
abbrev pub RestEmpty : {D : Type 0} → (D → DiskView) → List (AreaView D) → List (AreaView D) → Type 0
RestEmpty {D} view old new = (core : ℕ) (a b : AreaView D) → slice_get old core ≡ Some a → slice_get new core ≡ Some b → (IsKnown (journal_of view a) → ⊥) → IsAtRest (journal_of view b) [] × (b.end ≡ b.tail)

-- nothing is pending on the devices of the first areas, so many
abbrev pub AllSettled : {D : Type 0} → (D → DiskView) → List (AreaView D) → ℕ → Type 0
AllSettled view areas many = (core : ℕ) → core < many → IsSomeAnd (slice_get areas core) (λ a. IsSettled (view a.device))

-- Nothing is pending on home, nor on any journal.
pub record NothingPends {D : Type 0} (view : D → DiskView) (home : D) (areas : List (AreaView D)) : Type 0 where
  pub home_rests : IsSettled (view home)
  pub journals_rest : AllSettled view areas (length areas)

-- a fault of what the devices hold, and neither of a device nor of memory
abbrev pub IsOfImage : MountFault → Type 0
IsOfImage (faults.Damaged device at found expected) = ⊤
IsOfImage (faults.NoTree rule block) = ⊤
IsOfImage (faults.Unbuilt device) = ⊤
IsOfImage fault = ⊥

-- A device failed as it was settled: home, or the journal of a core.
abbrev pub IsSettleCause : {D : Type 0} → (D → DiskView) → D → D → List (AreaView D) → List (AreaView D) → MountFault → Type 0
IsSettleCause view home home' old new (faults.DiskFault devices.Home) = Rose (view home).faults (view home').faults
IsSettleCause view home home' old new (faults.DiskFault (devices.Journal core)) = IsSomeAnd (slice_get old core) (λ a. IsSomeAnd (slice_get new core) (λ b. Rose (view a.device).faults (view b.device).faults))
IsSettleCause view home home' old new fault = ⊥

-- ---- on the way

-- An area whose device was settled, or failed as it was to be, and that is else as it was.
pub record IsSynced {D : Type 0} (view : D → DiskView) (old new : AreaView D) : Type 0 where
  pub settles : Settles (view old.device) (view new.device)
  pub same : new ≡ record old { device = new.device }

-- each area is there still, and is such a one
abbrev pub AreSynced : {D : Type 0} → (D → DiskView) → List (AreaView D) → List (AreaView D) → Type 0
AreSynced view old new = (core : ℕ) → MatchOption (slice_get old core) (slice_get new core ≡ None) (λ a. IsSomeAnd (slice_get new core) (IsSynced view a))

-- why areas were not all settled: the device of one failed
abbrev pub FailsToSettle : {D : Type 0} → (D → DiskView) → List (AreaView D) → List (AreaView D) → MountFault → Type 0
FailsToSettle view old new fault = (core : ℕ) × (fault ≡ faults.DiskFault (devices.Journal core)) × IsSomeAnd (slice_get old core) (λ a. IsSomeAnd (slice_get new core) (FailsAt view a))
