-- The journals of an image as they are read, one after the other.
use Rattle.std.specs.Prelude.{◌≡◌, ℕ, ◌<◌, true, List, [], length, None, IfSome, IsSomeAnd, MatchOption, slice_get, ⊤}
use Rattle.zj_dev.specs.Fault.{Rose}
use Rattle.zj_dev.specs.Disk.{DiskView, IsSettled, OnlyReads}
use Rattle.zj_dev.specs.declared.device.Device.TheVariants as devices
use Rattle.zj_tx.specs.Record.{Record}
use Rattle.zj_area.specs.Cause.{IsKnown}
use Rattle.zj_area.specs.Journal.{AreaView, IsAtRest, journal_of}
use Rattle.zj_area.specs.Ring.{Holds, IsDamaged}
use Rattle.zj_mount.specs.declared.fault.MountFault.{MountFault}
use Rattle.zj_mount.specs.declared.fault.MountFault.TheVariants as faults

-- each area is there still, and its device was only read
abbrev pub AreRead : {D : Type 0} → (D → DiskView) → List (AreaView D) → List (AreaView D) → Type 0
AreRead view old new = (core : ℕ) → MatchOption (slice_get old core) (slice_get new core ≡ None) (λ a. IsSomeAnd (slice_get new core) (λ b. OnlyReads (view a.device) (view b.device)))

-- an area that was read: it is ready, and as it was but for its device and where its records end
abbrev pub IsNowReady : {D : Type 0} → AreaView D → AreaView D → Type 0
IsNowReady old new = new ≡ record old { device = new.device; ready = true; end = new.end }

-- the first areas, so many, were read
abbrev pub AreReady : {D : Type 0} → List (AreaView D) → List (AreaView D) → ℕ → Type 0
AreReady old new many = (core : ℕ) → core < many → IsSomeAnd (slice_get old core) (λ a. IsSomeAnd (slice_get new core) (IsNowReady a))

-- the device of an area holds these records
abbrev pub AreaHolds : {D : Type 0} → (D → DiskView) → AreaView D → List Record → Type 0
AreaHolds view a records = IfSome (view a.device).bytes (λ image. (end : _) × Holds a.sizes a.core image a.tail records end)

-- it holds some records, so many
abbrev pub HoldsSome : {D : Type 0} → (D → DiskView) → AreaView D → ℕ → Type 0
HoldsSome view a count = (records : List Record) × (length records ≡ count) × AreaHolds view a records

-- the devices of the first areas, so many, hold as many records as the counts tell
abbrev pub AreCounted : {D : Type 0} → (D → DiskView) → List (AreaView D) → List ℕ → ℕ → Type 0
AreCounted view areas counts many = (core : ℕ) → core < many → IsSomeAnd (slice_get areas core) (λ a. IsSomeAnd (slice_get counts core) (HoldsSome view a))

-- where the end of an area was not known and nothing was pending on it, it is at rest with no record, and ends at its tail
abbrev pub RestsIfSettled : {D : Type 0} → (D → DiskView) → AreaView D → AreaView D → Type 0
RestsIfSettled view old new = (IsKnown (journal_of view old) → ⊥) → IsSettled (view old.device) → IsAtRest (journal_of view new) [] × (new.end ≡ new.tail)

-- this is so of the first areas, so many
abbrev pub RestIfSettled : {D : Type 0} → (D → DiskView) → List (AreaView D) → List (AreaView D) → ℕ → Type 0
RestIfSettled view old new many = (core : ℕ) → core < many → IsSomeAnd (slice_get old core) (λ a. IsSomeAnd (slice_get new core) (RestsIfSettled view a))

-- and this of those that hold no record, as the counts tell
abbrev pub RestIfNone : {D : Type 0} → (D → DiskView) → List (AreaView D) → List (AreaView D) → List ℕ → ℕ → Type 0
RestIfNone view old new counts many = (core : ℕ) → core < many → IsSomeAnd (slice_get old core) (λ a. IsSomeAnd (slice_get new core) (λ b. IsSomeAnd (slice_get counts core) (λ count. count ≡ 0 → RestsIfSettled view a b)))

-- the device of an area failed, and its count of faults rose
abbrev pub FailsAt : {D : Type 0} → (D → DiskView) → AreaView D → AreaView D → Type 0
FailsAt view old new = Rose (view old.device).faults (view new.device).faults

-- the bytes of an area are damaged
abbrev pub IsDamagedAt : {D : Type 0} → (D → DiskView) → AreaView D → ℕ → ℕ → ℕ → Type 0
IsDamagedAt view a at found expected = IfSome (view a.device).bytes (λ image. IsDamaged a.sizes a.core image a.tail at found expected)

-- why an area was not read
abbrev pub IsAreaCause : {D : Type 0} → (D → DiskView) → ℕ → AreaView D → AreaView D → MountFault → Type 0
IsAreaCause view core old new faults.NoMemory = ⊤
IsAreaCause view core old new (faults.DiskFault device) = (device ≡ devices.Journal core) × FailsAt view old new
IsAreaCause view core old new (faults.Damaged device at found expected) = (device ≡ devices.Journal core) × IsDamagedAt view old at found expected
IsAreaCause view core old new fault = ⊥

-- why the areas were not all read: those before one were, and that one was not
pub record StopsAt {D : Type 0} (view : D → DiskView) (old new : List (AreaView D)) (counts : List ℕ) (fault : MountFault) : Type 0 where
  pub core : ℕ
  pub counted : AreCounted view old counts core
  pub here : IsSomeAnd (slice_get old core) (λ a. IsSomeAnd (slice_get new core) (λ b. IsAreaCause view core a b fault))
