-- A device in memory: what it holds, what a crash may leave of it, and how its history says what it held at each moment.
use Rattle.std.specs.Prelude.{◌≡◌, ℕ, ◌+◌, ◌-◌, ◌^◌, ◌≤◌, Bool, true, false, ◌&&◌, ◌||◌, ◌==◌, nat_lt, nat_le, if◌then◌else◌, List, [], ◌∷◌, ◌++◌, length, replicate, All, Some}
use Rattle.std.specs.List.{list_any}
use Rattle.std.proofs.Common.{zero, suc}
use Rattle.zj_dev.specs.Disk.{DiskView, AreBytes, replaced}
use Rattle.zj_dev.specs.declared.mem_disk.Extent.{Extent}
use Rattle.zj_dev.specs.declared.mem_disk.Change.{Change}
use Rattle.zj_dev.specs.declared.mem_disk.Change.TheVariants.{Wrote, Tore, Synced}
use Rattle.zj_dev.specs.declared.mem_disk.HistoryEntry.{HistoryEntry}
use Rattle.zj_dev.specs.declared.mem_disk.Torn.{Torn}
use Rattle.zj_dev.specs.declared.mem_disk.Torn.TheVariants.{Lost, Whole, Filled}

-- What a device holds: what a read gives, what it held as of the last sync, and the extents written since.
pub record Medium : Type 0 where
  pub bytes : List ℕ
  pub settled : List ℕ
  pub pending : List Extent

-- a device with these bytes and nothing pending
abbrev pub at_rest : List ℕ → Medium
at_rest bytes = record { bytes = bytes; settled = bytes; pending = [] }

-- the device after a write: what a read gives there is the piece, and the extent is pending
abbrev pub written : Medium → Extent → List ℕ → Medium
written medium extent piece = record { bytes = replaced medium.bytes extent.at piece; settled = medium.settled; pending = medium.pending ++ extent ∷ [] }

-- the device after a write that failed: the extent is pending
abbrev pub torn : Medium → Extent → Medium
torn medium extent = record { bytes = medium.bytes; settled = medium.settled; pending = medium.pending ++ extent ∷ [] }

-- the device after a change: a write, a write that failed, or a sync
abbrev pub changed : Medium → Change → Medium
changed medium (Wrote extent piece) = written medium extent piece.items
changed medium (Tore extent) = torn medium extent
changed medium Synced = at_rest medium.bytes

-- what the device held at a moment: all changes of earlier calls, one after the other
abbrev pub medium_at : ℕ → Medium → List HistoryEntry → Medium
medium_at moment medium [] = medium
medium_at moment medium (entry ∷ rest) = medium_at moment (if nat_lt entry.call moment then changed medium entry.change else medium) rest

-- whether a place lies in the extent
abbrev pub lies_in : ℕ → Extent → Bool
lies_in place extent = nat_le extent.at place && nat_lt place (extent.at + extent.count)

-- whether a place lies in one of the extents
abbrev pub is_pending : List Extent → ℕ → Bool
is_pending extents place = list_any (lies_in place) extents

-- Whether a crash may leave this image, byte by byte from a place on: any byte in the pending extents, the settled one elsewhere.
abbrev pub may_be : List Extent → ℕ → List ℕ → List ℕ → Bool
may_be pending place [] [] = true
may_be pending place [] (byte ∷ image) = false
may_be pending place (settled ∷ rest) [] = false
may_be pending place (settled ∷ rest) (byte ∷ image) = nat_lt byte 256 && ((byte == settled) || is_pending pending place) && may_be pending (place + 1) rest image

-- whether a crash of the device may leave this image
abbrev pub leaves : Medium → List ℕ → Bool
leaves medium image = may_be medium.pending 0 medium.settled image

-- the bytes with each of the extents filled with one byte
abbrev pub filled : ℕ → List Extent → List ℕ → List ℕ
filled byte [] bytes = bytes
filled byte (extent ∷ rest) bytes = filled byte rest (replaced bytes extent.at (replicate extent.count byte))

-- what a crash leaves that loses what is pending, keeps it, or fills it with a byte
abbrev pub torn_image : Torn → Medium → List ℕ
torn_image Lost medium = medium.settled
torn_image Whole medium = medium.bytes
torn_image (Filled byte) medium = filled byte medium.pending medium.settled

-- whether the call with this number fails: it was told to, or the disk has stopped
abbrev pub fails_at : List ℕ → ℕ → ℕ → Bool
fails_at failing stop call = list_any (λ told. told == call) failing || nat_le stop call

-- how many of the first calls fail
abbrev pub faults_before : (ℕ → Bool) → ℕ → ℕ
faults_before fails zero = 0
faults_before fails (suc count) = faults_before fails count + (if fails count then 1 else 0)

-- The count of faults at a moment. At the last moment that a count of calls can tell it stands at its end too.
abbrev pub faults_until : (ℕ → Bool) → ℕ → ℕ
faults_until fails moment = if nat_lt moment (2 ^ 64 - 1) then faults_before fails moment else 2 ^ 64 - 1

-- what a disk with this beginning, history and these failing calls tells of itself
abbrev pub told : List ℕ → List HistoryEntry → List ℕ → ℕ → ℕ → List ℕ → DiskView
told start history failing stop calls bytes = record {
  size = length bytes;
  calls = calls;
  faults = faults_until (fails_at failing stop) calls;
  bytes = Some bytes;
  may_leave = λ moment image. leaves (medium_at moment (at_rest start) history) image;
  faults_at = faults_until (fails_at failing stop);
}

-- The history of a disk says what it holds at each moment, and what it holds now is sound.
pub record IsHistory (start : List ℕ) (history : List HistoryEntry) (calls : ℕ) (now : Medium) : Type 0 where
  pub replay : (moment : ℕ) → calls ≤ moment → medium_at moment (at_rest start) history ≡ now
  pub size : (moment : ℕ) → length (medium_at moment (at_rest start) history).bytes ≡ length start
  pub settled_size : (moment : ℕ) → length (medium_at moment (at_rest start) history).settled ≡ length start
  pub current : leaves now now.bytes ≡ true
  pub settled_bytes : AreBytes now.settled
  pub within : All (λ extent. extent.at + extent.count ≤ length start) now.pending
