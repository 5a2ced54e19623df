-- What is read of one record.
use Rattle.std.specs.Prelude.{◌≡◌, ◌≢◌, ℕ, ◌+◌, ◌^◌, ◌<◌, ◌≤◌, List, length, take, Option, Some, IfSome, ◌==◌, if◌then◌else◌, ⊤}
use Rattle.zj_block.specs.Sizes.{Numbers, max_record}
use Rattle.zj_block.specs.declared.numbers.Tail.{Tail}
use Rattle.zj_block.specs.declared.sizes.TheConstants.{RECORD_HEAD_LEN}
use Rattle.zj_dev.specs.Fault.{Rose}
use Rattle.zj_dev.specs.Disk.{DiskView}
use Rattle.zj_tx.specs.Record.{IsRecord, Record, record_bytes}
use Rattle.zj_tx.specs.declared.fault.RecordFault.{RecordFault}
use Rattle.zj_tx.specs.declared.fault.RecordFault.TheVariants as records
use Rattle.zj_area.specs.Ring.{IsDamaged, IsOpenAt, HasRecordAt}
use Rattle.zj_area.specs.declared.fault.ScanFault.{ScanFault}
use Rattle.zj_area.specs.declared.fault.ScanFault.TheVariants as faults

-- the first bytes tell how long the record is that they begin
abbrev pub TellsLength : Numbers → List ℕ → ℕ → Type 0
TellsLength n bytes len = (r : Record) → IsRecord r → length r.bounds ≡ n.cores → take RECORD_HEAD_LEN (record_bytes r) ≡ take RECORD_HEAD_LEN bytes → len ≡ length (record_bytes r)

-- the record at the start of the ring was read, with this number
pub record WasRead (n : Numbers) (core number : ℕ) (image : List ℕ) : Type 0 where
  pub first : Record
  pub stood : HasRecordAt n core image (record { place = 0; number = number }) first

-- a gate is open, and no record stands behind it that is due there
pub record IsBad (n : Numbers) (core : ℕ) (image : List ℕ) (at : Tail) (place found expected : ℕ) : Type 0 where
  pub opens : IsOpenAt image at.place
  pub none : (r : Record) → HasRecordAt n core image at r → ⊥
  pub from : at.place ≤ place
  pub to : place < at.place + max_record n
  pub differ : found ≢ expected

-- why the record that is due is refused
abbrev pub IsRecordCause : Numbers → ℕ → DiskView → DiskView → Tail → ScanFault → Type 0
IsRecordCause n core old new at faults.DiskFault = Rose old.faults new.faults
IsRecordCause n core old new at faults.NoMemory = ⊤
IsRecordCause n core old new at (faults.Damaged place found expected) = IfSome old.bytes (λ image. IsBad n core image at place found expected)

-- the place of a fault, behind a place, is one of 64 bits
abbrev pub FitsBehind : ℕ → RecordFault → Type 0
FitsBehind place (records.Bad at found expected) = place + at < 2 ^ 64
FitsBehind place records.NoMemory = ⊤

-- the fault of a record that stands at a place
abbrev pub fault_placed : ℕ → RecordFault → ScanFault
fault_placed place (records.Bad at found expected) = faults.Damaged (place + at) found expected
fault_placed place records.NoMemory = faults.NoMemory

-- the record at the start of the ring was read, with a number that isn't due any more
abbrev pub WasSeen : Numbers → ℕ → DiskView → Tail → ℕ → Type 0
WasSeen n core disk due number = (number < due.number) × IfSome disk.bytes (WasRead n core number)

-- why the journal's records were not read
abbrev pub IsRecordsCause : Numbers → ℕ → DiskView → DiskView → Tail → ScanFault → Type 0
IsRecordsCause n core old new tail faults.DiskFault = Rose old.faults new.faults
IsRecordsCause n core old new tail faults.NoMemory = ⊤
IsRecordsCause n core old new tail (faults.Damaged at found expected) = IfSome old.bytes (λ image. IsDamaged n core image tail at found expected)

-- the number of the record that was read at the start of the ring, after the one that is due
abbrev pub first_after : Option ℕ → Tail → Option ℕ
first_after first due = if due.place == 0 then Some due.number else first
