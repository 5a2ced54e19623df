-- What a scan finds, and why one is refused.
use Rattle.std.specs.Prelude.{◌≡◌, true, false, List, [], IfSome, ⊤}
use Rattle.zj_block.specs.declared.numbers.Tail.{Tail}
use Rattle.zj_dev.specs.Fault.{Rose}
use Rattle.zj_dev.specs.Disk.{DiskView, IsSettled}
use Rattle.zj_tx.specs.Record.{Record}
use Rattle.zj_area.specs.Ring.{Holds, IsDamaged}
use Rattle.zj_area.specs.Journal.{IsAtRest, JournalView}
use Rattle.zj_area.specs.declared.fault.ScanFault.{ScanFault}
use Rattle.zj_area.specs.declared.fault.ScanFault.TheVariants as faults

-- the end of the journal is known: it was read, and no commit has failed since
abbrev pub IsKnown : JournalView → Type 0
IsKnown j = (j.ready ≡ true) × (j.failed ≡ false)

-- A scan found these records: the bytes hold them, up to the end that is known from then on, if none was before.
abbrev pub Finds : JournalView → JournalView → List Record → Type 0
Finds old new records = IfSome old.disk.bytes (λ image. (end : Tail) × Holds old.sizes old.core image old.tail records end × ((IsKnown old → ⊥) → new.end ≡ end))

-- Where the end was not known and nothing was pending on the device, a scan that found no record leaves the journal at rest,
-- with none.
abbrev pub RestsEmpty : JournalView → JournalView → List Record → Type 0
RestsEmpty old new records = (IsKnown old → ⊥) → IsSettled old.disk → records ≡ [] → IsAtRest new []

-- Why a scan was refused: the device's count rose, or its bytes are damaged. That there is no memory may come at any time.
abbrev pub IsScanCause : JournalView → DiskView → ScanFault → Type 0
IsScanCause old new faults.DiskFault = Rose old.disk.faults new.faults
IsScanCause old new faults.NoMemory = ⊤
IsScanCause old new (faults.Damaged at found expected) = IfSome old.disk.bytes (λ image. IsDamaged old.sizes old.core image old.tail at found expected)
