-- What a disk in memory holds, which of its calls fail, and what it tells of itself.
use Rattle.std.specs.Prelude.{◌≡◌, ℕ, Bool, true, List, length, min, Some}
use Rattle.zj_dev.specs.Disk.{DiskView, IsDisk}
use Rattle.zj_dev.specs.Medium.{Medium, fails_at, told}
use Rattle.zj_dev.specs.declared.mem_disk.MemDisk.{MemDisk}

-- what the disk holds, and what is pending on it
abbrev pub medium_of : MemDisk → Medium
medium_of disk = record { bytes = disk.bytes.items; settled = disk.settled.items; pending = disk.pending.items }

-- the numbers of the calls that were told to fail
abbrev pub failing_calls : MemDisk → List ℕ
failing_calls disk = disk.failing.items

-- the number from which on each call fails
abbrev pub stop_call : MemDisk → ℕ
stop_call disk = disk.stop

-- how many calls were made
abbrev pub calls_made : MemDisk → ℕ
calls_made disk = disk.calls

-- whether the next call was told to fail, or the disk has stopped
abbrev pub fails_now : MemDisk → Bool
fails_now disk = fails_at (failing_calls disk) (stop_call disk) (calls_made disk)

-- what the disk tells of itself
abbrev pub disk_view : MemDisk → DiskView
disk_view disk = told disk.start.items disk.history.items disk.failing.items disk.stop disk.calls disk.bytes.items

-- a new disk with these bytes, and nothing pending
pub record IsFresh (content : List ℕ) (disk : DiskView) : Type 0 where
  pub size : disk.size ≡ length content
  pub calls : disk.calls ≡ 0
  pub faults : disk.faults ≡ 0
  pub bytes : disk.bytes ≡ Some content
  pub only : (image : List ℕ) → disk.may_leave disk.calls image ≡ true → image ≡ content
  pub is_disk : IsDisk disk

-- The same calls fail, from the same number on.
pub record SameFailures (old new : MemDisk) : Type 0 where
  pub failing : failing_calls new ≡ failing_calls old
  pub stop : stop_call new ≡ stop_call old

-- The call found no memory: the disk holds what it held, and from this call on each call fails.
pub record GivesUp (old new : MemDisk) : Type 0 where
  pub medium : medium_of new ≡ medium_of old
  pub failing : failing_calls new ≡ failing_calls old
  pub stop : stop_call new ≡ min (stop_call old) (calls_made old)

-- The disk is as it was.
pub record IsUnchanged (old new : MemDisk) : Type 0 where
  pub medium : medium_of new ≡ medium_of old
  pub told : disk_view new ≡ disk_view old
