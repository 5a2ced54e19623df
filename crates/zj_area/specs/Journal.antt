-- A journal as its callers see it.
use Rattle.std.specs.Prelude.{◌≡◌, ℕ, ◌+◌, ◌-◌, ◌*◌, ◌^◌, ◌<◌, ◌≤◌, ◌==◌, Bool, false, nat_lt, if◌then◌else◌, List, [], ◌∷◌, ◌++◌, Option, Some, None, IfSome}
use Rattle.zj_block.specs.Sizes.{IsInLimits, Numbers, max_record}
use Rattle.zj_block.specs.declared.numbers.Tail.{Tail}
use Rattle.zj_dev.specs.Disk.{DiskView, IsDisk, IsSettled, replaced}
use Rattle.zj_tx.specs.Record.{Record}
use Rattle.zj_area.specs.Ring.{Holds, IsPlace, AllLive}
use Rattle.zj_area.specs.declared.area.Full.{Full}

-- A journal: its device, the sizes of the image, its core, where its records begin and where the next one is due, whether
-- they were read, and whether a commit has failed.
pub record JournalView : Type 0 where
  pub disk : DiskView
  pub sizes : Numbers
  pub core : ℕ
  pub tail : Tail
  pub end : Tail
  pub ready : Bool
  pub failed : Bool

-- An area: a journal over a device that it owns, and where its end will be once the gate of the record that was laid is open.
pub record AreaView (D : Type 0) : Type 0 where
  pub device : D
  pub sizes : Numbers
  pub core : ℕ
  pub tail : Tail
  pub end : Tail
  pub ready : Bool
  pub failed : Bool
  pub laid : Option Tail

-- the journal that an area is
abbrev pub journal_of : {D : Type 0} → (D → DiskView) → AreaView D → JournalView
journal_of view area = record { disk = view area.device; sizes = area.sizes; core = area.core; tail = area.tail; end = area.end; ready = area.ready; failed = area.failed }

-- an area that was just opened: nothing was read yet
abbrev pub opened : {D : Type 0} → D → Numbers → ℕ → Tail → AreaView D
opened device sizes core tail = record { device = device; sizes = sizes; core = core; tail = tail; end = tail; ready = false; failed = false; laid = None }

-- What is true of each area. A commit makes device calls, so the numbers of transactions end where those calls do.
pub record IsArea (disk : DiskView) (n : Numbers) (core : ℕ) (tail end : Tail) (laid : Option Tail) (buffer : ℕ) : Type 0 where
  pub is_disk : IsDisk disk
  pub limits : IsInLimits n
  pub size : disk.size ≡ n.area
  pub core_within : core < n.cores
  pub tail_place : IsPlace n tail.place
  pub tail_number : tail.number ≤ 2 ^ 62 + disk.calls
  pub tail_early : tail.number ≤ 2 ^ 62 + 2 ^ 63
  pub end_place : IsPlace n end.place
  pub end_number : end.number ≤ 2 ^ 62 + disk.calls
  pub end_early : end.number ≤ 2 ^ 62 + 2 ^ 63
  pub next : IfSome laid (λ next. IsPlace n next.place × (next.number ≡ end.number + 1))
  pub room : buffer ≡ max_record n

-- These bytes hold these records, each of which lies between the tail and the end.
pub record IsJournal (n : Numbers) (core : ℕ) (image : List ℕ) (tail : Tail) (records : List Record) (end : Tail) : Type 0 where
  pub holds : Holds n core image tail records end
  pub between : AllLive n tail.place end.place tail records

-- What holds between two commits: nothing is pending on the device, and its bytes hold these records, up to a gate that is
-- not open.
pub record IsAtRest (j : JournalView) (records : List Record) : Type 0 where
  pub settled : IsSettled j.disk
  pub journal : IfSome j.disk.bytes (λ image. IsJournal j.sizes j.core image j.tail records j.end)

-- the bytes with a gate open
abbrev pub with_open : List ℕ → ℕ → List ℕ
with_open image place = replaced image place (1 ∷ [])

-- What holds between the two halves of a commit: the records as before, and with the gate at the end open one more.
pub record IsLaid (j : JournalView) (records : List Record) (r : Record) (next : Tail) : Type 0 where
  pub at_rest : IsAtRest j records
  pub opens : IfSome j.disk.bytes (λ image. IsJournal j.sizes j.core (with_open image j.end.place) j.tail (records ++ r ∷ []) next)

-- what a longest record needs, where less is free
abbrev pub lacking : ℕ → ℕ → Option Full
lacking need free = if nat_lt free need then Some (record { need = need; free = free }) else None

-- Why a longest record has no room in front of the tail: never where no record is live, or where the records end behind a tail that is
-- not at the start. Where the tail is at the start, what follows the record has to fit behind it. Where the records end
-- in front of the tail, one byte has to stay between.
abbrev pub fullness : Numbers → Tail → Tail → Option Full
fullness n tail end =
    if end.number == tail.number then None
    else if nat_lt tail.place end.place then (if tail.place == 0 then lacking (2 * max_record n) (n.area - end.place) else None)
    else lacking (max_record n + 1) (tail.place - end.place)
