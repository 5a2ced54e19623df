-- What the bytes of a journal hold: records, one behind the other in a ring.
use Rattle.std.specs.Prelude.{◌≡◌, ◌≢◌, ◌⊎◌, ℕ, ◌+◌, ◌<◌, ◌≤◌, nat_le, if◌then◌else◌, List, [], ◌∷◌, length, slice_index}
use Rattle.std.specs.List.{slice_range}
use Rattle.zj_block.specs.Sizes.{Numbers, max_record}
use Rattle.zj_block.specs.declared.numbers.Tail.{Tail}
use Rattle.zj_tx.specs.Record.{Accepts, IsRecord, Record, record_bytes}

-- how many bytes a record takes
abbrev pub len_of : Record → ℕ
len_of r = length (record_bytes r)

-- a place from which a longest record fits into the area
abbrev pub IsPlace : Numbers → ℕ → Type 0
IsPlace n place = place + max_record n ≤ n.area

-- where the record goes that follows one with this end: there, or to the start where a longest record doesn't fit
unfoldable pub next_place : Numbers → ℕ → ℕ
next_place n end = if nat_le (end + max_record n) n.area then end else 0

-- where the record is due that follows this one
abbrev pub behind : Numbers → Tail → Record → Tail
behind n at r = record { place = next_place n (at.place + len_of r); number = at.number + 1 }

-- a gate is open where its byte is 1
abbrev pub IsOpenAt : List ℕ → ℕ → Type 0
IsOpenAt image place = slice_index image place ≡ 1

-- A record stands in these bytes where one is due, and fits the image and the core.
pub record HasRecordAt (n : Numbers) (core : ℕ) (image : List ℕ) (at : Tail) (r : Record) : Type 0 where
  pub is_record : IsRecord r
  pub accepted : Accepts n core at.number r
  pub spelled : slice_range image at.place (at.place + len_of r) ≡ record_bytes r

-- The records stand one behind the other from a tail on, and the next one is due at the end.
abbrev pub HasRecords : Numbers → ℕ → List ℕ → Tail → List Record → Tail → Type 0
HasRecords n core image tail [] end = tail ≡ end
HasRecords n core image tail (r ∷ rs) end = HasRecordAt n core image tail r × HasRecords n core image (behind n tail r) rs end

-- A journal with these bytes holds these records: they stand there, and the gate behind them is not open.
pub record Holds (n : Numbers) (core : ℕ) (image : List ℕ) (tail : Tail) (records : List Record) (end : Tail) : Type 0 where
  pub stand : HasRecords n core image tail records end
  pub closed : IsOpenAt image end.place → ⊥

-- A journal with these bytes is damaged: behind records that stand there a gate is open, and no record stands that fits.
-- What is told of it is a place in that record, and two numbers that differ.
pub record IsDamaged (n : Numbers) (core : ℕ) (image : List ℕ) (tail : Tail) (at found expected : ℕ) : Type 0 where
  pub records : List Record
  pub bad : Tail
  pub stand : HasRecords n core image tail records bad
  pub opens : IsOpenAt image bad.place
  pub none : (r : Record) → HasRecordAt n core image bad r → ⊥
  pub from : bad.place ≤ at
  pub to : at < bad.place + max_record n
  pub differ : found ≢ expected

-- Bytes lie between the tail and the end of a ring: in front of the end and not in front of the tail, or, where the end
-- is in front of the tail, one of both.
abbrev pub IsLive : ℕ → ℕ → ℕ → ℕ → Type 0
IsLive tail end from to = ((tail < end) × (tail ≤ from) × (to ≤ end)) ⊎ ((end < tail) × ((tail ≤ from) ⊎ (to ≤ end)))

-- Each record lies between the tail and the end, so that none is where the next one goes.
abbrev pub AllLive : Numbers → ℕ → ℕ → Tail → List Record → Type 0
AllLive n tail end at [] = Unit {0}
AllLive n tail end at (r ∷ rs) = IsLive tail end at.place (at.place + len_of r) × AllLive n tail end (behind n at r) rs
