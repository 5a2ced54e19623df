-- A record that was read into the buffer, as one that stands in the journal.
use Rattle.std.proofs.Common.{◌≡◌, ◌≢◌, ℕ, ◌+◌, ◌^◌, ◌<◌, ◌≤◌, List, ◌++◌, length, take, drop, sym, ap, ◌∙◌, arith}
use Rattle.std.specs.List.{slice_range}
use Rattle.std.specs.Prelude.{Option, Some, None, IfSome}
use Rattle.std.proofs.lemmas.List.{take-append-drop, take-append-le, take-take, take_at}
use Rattle.zj_block.specs.Sizes.{Numbers, max_record}
use Rattle.zj_block.specs.declared.numbers.Tail.{Tail}
use Rattle.zj_dev.specs.Disk.{DiskView}
use Rattle.zj_tx.specs.Fault.{IfBad, IsFaultIn}
use Rattle.zj_tx.specs.Laws.{SpellingLength}
use Rattle.zj_tx.specs.Record.{Accepts, IsRecord, Record, record_bytes}
use Rattle.zj_tx.specs.declared.fault.RecordFault.{RecordFault}
use Rattle.zj_tx.specs.declared.fault.RecordFault.TheVariants.{Bad, NoMemory}
use Rattle.zj_area.specs.Ring.{IsOpenAt, HasRecordAt, len_of}
use Rattle.zj_area.specs.Reading.{FitsBehind, IsBad, IsRecordCause, TellsLength, fault_placed}
use Rattle.zj_area.proofs.Parts.{part_is}

-- the place of a fault fits
pub fits_behind : (place limit : ℕ) (fault : RecordFault) → IsFaultIn limit fault → place + limit < 2 ^ 64 → FitsBehind place fault
fits_behind place limit NoMemory is small = tt
fits_behind place limit (Bad at found expected) is small = omega (arith, is.0)

-- a record has a head
pub has_head : SpellingLength → (r : Record) → IsRecord r → 24 ≤ len_of r
has_head law r is = let len = law r is in omega (arith, len)

-- the head of what stands at a place
head_at : (image : List ℕ) (p n : ℕ) → 24 ≤ n → take 24 (slice_range image p (p + n)) ≡ take 24 (drop p image)
head_at image p n long = ap (take 24) (part_is image p n) ∙ take-take 24 n (drop p image) long

module _ (law : SpellingLength) (n : Numbers) (core : ℕ) (due : Tail) (buffer : List ℕ) (len : ℕ) (long : 24 ≤ len) (tells : TellsLength n buffer len) where
  -- what was decoded stands there
  pub stands : (r : Record) (rest : List ℕ) → IsRecord r → Accepts n core due.number r → buffer ≡ record_bytes r ++ rest → (image : List ℕ) → take len buffer ≡ slice_range image due.place (due.place + len) → HasRecordAt n core image due r
  stands r rest is accepted e image read =
      let head : take 24 buffer ≡ take 24 (record_bytes r) = ap (take 24) e ∙ take-append-le 24 (record_bytes r) rest (has_head law r is) in
      let many : len ≡ len_of r = tells r is accepted.cores (sym head) in
      record {
        is_record = is;
        accepted = accepted;
        spelled = ap (λ (k : ℕ). slice_range image due.place (due.place + k)) (sym many) ∙ sym read ∙ ap (take len) e ∙ take_at (record_bytes r) rest len (sym many);
      }

  -- what stands there is in the buffer
  pub in_buffer : (r : Record) (image : List ℕ) → take len buffer ≡ slice_range image due.place (due.place + len) → HasRecordAt n core image due r → buffer ≡ record_bytes r ++ drop len buffer
  in_buffer r image read stood =
      let mine : take 24 buffer ≡ take 24 (drop due.place image) = sym (take-take 24 len buffer long) ∙ ap (take 24) read ∙ head_at image due.place len long in
      let his : take 24 (record_bytes r) ≡ take 24 (drop due.place image) = ap (take 24) (sym stood.spelled) ∙ head_at image due.place (len_of r) (has_head law r stood.is_record) in
      let many : len ≡ len_of r = tells r stood.is_record stood.accepted.cores (his ∙ sym mine) in
      sym (take-append-drop len buffer) ∙ ap (λ (l : List ℕ). l ++ drop len buffer) (read ∙ ap (λ (k : ℕ). slice_range image due.place (due.place + k)) many ∙ stood.spelled)

  -- a fault of the buffer is a fault of the journal
  pub refused : (old new : DiskView) (fault : RecordFault) → length buffer ≡ max_record n → IsFaultIn (length buffer) fault
      → IfBad fault ((r : Record) (rest : List ℕ) → IsRecord r → Accepts n core due.number r → buffer ≢ record_bytes r ++ rest)
      → IfSome old.bytes (λ image. IsOpenAt image due.place) → IfSome old.bytes (λ image. take len buffer ≡ slice_range image due.place (due.place + len))
      → IsRecordCause n core old new due (fault_placed due.place fault)
  refused old new NoMemory room is none opens read = tt
  refused old new (Bad at found expected) room is none opens read = both old.bytes opens read
    where
      both : (o : Option (List ℕ)) → IfSome o (λ image. IsOpenAt image due.place) → IfSome o (λ image. take len buffer ≡ slice_range image due.place (due.place + len)) → IfSome o (λ image. IsBad n core image due (due.place + at) found expected)
      both None opens read = tt
      both (Some image) opens read = record {
        opens = opens;
        none = λ r stood. none r (drop len buffer) stood.is_record stood.accepted (in_buffer r image read stood);
        from = omega arith;
        to = omega (arith, is.0, room);
        differ = is.1;
      }
