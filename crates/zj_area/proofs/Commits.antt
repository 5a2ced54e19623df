-- The two halves of a commit, on the bytes of a journal and at each moment.
use Rattle.std.proofs.Common.{◌≡◌, ◌≢◌, ℕ, ◌+◌, ◌-◌, ◌<◌, ◌≤◌, true, List, [], ◌∷◌, ◌++◌, length, drop, slice_index, refl, sym, ap, subst, ◌∙◌, arith, inl, inr, ◌⊎◌, length-drop}
use Rattle.std.specs.Prelude.{Option, Some, None, IfSome, option_map}
use Rattle.std.specs.List.{slice_range}
use Rattle.std.proofs.lemmas.Bool.{cases_eq}
use Rattle.zj_block.specs.Sizes.{Numbers}
use Rattle.zj_block.specs.declared.numbers.Tail.{Tail}
use Rattle.zj_dev.specs.Disk.{DiskView, EachImageSince, IsDisk, IsSettled, SameOutside, replaced}
use Rattle.zj_tx.specs.Record.{Accepts, IsRecord, Record, record_bytes}
use Rattle.zj_area.specs.Ring.{Holds, IsOpenAt, AllLive, HasRecords, HasRecordAt, behind, len_of}
use Rattle.zj_area.specs.Journal.{IsAtRest, IsJournal, IsLaid, JournalView, fullness, with_open}
use Rattle.zj_area.specs.Moments.{TornByGate, TornByLay}
use Rattle.zj_dev.proofs.DiskLaws.{byte_outside, length-replaced, one_byte, part_outside, replaced_outside, replaced_there, told_length}
use Rattle.zj_area.proofs.Outside.{stand_stays}
use Rattle.zj_area.proofs.Parts.{first_byte, part_split}
use Rattle.zj_area.proofs.Readings.{stand_more}
use Rattle.zj_area.proofs.Room.{Goes, HasRoom, clear_gate, clear_next, clear_record, has_room, lie_new, next_apart}

-- a gate that isn't open, where its byte is another
pub not_open : (image : List ℕ) (place byte : ℕ) → slice_index image place ≡ byte → byte ≢ 1 → IsOpenAt image place → ⊥
not_open image place byte e other opens = other (sym e ∙ opens)

-- a gate outside the bytes that may have changed
pub still_closed : (lo count : ℕ) (old new : List ℕ) (place : ℕ) → SameOutside lo count old new → (place < lo) ⊎ (lo + count ≤ place) → (IsOpenAt old place → ⊥) → IsOpenAt new place → ⊥
still_closed lo count old new place same apart closed opens = closed (sym (byte_outside lo count old new place same apart) ∙ opens)

-- a place apart from the next gate
apart_from_next : (n : Numbers) (tail end len next : ℕ) → Goes n tail end len next → (end < next) ⊎ (next + 1 ≤ end)
apart_from_next n tail end len next goes =
    let apart = next_apart n tail end len next goes in
    elim (cases_eq next 0) [
      | inl zero ↦ let some = apart.0 zero in inr (omega arith)
      | inr other ↦ let there = apart.1 (omega arith) in inl (omega (arith, goes.some))
    ]

-- ---- laying

module _ (n : Numbers) (core : ℕ) (tail end : Tail) (len next : ℕ) (goes : Goes n tail.place end.place len next) where
  -- with any bytes in the new record behind its gate, and in the next gate, the records stay
  pub laid_holds : (records : List Record) (before middle image : List ℕ) → IsJournal n core before tail records end → SameOutside (end.place + 1) (len - 1) before middle → SameOutside next 1 middle image → Holds n core image tail records end
  laid_holds records before middle image is body gate =
      let clear = clear_record n tail.place end.place len next tail records goes is.between in
      let clear2 = clear_next n tail.place end.place len next tail records goes is.between in
      let stand = stand_stays n core (end.place + 1) (len - 1) before middle records tail end body clear is.holds.stand in
      let closed = still_closed (end.place + 1) (len - 1) before middle end.place body (inl (omega arith)) is.holds.closed in
      record {
        stand = stand_stays n core next 1 middle image records tail end gate clear2 stand;
        closed = still_closed next 1 middle image end.place gate (apart_from_next n tail.place end.place len next goes) closed;
      }

  -- the bytes once the record was laid
  abbrev pub laid : List ℕ → List ℕ → List ℕ
  laid bytes spelled = replaced (replaced bytes (end.place + 1) (drop 1 spelled)) next (0 ∷ [])

  body_count : (spelled : List ℕ) → length spelled ≡ len → length (drop 1 spelled) ≡ len - 1
  body_count spelled many = let rest = length-drop 1 spelled in omega (arith, many)

  -- the part of the record in it
  record_there : (bytes spelled : List ℕ) → length bytes ≡ n.area → length spelled ≡ len → slice_range (with_open (laid bytes spelled) end.place) end.place (end.place + len) ≡ 1 ∷ drop 1 spelled
  record_there bytes spelled size many =
      let m = len - 1 in
      let body_len = body_count spelled many in
      let all : 1 + m ≡ len = omega (arith, goes.some) in
      let first = replaced bytes (end.place + 1) (drop 1 spelled) in
      let second = laid bytes spelled in
      let third = with_open second end.place in
      let fits : end.place + 1 + length (drop 1 spelled) ≤ length bytes = omega (arith, body_len, size, goes.most, goes.end_place, goes.some) in
      let first_size = length-replaced bytes (end.place + 1) (drop 1 spelled) fits in
      let next_fits : next + 1 ≤ length first = elim goes.next_is [ inl on ↦ omega (arith, on.0, on.1, first_size, size, goes.some, goes.most) | inr over ↦ omega (arith, over.0, first_size, size, goes.twice, goes.some, goes.most) ] in
      let second_size = length-replaced first next (0 ∷ []) next_fits in
      let end_fits : end.place + 1 ≤ length second = omega (arith, second_size, first_size, size, goes.end_place, goes.some, goes.most) in
      let body_third : slice_range third (end.place + 1) (end.place + 1 + m) ≡ slice_range second (end.place + 1) (end.place + 1 + m) =
      part_outside end.place 1 second third (end.place + 1) (end.place + 1 + m) (replaced_outside second end.place (1 ∷ []) end_fits) (inr (omega arith)) in
      let apart : (end.place + 1 + m ≤ next) ⊎ (next + 1 ≤ end.place + 1) =
      elim goes.next_is [ inl on ↦ inl (omega (arith, on.0, all)) | inr over ↦ inr (omega (arith, over.0)) ] in
      let body_second : slice_range second (end.place + 1) (end.place + 1 + m) ≡ slice_range first (end.place + 1) (end.place + 1 + m) =
      part_outside next 1 first second (end.place + 1) (end.place + 1 + m) (replaced_outside first next (0 ∷ []) next_fits) apart in
      let body_first : slice_range first (end.place + 1) (end.place + 1 + m) ≡ drop 1 spelled =
      ap (λ (k : ℕ). slice_range first (end.place + 1) (end.place + 1 + k)) (sym body_len) ∙ replaced_there bytes (end.place + 1) (drop 1 spelled) fits in
      let gate : slice_range third end.place (end.place + 1) ≡ 1 ∷ [] = replaced_there second end.place (1 ∷ []) end_fits in
      ap (λ (k : ℕ). slice_range third end.place (end.place + k)) (sym all) ∙ part_split third end.place 1 m
      ∙ ap (λ (l : List ℕ). l ++ slice_range third (end.place + 1) (end.place + 1 + m)) gate
      ∙ ap (λ (l : List ℕ). (1 ∷ []) ++ l) (body_third ∙ body_second ∙ body_first)

  -- the records stay
  pub laid_journal : (records : List Record) (bytes spelled : List ℕ) → length bytes ≡ n.area → length spelled ≡ len → IsJournal n core bytes tail records end → IsJournal n core (laid bytes spelled) tail records end
  laid_journal records bytes spelled size many is =
      let body_len = body_count spelled many in
      let first = replaced bytes (end.place + 1) (drop 1 spelled) in
      let fits : end.place + 1 + length (drop 1 spelled) ≤ length bytes = omega (arith, body_len, size, goes.most, goes.end_place, goes.some) in
      let first_size = length-replaced bytes (end.place + 1) (drop 1 spelled) fits in
      let next_fits : next + 1 ≤ length first = elim goes.next_is [ inl on ↦ omega (arith, on.0, on.1, first_size, size, goes.some, goes.most) | inr over ↦ omega (arith, over.0, first_size, size, goes.twice, goes.some, goes.most) ] in
      record {
        holds = laid_holds records bytes first (laid bytes spelled) is
            (subst (λ (k : ℕ). SameOutside (end.place + 1) k bytes first) body_len (replaced_outside bytes (end.place + 1) (drop 1 spelled) fits))
            (replaced_outside first next (0 ∷ []) next_fits);
        between = is.between;
      }

  -- the next gate is closed
  next_closed : (bytes spelled : List ℕ) → length bytes ≡ n.area → length spelled ≡ len → IsOpenAt (with_open (laid bytes spelled) end.place) next → ⊥
  next_closed bytes spelled size many =
      let body_len = body_count spelled many in
      let first = replaced bytes (end.place + 1) (drop 1 spelled) in
      let second = laid bytes spelled in
      let third = with_open second end.place in
      let fits : end.place + 1 + length (drop 1 spelled) ≤ length bytes = omega (arith, body_len, size, goes.most, goes.end_place, goes.some) in
      let first_size = length-replaced bytes (end.place + 1) (drop 1 spelled) fits in
      let next_fits : next + 1 ≤ length first = elim goes.next_is [ inl on ↦ omega (arith, on.0, on.1, first_size, size, goes.some, goes.most) | inr over ↦ omega (arith, over.0, first_size, size, goes.twice, goes.some, goes.most) ] in
      let second_size = length-replaced first next (0 ∷ []) next_fits in
      let end_fits : end.place + 1 ≤ length second = omega (arith, second_size, first_size, size, goes.end_place, goes.some, goes.most) in
      let zero : slice_index second next ≡ 0 = sym (first_byte second next (0 ∷ []) [] (omega arith) (sym (replaced_there first next (0 ∷ []) next_fits))) in
      let apart : (next < end.place) ⊎ (end.place + 1 ≤ next) = elim (apart_from_next n tail.place end.place len next goes) [ inl on ↦ inr (omega arith) | inr over ↦ inl (omega arith) ] in
      not_open third next 0 (byte_outside end.place 1 second third next (replaced_outside second end.place (1 ∷ []) end_fits) apart ∙ zero) (λ e. omega (arith, e))

  -- with the gate open there is one record more
  pub opened_journal : (records : List Record) (bytes : List ℕ) (r : Record) (due : Tail) → due ≡ behind n end r → next ≡ due.place → len_of r ≡ len → slice_index (record_bytes r) 0 ≡ 1 → IsRecord r → Accepts n core end.number r → length bytes ≡ n.area
      → IsJournal n core bytes tail records end → IsJournal n core (with_open (laid bytes (record_bytes r)) end.place) tail (records ++ r ∷ []) due
  opened_journal records bytes r due due_is here many gate is_record accepted size is =
      let spelled = record_bytes r in
      let second = laid bytes spelled in
      let third = with_open second end.place in
      let whole = laid_journal records bytes spelled size many is in
      let second_size : length second ≡ n.area = laid_size bytes spelled size many in
      let outside = replaced_outside second end.place (1 ∷ []) (omega (arith, second_size, goes.end_place, goes.some, goes.most)) in
      let stand = stand_stays n core end.place 1 second third records tail end outside (clear_gate n tail.place end.place tail records is.between) whole.holds.stand in
      let there : slice_range third end.place (end.place + len_of r) ≡ spelled = ap (λ (k : ℕ). slice_range third end.place (end.place + k)) many ∙ record_there bytes spelled size many ∙ sym (first_one spelled gate) in
      let stood : HasRecordAt n core third end r = record { is_record = is_record; accepted = accepted; spelled = there } in
      record {
        holds = record {
          stand = subst (λ (t : Tail). HasRecords n core third tail (records ++ r ∷ []) t) (sym due_is) (stand_more n core third records tail end r stand stood);
          closed = subst (λ (p : ℕ). IsOpenAt third p → ⊥) here (next_closed bytes spelled size many);
        };
        between = subst (λ (p : ℕ). AllLive n tail.place p tail (records ++ r ∷ [])) here
            (lie_new n core bytes tail.place next records tail end r (subst (λ (k : ℕ). Goes n tail.place end.place k next) (sym many) goes) is.holds.stand is.between);
      }
    where
      first_one : (bytes : List ℕ) → slice_index bytes 0 ≡ 1 → bytes ≡ 1 ∷ drop 1 bytes
      first_one [] e = absurd (omega arith)
      first_one (b ∷ bytes) e = ap (λ (x : ℕ). x ∷ bytes) e

      laid_size : (bytes spelled : List ℕ) → length bytes ≡ n.area → length spelled ≡ len → length (laid bytes spelled) ≡ n.area
      laid_size bytes spelled size many =
          let body_len = body_count spelled many in
          let first = replaced bytes (end.place + 1) (drop 1 spelled) in
          let fits : end.place + 1 + length (drop 1 spelled) ≤ length bytes = omega (arith, body_len, size, goes.most, goes.end_place, goes.some) in
          let first_size = length-replaced bytes (end.place + 1) (drop 1 spelled) fits in
          let next_fits : next + 1 ≤ length first = elim goes.next_is [ inl on ↦ omega (arith, on.0, on.1, first_size, size, goes.some, goes.most) | inr over ↦ omega (arith, over.0, first_size, size, goes.twice, goes.some, goes.most) ] in
          length-replaced first next (0 ∷ []) next_fits ∙ first_size ∙ size

-- ---- on a disk

-- what holds of a told image holds of each that a settled disk may leave
pub of_settled : (P : List ℕ → Type 0) (d : DiskView) → IsSettled d → IfSome d.bytes P → (image : List ℕ) → d.may_leave d.calls image ≡ true → P image
of_settled P d settled told image may = rw (settled image may) at told

mapped : (P Q : List ℕ → Type 0) (f : List ℕ → List ℕ) (o o' : Option (List ℕ)) → o' ≡ option_map f o → ((image : List ℕ) → o ≡ Some image → P image → Q (f image)) → IfSome o P → IfSome o' Q
mapped P Q f None None e follows p = tt
mapped P Q f None (Some x) e follows p = cc
mapped P Q f (Some x) None e follows p = cc
mapped P Q f (Some x) (Some y) e follows p = let same : f x ≡ y = cc in subst Q same (follows x refl p)

-- the journal on another disk, with another end
abbrev pub moved : JournalView → DiskView → Tail → JournalView
moved j disk end = record { disk = disk; sizes = j.sizes; core = j.core; tail = j.tail; end = end; ready = j.ready; failed = j.failed }

module _ (j : JournalView) (len next : ℕ) (goes : HasRoom j.sizes j.tail.place j.end.place → Goes j.sizes j.tail.place j.end.place len next) (none : fullness j.sizes j.tail j.end ≡ None) (is_disk : IsDisk j.disk) (size : j.disk.size ≡ j.sizes.area) where
  -- the room that told bytes have
  goes_on : (records : List Record) (image : List ℕ) → IsJournal j.sizes j.core image j.tail records j.end → Goes j.sizes j.tail.place j.end.place len next
  goes_on records image is = goes (has_room j.sizes j.core image records j.tail j.end is.holds.stand none)

  -- laying, at each moment
  pub keeps_records : (new : DiskView) → EachImageSince j.disk.calls new (TornByLay j.end.place len next j.disk) → (records : List Record) → IsAtRest j records
      → EachImageSince j.disk.calls new (λ image. Holds j.sizes j.core image j.tail records j.end)
  keeps_records new torn records rest moment image from to may =
      let t = torn moment image from to may in
      let is = of_settled (λ i. IsJournal j.sizes j.core i j.tail records j.end) j.disk rest.settled rest.journal t.before t.left in
      laid_holds j.sizes j.core j.tail j.end len next (goes_on records t.before is) records t.before t.middle image is t.body t.gate

  -- and once it is done
  pub lays : (new : DiskView) (r : Record) → next ≡ (behind j.sizes j.end r).place → len_of r ≡ len → slice_index (record_bytes r) 0 ≡ 1 → IsRecord r → Accepts j.sizes j.core j.end.number r → IsSettled new
      → new.bytes ≡ option_map (λ bytes. replaced (replaced bytes (j.end.place + 1) (drop 1 (record_bytes r))) next (0 ∷ [])) j.disk.bytes
      → (records : List Record) → IsAtRest j records → IsLaid (moved j new j.end) records r (behind j.sizes j.end r)
  lays new r here many gate is_record accepted settled bytes records rest =
      let f : List ℕ → List ℕ = λ b. replaced (replaced b (j.end.place + 1) (drop 1 (record_bytes r))) next (0 ∷ []) in
      let J = λ (i : List ℕ). IsJournal j.sizes j.core i j.tail records j.end in
      let K = λ (i : List ℕ). IsJournal j.sizes j.core (with_open i j.end.place) j.tail (records ++ r ∷ []) (behind j.sizes j.end r) in
      record {
        at_rest = record {
          settled = settled;
          journal = mapped J J f j.disk.bytes new.bytes bytes
              (λ image told is. laid_journal j.sizes j.core j.tail j.end len next (goes_on records image is) records image (record_bytes r) (told_length j.disk image is_disk told ∙ size) many is) rest.journal;
        };
        opens = mapped J K f j.disk.bytes new.bytes bytes
            (λ image told is. opened_journal j.sizes j.core j.tail j.end len next (goes_on records image is) records image r (behind j.sizes j.end r) refl here many gate is_record accepted (told_length j.disk image is_disk told ∙ size) is) rest.journal;
      }

module _ (j : JournalView) (next : Tail) (is_disk : IsDisk j.disk) (size : j.disk.size ≡ j.sizes.area) (place : j.end.place + 1 ≤ j.sizes.area) where
  -- with any byte in the gate
  either : (records : List Record) (r : Record) (before image : List ℕ) → length before ≡ j.sizes.area → IsJournal j.sizes j.core before j.tail records j.end → IsJournal j.sizes j.core (with_open before j.end.place) j.tail (records ++ r ∷ []) next
      → SameOutside j.end.place 1 before image → Holds j.sizes j.core image j.tail records j.end ⊎ Holds j.sizes j.core image j.tail (records ++ r ∷ []) next
  either records r before image many is opens gate =
      elim (cases_eq (slice_index image j.end.place) 1) [
        | inl one ↦
            let same : image ≡ with_open before j.end.place = one_byte j.end.place before image gate (omega (arith, many, place)) ∙ ap (λ (b : ℕ). replaced before j.end.place (b ∷ [])) one in
            inr (subst (λ (i : List ℕ). Holds j.sizes j.core i j.tail (records ++ r ∷ []) next) (sym same) opens.holds)
        | inr other ↦ inl (record {
          stand = stand_stays j.sizes j.core j.end.place 1 before image records j.tail j.end gate (clear_gate j.sizes j.tail.place j.end.place j.tail records is.between) is.holds.stand;
          closed = other;
        })
      ]

  pub opens_gate : (new : DiskView) → EachImageSince j.disk.calls new (TornByGate j.end.place j.disk) → (records : List Record) (r : Record) → IsLaid j records r next
      → EachImageSince j.disk.calls new (λ image. Holds j.sizes j.core image j.tail records j.end ⊎ Holds j.sizes j.core image j.tail (records ++ r ∷ []) next)
  opens_gate new torn records r laid moment image from to may =
      let t = torn moment image from to may in
      let told = laid.at_rest.settled t.before t.left in
      either records r t.before image (told_length j.disk t.before is_disk told ∙ size)
      (of_settled (λ i. IsJournal j.sizes j.core i j.tail records j.end) j.disk laid.at_rest.settled laid.at_rest.journal t.before t.left)
      (of_settled (λ i. IsJournal j.sizes j.core (with_open i j.end.place) j.tail (records ++ r ∷ []) next) j.disk laid.at_rest.settled laid.opens t.before t.left) t.gate

  -- and once it is done
  pub opens_done : (new : DiskView) → IsSettled new → new.bytes ≡ option_map (λ bytes. replaced bytes j.end.place (1 ∷ [])) j.disk.bytes → (records : List Record) (r : Record) → IsLaid j records r next → IsAtRest (moved j new next) (records ++ r ∷ [])
  opens_done new settled bytes records r laid = record {
    settled = settled;
    journal = mapped (λ i. IsJournal j.sizes j.core (with_open i j.end.place) j.tail (records ++ r ∷ []) next) (λ i. IsJournal j.sizes j.core i j.tail (records ++ r ∷ []) next)
        (λ b. with_open b j.end.place) j.disk.bytes new.bytes bytes (λ image told is. is) laid.opens;
  }
