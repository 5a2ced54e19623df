-- Reading record after record: what is known so far, and what is left to read.
use Rattle.std.proofs.Common.{◌≡◌, ℕ, ◌+◌, ◌-◌, ◌*◌, ◌^◌, ◌<◌, ◌≤◌, ◌==◌, List, [], ◌∷◌, ◌++◌, length, refl, ap, subst, arith, inl, inr, ◌⊎◌}
use Rattle.std.proofs.lemmas.Bool.{cases_eq, cases_lt}
use Rattle.std.proofs.lemmas.Bool.Decides.{nat_tests}
use Rattle.std.proofs.lemmas.Grind.{common_steps}
use Rattle.std.proofs.lemmas.List.{length_push}
use Rattle.std.specs.Prelude.{Option, Some, None, IfSome, if◌then◌else◌, Bool, true, false, nat_le}
use Rattle.zj_block.specs.Sizes.{Numbers, max_record}
use Rattle.zj_block.specs.declared.numbers.Tail.{Tail}
use Rattle.zj_dev.specs.Disk.{DiskView, IsDisk, OnlyReads}
use Rattle.zj_tx.specs.Record.{Record}
use Rattle.zj_area.specs.Ring.{IsPlace, HasRecords, HasRecordAt, behind, len_of, next_place}
use Rattle.zj_area.specs.Reading.{WasRead, WasSeen, first_after}
use Rattle.zj_dev.proofs.DiskLaws.{reads_trans}
use Rattle.zj_area.proofs.Parts.{if_both}
use Rattle.zj_area.proofs.Readings.{stand_more}

-- what is known after some turns
pub record SoFar (n : Numbers) (core : ℕ) (old now : DiskView) (tail due : Tail) (found : List Record) (first : Option ℕ) : Type 0 where
  pub left : OnlyReads old now
  pub is_disk : IsDisk now
  pub stand : IfSome old.bytes (λ image. HasRecords n core image tail found due)
  pub place : IsPlace n due.place
  pub many : due.number ≡ tail.number + length found
  pub few : length found + old.calls ≤ now.calls
  pub begins : tail.number ≤ 2 ^ 62 + old.calls
  pub early : due.number ≤ 2 ^ 62 + 2 ^ 63
  pub calls : now.calls ≤ old.calls + 2 * length found
  pub seen : IfSome first (WasSeen n core old due)
  pub none : length found ≡ 0 → due ≡ tail

-- how far it is to the end of the area, and once more round it where the record at the start wasn't read
abbrev pub to_end : Numbers → ℕ → ℕ
to_end n place = if place == 0 then 0 else 1 + (n.area - place)

abbrev pub to_go : Numbers → Option ℕ → ℕ → ℕ
to_go n None place = 2 + n.area + to_end n place
to_go n (Some number) place = to_end n place

-- ---- places in the ring

pub next_cases : (n : Numbers) (end : ℕ) → ((next_place n end ≡ end) × (end + max_record n ≤ n.area)) ⊎ ((next_place n end ≡ 0) × (n.area < end + max_record n))
unfolding next_place
next_cases n end =
    elim (cases_lt n.area (end + max_record n)) [
      | inl over ↦ let test : nat_le (end + max_record n) n.area ≡ false = grind (arith, common_steps, nat_tests) in inr (ap (λ (b : Bool). if b then end else 0) test, over)
      | inr within ↦ let test : nat_le (end + max_record n) n.area ≡ true = grind (arith, common_steps, nat_tests) in inl (ap (λ (b : Bool). if b then end else 0) test, within)
    ]

zero_test : (place : ℕ) → place ≡ 0 → (place == 0) ≡ true
zero_test place e = grind (arith, common_steps, nat_tests)

some_test : (place : ℕ) → 0 < place → (place == 0) ≡ false
some_test place e = grind (arith, common_steps, nat_tests)

-- to_end at the start and behind it
end_zero : (n : Numbers) (place : ℕ) → place ≡ 0 → to_end n place ≡ 0
end_zero n place e = ap (λ (b : Bool). if b then 0 else 1 + (n.area - place)) (zero_test place e)

end_some : (n : Numbers) (place : ℕ) → 0 < place → to_end n place ≡ 1 + (n.area - place)
end_some n place some = ap (λ (b : Bool). if b then 0 else 1 + (n.area - place)) (some_test place some)

after_zero : (first : Option ℕ) (due : Tail) → due.place ≡ 0 → first_after first due ≡ Some due.number
after_zero first due e = ap (λ (b : Bool). if b then Some due.number else first) (zero_test due.place e)

after_some : (first : Option ℕ) (due : Tail) → 0 < due.place → first_after first due ≡ first
after_some first due some = ap (λ (b : Bool). if b then Some due.number else first) (some_test due.place some)

-- ---- a turn goes on

-- behind the start the next place is nearer to the end, or the start
nearer : (n : Numbers) (place len : ℕ) → 0 < place → 1 ≤ len → place + len ≤ n.area → to_end n (next_place n (place + len)) < to_end n place
nearer n place len some long within =
    let here = end_some n place some in
    elim (next_cases n (place + len)) [
      | inl on ↦ let there = end_some n (next_place n (place + len)) (omega (arith, on.0)) in omega (arith, here, there, on.0)
      | inr over ↦ let there = end_zero n (next_place n (place + len)) over.0 in omega (arith, here, there)
    ]

-- and never farther than the whole area
not_farther : (n : Numbers) (place : ℕ) → to_end n place ≤ 1 + n.area
not_farther n place =
    elim (cases_eq place 0) [
      | inl start ↦ omega (arith, end_zero n place start)
      | inr other ↦ omega (arith, end_some n place (omega arith))
    ]

pub goes_on : (n : Numbers) (due : Tail) (len : ℕ) (first : Option ℕ) → 1 ≤ len → due.place + len ≤ n.area → IfSome first (λ number. 0 < due.place) → to_go n (first_after first due) (next_place n (due.place + len)) < to_go n first due.place
goes_on n due len (Some number) long within once =
    rw (after_some (Some number) due once) (nearer n due.place len once long within)
goes_on n due len None long within once =
    elim (cases_eq due.place 0) [
      | inl start ↦ rw (after_zero None due start) (omega (arith, not_farther n (next_place n (due.place + len))))
      | inr other ↦ rw (after_some None due (omega arith)) (omega (arith, nearer n due.place len (omega arith) long within))
    ]

-- what was seen at the start, after the record that is due
pub seen_more : (n : Numbers) (core : ℕ) (old : DiskView) (due next : Tail) (first : Option ℕ) (r : Record) → next.number ≡ due.number + 1 → IfSome first (WasSeen n core old due) → IfSome old.bytes (λ image. HasRecordAt n core image due r)
    → IfSome (first_after first due) (WasSeen n core old next)
seen_more n core old due next first r on seen stood =
    elim (cases_eq due.place 0) [
      | inl start ↦
          let now : WasSeen n core old next due.number = (omega (arith, on), told old.bytes start stood) in
          rw (after_zero first due start) now
      | inr other ↦ rw (after_some first due (omega arith)) (later first seen)
    ]
  where
    at_start : (image : List ℕ) → due.place ≡ 0 → HasRecordAt n core image due r → WasRead n core due.number image
    at_start image start stood =
        let there : due ≡ record { place = 0; number = due.number } = ap (λ (p : ℕ). let t : Tail = record { place = p; number = due.number } in t) start in
        record { first = r; stood = subst (λ (t : Tail). HasRecordAt n core image t r) there stood }

    told : (o : Option (List ℕ)) → due.place ≡ 0 → IfSome o (λ image. HasRecordAt n core image due r) → IfSome o (WasRead n core due.number)
    told None start stood = tt
    told (Some image) start stood = at_start image start stood

    later : (o : Option ℕ) → IfSome o (WasSeen n core old due) → IfSome o (WasSeen n core old next)
    later None seen = tt
    later (Some number) seen = (omega (arith, on, seen.0), seen.1)

-- one turn more
pub turn : (n : Numbers) (core : ℕ) (old now new : DiskView) (tail due : Tail) (found : List Record) (first : Option ℕ) (r : Record) → SoFar n core old now tail due found first
    → OnlyReads now new → IsDisk new → now.calls < 2 ^ 63 → now.calls + 1 ≤ new.calls → new.calls ≤ now.calls + 2 → IfSome now.bytes (λ image. HasRecordAt n core image due r) → IsPlace n (next_place n (due.place + len_of r))
    → SoFar n core old new tail (behind n due r) (found ++ r ∷ []) (first_after first due)
turn n core old now new tail due found first r so_far reads is early counted most stood place =
    let there : IfSome old.bytes (λ image. HasRecordAt n core image due r) = subst (λ (o : Option (List ℕ)). IfSome o (λ image. HasRecordAt n core image due r)) so_far.left.bytes stood in
    let push = length_push found r in
    record {
      left = reads_trans old now new so_far.left reads;
      is_disk = is;
      stand = if_both old.bytes old.bytes refl (λ image stand here. stand_more n core image found tail due r stand here) so_far.stand there;
      place = place;
      many = omega (arith, so_far.many, push);
      few = omega (arith, so_far.few, push, counted);
      begins = so_far.begins;
      early = omega (arith, so_far.few, so_far.many, so_far.begins, early);
      calls = omega (arith, so_far.calls, push, most);
      seen = seen_more n core old due (behind n due r) first r refl so_far.seen there;
      none = λ empty. absurd (omega (arith, push, empty));
    }
