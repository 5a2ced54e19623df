-- Where the next record goes, no record is in the way.
use Rattle.std.proofs.Common.{◌≡◌, ℕ, ◌+◌, ◌-◌, ◌*◌, ◌<◌, ◌≤◌, ◌==◌, List, [], ◌∷◌, ◌++◌, length, sym, ap, subst, ◌∙◌, arith, inl, inr, ◌⊎◌}
use Rattle.std.specs.Prelude.{Bool, true, false, Some, None, nat_lt, if◌then◌else◌}
use Rattle.std.proofs.lemmas.Bool.{cases_eq, cases_lt}
use Rattle.std.proofs.lemmas.Bool.Decides.{nat_tests}
use Rattle.std.proofs.lemmas.Grind.{common_steps}
use Rattle.zj_block.specs.Sizes.{Numbers, max_record}
use Rattle.zj_block.specs.declared.numbers.Tail.{Tail}
use Rattle.zj_tx.specs.Record.{Record}
use Rattle.zj_area.specs.Ring.{IsLive, AllLive, HasRecords, behind, len_of, next_place}
use Rattle.zj_area.specs.Journal.{fullness, lacking}
use Rattle.zj_area.specs.declared.area.Full.{Full}
use Rattle.zj_area.proofs.Outside.{Clear}
use Rattle.zj_area.proofs.Turns.{next_cases}

-- a longest record has room in front of the tail
pub record HasRoom (n : Numbers) (tail end : ℕ) : Type 0 where
  pub behind_tail : tail < end → tail ≡ 0 → 2 * max_record n ≤ n.area - end
  pub before_tail : end < tail → max_record n + 1 ≤ tail - end

-- a record goes to the end: it has so many bytes, no more than the longest, and the next one goes there
pub record Goes (n : Numbers) (tail end len next : ℕ) : Type 0 where
  pub some : 1 ≤ len
  pub most : len ≤ max_record n
  pub twice : 2 * max_record n ≤ n.area
  pub tail_place : tail + max_record n ≤ n.area
  pub end_place : end + max_record n ≤ n.area
  pub next_is : ((next ≡ end + len) × (end + len + max_record n ≤ n.area)) ⊎ ((next ≡ 0) × (n.area < end + len + max_record n))
  pub room : HasRoom n tail end

-- what lies between tail and end is outside the bytes of that record
outside_record : (n : Numbers) (tail end len next from to : ℕ) → Goes n tail end len next → IsLive tail end from to → (to ≤ end) ⊎ (end + len ≤ from)
outside_record n tail end len next from to goes (inl on) = inl on.2
outside_record n tail end len next from to goes (inr (over, inr before)) = inl before
outside_record n tail end len next from to goes (inr (over, inl after)) = let room = goes.room.before_tail over in inr (omega (arith, goes.most))

-- and outside the gate of the next
outside_next : (n : Numbers) (tail end len next from to : ℕ) → Goes n tail end len next → IsLive tail end from to → (to ≤ next) ⊎ (next + 1 ≤ from)
outside_next n tail end len next from to goes between =
    elim goes.next_is [
      | inl on ↦ after on between
      | inr over ↦ start over between
    ]
  where
    after : (next ≡ end + len) × (end + len + max_record n ≤ n.area) → IsLive tail end from to → (to ≤ next) ⊎ (next + 1 ≤ from)
    after on (inl at) = inl (omega (arith, on.0, at.2))
    after on (inr (turned, inr before)) = inl (omega (arith, on.0))
    after on (inr (turned, inl behind)) = let room = goes.room.before_tail turned in inr (omega (arith, goes.most, on.0))

    start : (next ≡ 0) × (n.area < end + len + max_record n) → IsLive tail end from to → (to ≤ next) ⊎ (next + 1 ≤ from)
    start over (inr (turned, side)) = let room = goes.room.before_tail turned in absurd (omega (arith, goes.most, goes.tail_place, over.1))
    start over (inl at) =
        elim (cases_eq tail 0) [
          | inl zero ↦ let room = goes.room.behind_tail at.0 zero in absurd (omega (arith, goes.most, over.1, room, goes.end_place))
          | inr some ↦ inr (omega (arith, over.0, at.1))
        ]

-- and between the tail and the next end
between_more : (n : Numbers) (tail end len next from to : ℕ) → Goes n tail end len next → IsLive tail end from to → IsLive tail next from to
between_more n tail end len next from to goes between =
    elim goes.next_is [
      | inl on ↦ after on between
      | inr over ↦ start over between
    ]
  where
    after : (next ≡ end + len) × (end + len + max_record n ≤ n.area) → IsLive tail end from to → IsLive tail next from to
    after on (inl at) = inl (omega (arith, on.0, at.0), at.1, omega (arith, on.0, at.2))
    after on (inr (turned, inl behind)) = let room = goes.room.before_tail turned in inr (omega (arith, goes.most, on.0), inl behind)
    after on (inr (turned, inr before)) = let room = goes.room.before_tail turned in inr (omega (arith, goes.most, on.0), inr (omega (arith, on.0)))

    start : (next ≡ 0) × (n.area < end + len + max_record n) → IsLive tail end from to → IsLive tail next from to
    start over (inr (turned, side)) = let room = goes.room.before_tail turned in absurd (omega (arith, goes.most, goes.tail_place, over.1))
    start over (inl at) =
        elim (cases_eq tail 0) [
          | inl zero ↦ let room = goes.room.behind_tail at.0 zero in absurd (omega (arith, goes.most, over.1, room, goes.end_place))
          | inr some ↦ inr (omega (arith, over.0), inl at.1)
        ]

-- the new record lies between them too
new_between : (n : Numbers) (tail end len next : ℕ) → Goes n tail end len next → IsLive tail next end (end + len)
new_between n tail end len next goes =
    elim goes.next_is [
      | inl on ↦
          elim (cases_lt end tail) [
            | inl turned ↦ let room = goes.room.before_tail turned in inr (omega (arith, goes.most, on.0), inr (omega (arith, on.0)))
            | inr ahead ↦ inl (omega (arith, on.0, goes.some), ahead, omega (arith, on.0))
          ]
      | inr over ↦
          elim (cases_lt end tail) [
            | inl turned ↦ let room = goes.room.before_tail turned in absurd (omega (arith, goes.most, goes.tail_place, over.1))
            | inr ahead ↦ inr (some_tail over ahead, inl ahead)
          ]
    ]
  where
    some_tail : (next ≡ 0) × (n.area < end + len + max_record n) → tail ≤ end → next < tail
    some_tail over ahead =
        elim (cases_eq tail 0) [
          | inr some ↦ omega (arith, over.0)
          | inl zero ↦
              elim (cases_eq end 0) [
                | inl first ↦ absurd (omega (arith, goes.most, goes.twice, over.1))
                | inr later ↦ let room = goes.room.behind_tail (omega arith) zero in absurd (omega (arith, goes.most, over.1, room, goes.end_place))
              ]
        ]

-- the next gate isn't the one of the record
pub next_apart : (n : Numbers) (tail end len next : ℕ) → Goes n tail end len next → (next ≡ 0 → 0 < end) × (0 < next → next ≡ end + len)
next_apart n tail end len next goes =
    elim goes.next_is [
      | inl on ↦ (λ e. absurd (omega (arith, on.0, goes.some)), λ some. on.0)
      | inr over ↦ (λ e. elim (cases_eq end 0) [ inl zero ↦ absurd (omega (arith, goes.most, goes.twice, over.1)) | inr some ↦ omega arith ], λ some. absurd (omega (arith, over.0)))
    ]

-- ---- of all records

pub clear_record : (n : Numbers) (tail end len next : ℕ) (at : Tail) (records : List Record) → Goes n tail end len next → AllLive n tail end at records → Clear n (end + 1) (len - 1) at records
clear_record n tail end len next at [] goes lie = tt
clear_record n tail end len next at (r ∷ rs) goes lie = (
  elim (outside_record n tail end len next at.place (at.place + len_of r) goes lie.0) [ inl before ↦ inl (omega arith) | inr behind ↦ inr (omega (arith, goes.some)) ],
  clear_record n tail end len next (behind n at r) rs goes lie.1,
)

pub clear_next : (n : Numbers) (tail end len next : ℕ) (at : Tail) (records : List Record) → Goes n tail end len next → AllLive n tail end at records → Clear n next 1 at records
clear_next n tail end len next at [] goes lie = tt
clear_next n tail end len next at (r ∷ rs) goes lie = (outside_next n tail end len next at.place (at.place + len_of r) goes lie.0, clear_next n tail end len next (behind n at r) rs goes lie.1)

pub lie_more : (n : Numbers) (tail end len next : ℕ) (at : Tail) (records : List Record) → Goes n tail end len next → AllLive n tail end at records → AllLive n tail next at records
lie_more n tail end len next at [] goes lie = tt
lie_more n tail end len next at (r ∷ rs) goes lie = (between_more n tail end len next at.place (at.place + len_of r) goes lie.0, lie_more n tail end len next (behind n at r) rs goes lie.1)

-- the gate at the end lies outside all records
pub clear_gate : (n : Numbers) (tail end : ℕ) (at : Tail) (records : List Record) → AllLive n tail end at records → Clear n end 1 at records
clear_gate n tail end at [] lie = tt
clear_gate n tail end at (r ∷ rs) lie = (apart lie.0, clear_gate n tail end (behind n at r) rs lie.1)
  where
    apart : IsLive tail end at.place (at.place + len_of r) → (at.place + len_of r ≤ end) ⊎ (end + 1 ≤ at.place)
    apart (inl on) = inl on.2
    apart (inr (turned, inr before)) = inl before
    apart (inr (turned, inl after)) = inr (omega arith)

-- with the record at the end
pub lie_push : (n : Numbers) (core : ℕ) (image : List ℕ) (tail next : ℕ) (records : List Record) (at end : Tail) (r : Record) → HasRecords n core image at records end → AllLive n tail next at records → IsLive tail next end.place (end.place + len_of r) → AllLive n tail next at (records ++ r ∷ [])
lie_push n core image tail next [] at end r stand lie here =
    (subst (λ (t : Tail). IsLive tail next t.place (t.place + len_of r)) (sym stand) here, tt)
lie_push n core image tail next (first ∷ rs) at end r stand lie here = (lie.0, lie_push n core image tail next rs (behind n at first) end r stand.1 lie.1 here)

pub lie_new : (n : Numbers) (core : ℕ) (image : List ℕ) (tail next : ℕ) (records : List Record) (at end : Tail) (r : Record) → Goes n tail end.place (len_of r) next → HasRecords n core image at records end → AllLive n tail end.place at records → AllLive n tail next at (records ++ r ∷ [])
lie_new n core image tail next records at end r goes stand lie =
    lie_push n core image tail next records at end r stand (lie_more n tail end.place (len_of r) next at records goes lie) (new_between n tail end.place (len_of r) next goes)

-- ---- what the table of room says

numbers : (n : Numbers) (core : ℕ) (image : List ℕ) (records : List Record) (tail end : Tail) → HasRecords n core image tail records end → end.number ≡ tail.number + length records
numbers n core image [] tail end stand = let e : end.number ≡ tail.number = ap (λ (t : Tail). t.number) (sym stand) in omega (arith, e)
numbers n core image (r ∷ rs) tail end stand = let rest = numbers n core image rs (behind n tail r) end stand.1 in omega (arith, rest)

enough : (need free : ℕ) → lacking need free ≡ None → need ≤ free
enough need free none =
    elim (cases_lt free need) [
      | inr le ↦ le
      | inl lt ↦ let test : nat_lt free need ≡ true = grind (arith, common_steps, nat_tests) in
          let full : Full = record { need = need; free = free } in
          let some : lacking need free ≡ Some full = ap (λ (b : Bool). if b then Some full else None) test in
          cc
    ]

pub has_room : (n : Numbers) (core : ℕ) (image : List ℕ) (records : List Record) (tail end : Tail) → HasRecords n core image tail records end → fullness n tail end ≡ None → HasRoom n tail.place end.place
has_room n core image [] tail end stand none =
    let same : tail.place ≡ end.place = ap (λ (t : Tail). t.place) stand in
    record { behind_tail = λ lt zero. absurd (omega arith); before_tail = λ lt. absurd (omega arith) }
has_room n core image (r ∷ rs) tail end stand none =
    let count = numbers n core image (r ∷ rs) tail end stand in
    let live : (end.number == tail.number) ≡ false = grind (arith, common_steps, nat_tests) in
    let rest : (if nat_lt tail.place end.place then (if tail.place == 0 then lacking (2 * max_record n) (n.area - end.place) else None) else lacking (max_record n + 1) (tail.place - end.place)) ≡ None =
    sym (ap (λ (b : Bool). if b then None else (if nat_lt tail.place end.place then (if tail.place == 0 then lacking (2 * max_record n) (n.area - end.place) else None) else lacking (max_record n + 1) (tail.place - end.place))) live) ∙ none in
    record {
      behind_tail = λ lt zero.
          let test : nat_lt tail.place end.place ≡ true = grind (arith, common_steps, nat_tests) in
          let start : (tail.place == 0) ≡ true = grind (arith, common_steps, nat_tests) in
          let lack : lacking (2 * max_record n) (n.area - end.place) ≡ None =
          sym (ap (λ (b : Bool). if b then (if tail.place == 0 then lacking (2 * max_record n) (n.area - end.place) else None) else lacking (max_record n + 1) (tail.place - end.place)) test
          ∙ ap (λ (b : Bool). if b then lacking (2 * max_record n) (n.area - end.place) else None) start) ∙ rest in
          enough (2 * max_record n) (n.area - end.place) lack;
      before_tail = λ lt.
          let test : nat_lt tail.place end.place ≡ false = grind (arith, common_steps, nat_tests) in
          let lack : lacking (max_record n + 1) (tail.place - end.place) ≡ None =
          sym (ap (λ (b : Bool). if b then (if tail.place == 0 then lacking (2 * max_record n) (n.area - end.place) else None) else lacking (max_record n + 1) (tail.place - end.place)) test) ∙ rest in
          enough (max_record n + 1) (tail.place - end.place) lack;
    }

-- where a record goes
pub goes_to : (n : Numbers) (tail end len next : ℕ) (r : Record) → len_of r ≡ len → next ≡ next_place n (end + len_of r) → 1 ≤ len_of r → len_of r ≤ max_record n → 2 * max_record n ≤ n.area → tail + max_record n ≤ n.area → end + max_record n ≤ n.area → HasRoom n tail end
    → Goes n tail end len next
goes_to n tail end len next r many here some most twice tail_place end_place room = record {
  some = omega (arith, some, many);
  most = omega (arith, most, many);
  twice = twice;
  tail_place = tail_place;
  end_place = end_place;
  next_is = rw (here, ← many) (next_cases n (end + len_of r));
  room = room;
}
