-- The law of recovery.
use Rattle.std.proofs.Common.{◌≡◌, ◌⊎◌, inl, inr, ℕ, suc, ◌+◌, ◌-◌, ◌<◌, ◌≤◌, Bool, true, false, cond, ltb, ltb-true, ltb-false, lt-ltb, le-ltb, List, [], ◌∷◌, length, get_or, Option, Some, None, refl, sym, ap, ◌∙◌, subst, arith}
use Rattle.std.specs.Prelude.{slice_get, filter, Contains}
use Rattle.std.specs.List.{range_with_len}
use Rattle.std.specs.Option.{option_map, unwrap_or}
use Rattle.std.proofs.lemmas.Bool.{cases_lt}
use Rattle.std.proofs.lemmas.Option.{same_Some, slice_get-get_or, slice_get-map, slice_get_within, get_or_from_slice_get}
use Rattle.std.proofs.lemmas.List.{get_or_past}
use Rattle.std.proofs.lemmas.List.FromFn.{get_or-range_with_len, length-range_with_len, length-map-range_with_len}
use Rattle.zj_block.specs.declared.numbers.Writer.{Writer}
use Rattle.zj_history.specs.Operation.{Operation, Write, transaction_of, write_of}
use Rattle.zj_history.specs.State.{BlockState, after, last_write}
use Rattle.zj_history.specs.Transactions.{Bounds, is_of, operations_of}
use Rattle.zj_history.specs.Cut.{is_within, cut}
use Rattle.zj_history.specs.Laws.{IsNewestWrite}
use Rattle.zj_history.proofs.Members.{in_filter, of_filter, in_flat_map, of_flat_map}
use Rattle.zj_history.proofs.Writes.{stands, get-after, length-after, last_write-chosen, Rises, newest_of_last, last_of_newest, unwritten_of_none, write_of-tells}
use Rattle.zj_history.proofs.Numbers.{is_of-itself, is_of-parts}
use Rattle.zj_history.proofs.Cuts.{OwnWrites, own_of_consistent, rises-filter, rises_of_legal, earlier_within}
use Rattle.zj_tx.specs.Record.{Record}
use Rattle.zj_tx.specs.Frozen.{Image, image_in, image_of, IsFrozen}
use Rattle.zj_closure.specs.Found.{Journals, records_of, IsFoundAs}
use Rattle.zj_closure.specs.Kept.{AreKept}
use Rattle.zj_closure.specs.Recovered.{records_below, kept_records, newest_image, recovered, recovered_content}
use Rattle.zj_closure.specs.Laws.{AreJournalsOf, HoldsTails, Recovers, RecoversCut, HomeMayTear, NothingIsKept}
use Rattle.zj_closure.proofs.Keeping.{AreInOrder, keeps_closed, kept_is_closed, found_between, consistent_of_closed, closed_of_consistent}
use Rattle.zj_closure.proofs.ImageLemmas.{IsNewest, newest_is, none_in}

-- ---- lists

pub same_lists : {X : Type 0} (xs ys : List X) → length xs ≡ length ys → ((i : ℕ) → i < length xs → slice_get xs i ≡ slice_get ys i) → xs ≡ ys
same_lists [] [] e each = refl
same_lists [] (y ∷ ys) e each = absurd (omega (arith, e))
same_lists (x ∷ xs) [] e each = absurd (omega (arith, e))
same_lists (x ∷ xs) (y ∷ ys) e each =
    let first : Some x ≡ Some y = each 0 (omega arith) in
    let head : x ≡ y = cc in
    let tail = same_lists xs ys (omega (arith, e)) (λ i lt. each (suc i) (omega arith)) in
    λ i. head i ∷ tail i

slice_get_member : {X : Type 0} (xs : List X) (i : ℕ) (x : X) → slice_get xs i ≡ Some x → Contains xs x
slice_get_member xs i x e = (i, slice_get_within xs i x e, get_or_from_slice_get xs i x x e)

from_zero : (i : ℕ) → 0 + i ≡ i
from_zero i = omega arith

member_range : (n i : ℕ) → i < n → Contains (range_with_len 0 n) i
member_range n i lt = (i, omega (arith, length-range_with_len 0 n), get_or-range_with_len 0 n i i lt ∙ from_zero i)

-- ---- kept records

module _ (tails : Bounds) (found : Journals) (kept : Bounds) (order : AreInOrder tails found) where
  -- a kept record is that of a transaction between the tail and the bound
  pub record IsKeptAs (r : Record) : Type 0 where
    pub of : Writer
    pub found_as : IsFoundAs tails found of r
    pub inside : of.number < kept of.core

  pub kept_as : (r : Record) → Contains (kept_records found kept) r → IsKeptAs r
  kept_as r c =
      let from = of_flat_map (λ core. records_below (kept core) (records_of found core)) (range_with_len 0 (length found)) r c in
      let at = of_filter (λ q. ltb q.number (kept from.0)) (records_of found from.0) r from.2 in
      let place : (tails from.0 + at.0.0) - tails from.0 ≡ at.0.0 = omega arith in
      let t : Writer = record { core = from.0; number = tails from.0 + at.0.0 } in
      let found_as : IsFoundAs tails found t r = record {
        from_tail = omega arith;
        at = ap (slice_get (records_of found from.0)) place ∙ slice_get-get_or (records_of found from.0) at.0.0 r at.0.1 ∙ ap (λ x. Some x) at.0.2;
      } in
      record { of = t; found_as = found_as; inside = subst (λ n. n < kept from.0) (order.number t r found_as) (ltb-true r.number (kept from.0) at.1) }

  pub is_kept : (t : Writer) (r : Record) → IsFoundAs tails found t r → t.number < kept t.core → Contains (kept_records found kept) r
  is_kept t r f inside =
      let number : r.number ≡ t.number = order.number t r f in
      let below : ltb r.number (kept t.core) ≡ true = lt-ltb r.number (kept t.core) (omega (arith, number, inside)) in
      let member = in_filter (λ q. ltb q.number (kept t.core)) (records_of found t.core) r (slice_get_member (records_of found t.core) (t.number - tails t.core) r f.at) below in
      in_flat_map (λ core. records_below (kept core) (records_of found core)) (range_with_len 0 (length found)) t.core r (member_range (length found) t.core (by (cases_lt t.core (length found)))) member
    where
      none : length found ≤ t.core → records_of found t.core ≡ []
      none past = get_or_past found t.core [] past

      by : (t.core < length found) ⊎ (length found ≤ t.core) → t.core < length found
      by (inl lt) = lt
      by (inr past) = absurd (let no : None ≡ Some r = ap (λ (rs : List Record). slice_get rs (t.number - tails t.core)) (sym (none past)) ∙ f.at in cc)

-- ---- the state

module _ (start : BlockState) (first : Bounds) (history : List Operation) (tails : Bounds) (found : Journals) (home : BlockState) (kept : Bounds) (j : AreJournalsOf start first history tails found) (k : AreKept tails found kept) (h : HoldsTails start history tails (kept_records found kept) home) where
  in_order : AreInOrder tails found
  in_order = record { number = λ t r at. (j.frozen t r at).number }

  own : OwnWrites history tails
  own = own_of_consistent start first history tails j.legal j.numbered j.tails_are_cut

  rises : Rises history
  rises = rises_of_legal start history j.legal

  -- an operation of the kept cut is below the tails, or its transaction's record is kept
  pub record HasRecord (o : Operation) : Type 0 where
    pub at : Record
    pub member : Contains (kept_records found kept) at
    pub is : IsFrozen history (transaction_of o) at

  has_record : (o : Operation) → is_within kept o ≡ true → is_within tails o ≡ false → HasRecord o
  has_record o inside above =
      let least = ltb-false o.number (tails o.core) above in
      let most = ltb-true o.number (kept o.core) inside in
      let up = k.within_found o.core in
      let f = found_between tails found (transaction_of o) least (omega (arith, most, up)) in
      record { at = f.0; member = is_kept tails found kept in_order (transaction_of o) f.0 f.1 most; is = j.frozen (transaction_of o) f.0 f.1 }

  -- what such an operation wrote is no newer than the record's image
  image_of_written : (o : Operation) (block : ℕ) (w : Write) → Contains history o → write_of block o ≡ Some w → (r : HasRecord o) → (y : Image) × (image_in r.at.parts block ≡ Some y) × (w.ticket < y.stamp)
  image_of_written o block w c wrote r = by (last_write (operations_of history (transaction_of o)) block) refl
    where
      member : Contains (operations_of history (transaction_of o)) o
      member = in_filter (is_of (transaction_of o)) history o c (is_of-itself o)

      by : (v : Option Write) → last_write (operations_of history (transaction_of o)) block ≡ v → (y : Image) × (image_in r.at.parts block ≡ Some y) × (w.ticket < y.stamp)
      by None none = absurd (let no : None ≡ Some w = sym (unwritten_of_none block (operations_of history (transaction_of o)) none o member) ∙ wrote in cc)
      by (Some v) some =
          let last = newest_of_last block (operations_of history (transaction_of o)) (rises-filter (is_of (transaction_of o)) history rises) v some in
          let le = last.newest o w member wrote in
          (image_of v, r.is.images block ∙ ap (option_map image_of) some, omega (arith, le))

  -- the cut by the tails, of the kept cut
  cut_of_cut : (o : Operation) → is_within tails o ≡ true → is_within kept o ≡ true
  cut_of_cut o below = let lt = ltb-true o.number (tails o.core) below in let up = k.above_tails o.core in lt-ltb o.number (kept o.core) (omega (arith, lt, up))

  -- where no kept record has a block, the kept cut's last write of it is below the tails
  unrecorded : (block : ℕ) → newest_image (kept_records found kept) block ≡ None → last_write (cut history tails) block ≡ last_write (cut history kept) block
  unrecorded block none = ap (λ l. last_write l block) (sym (filter_filter history)) ∙ last_write-chosen (λ t. ltb t.number (tails t.core)) block (cut history kept) below
    where
      filter_filter : (l : List Operation) → filter (is_within tails) (filter (is_within kept) l) ≡ filter (is_within tails) l
      filter_filter [] = refl
      filter_filter (o ∷ l) = by (filter_filter l) (is_within kept o) refl (is_within tails o) refl
        where
          by : filter (is_within tails) (filter (is_within kept) l) ≡ filter (is_within tails) l → (a : Bool) → is_within kept o ≡ a → (b : Bool) → is_within tails o ≡ b → filter (is_within tails) (filter (is_within kept) (o ∷ l)) ≡ filter (is_within tails) (o ∷ l)
          by rest true in_kept b is = ap (λ c. filter (is_within tails) (cond c (o ∷ filter (is_within kept) l) (filter (is_within kept) l))) in_kept ∙ ap (λ (m : List Operation). cond (is_within tails o) (o ∷ m) m) rest
          by rest false out b is = ap (λ c. filter (is_within tails) (cond c (o ∷ filter (is_within kept) l) (filter (is_within kept) l))) out ∙ rest ∙ sym (ap (λ c. cond c (o ∷ filter (is_within tails) l) (filter (is_within tails) l)) (low b is))
            where
              low : (b : Bool) → is_within tails o ≡ b → is_within tails o ≡ false
              low true is = absurd (let no : false ≡ true = sym out ∙ cut_of_cut o is in cc)
              low false is = is

      below : (w : Write) → last_write (cut history kept) block ≡ Some w → ltb w.writer.number (tails w.writer.core) ≡ true
      below w e = at (is_within tails last.written.0) refl
        where
          last : IsNewestWrite (cut history kept) block w
          last = newest_of_last block (cut history kept) (rises-filter (is_within kept) history rises) w e

          member : Contains history last.written.0 × (is_within kept last.written.0 ≡ true)
          member = of_filter (is_within kept) history last.written.0 last.written.1

          at : (b : Bool) → is_within tails last.written.0 ≡ b → ltb w.writer.number (tails w.writer.core) ≡ true
          at true is = ap (λ (t : Writer). ltb t.number (tails t.core)) (write_of-tells block last.written.0 w last.written.2).writer ∙ is
          at false is =
              let r = has_record last.written.0 member.1 is in
              let y = image_of_written last.written.0 block w member.0 last.written.2 r in
              absurd (let no : None ≡ Some y.0 = sym (none_in block (kept_records found kept) none r.at r.member) ∙ y.1 in cc)

  -- where a kept record has a block, its newest image is of the kept cut's last write
  recorded : (block : ℕ) (x : Image) → newest_image (kept_records found kept) block ≡ Some x → option_map image_of (last_write (cut history kept) block) ≡ Some x
  recorded block x e = by (last_write (operations_of history t) block) refl
    where
      newest : IsNewest (kept_records found kept) block x
      newest = newest_is block (kept_records found kept) x e

      as_kept : IsKeptAs tails found kept in_order newest.of
      as_kept = kept_as tails found kept in_order newest.of newest.member

      t : Writer
      t = as_kept.of

      frozen : IsFrozen history t newest.of
      frozen = j.frozen t newest.of as_kept.found_as

      by : (v : Option Write) → last_write (operations_of history t) block ≡ v → option_map image_of (last_write (cut history kept) block) ≡ Some x
      by None none = absurd (let no : None ≡ Some x = sym (ap (option_map image_of) none) ∙ sym (frozen.images block) ∙ newest.is in cc)
      by (Some w) some = ap (option_map image_of) (last_of_newest block (cut history kept) (rises-filter (is_within kept) history rises) w is_newest) ∙ image
        where
          image : Some (image_of w) ≡ Some x
          image = sym (ap (option_map image_of) some) ∙ sym (frozen.images block) ∙ newest.is

          stamp : w.ticket + 1 ≡ x.stamp
          stamp = ap (λ (y : Image). y.stamp) (same_Some (image_of w) x image)

          last : IsNewestWrite (operations_of history t) block w
          last = newest_of_last block (operations_of history t) (rises-filter (is_of t) history rises) w some

          o : Operation
          o = last.written.0

          member : Contains history o × (is_of t o ≡ true)
          member = of_filter (is_of t) history o last.written.1

          parts : (o.core ≡ t.core) × (o.number ≡ t.number)
          parts = is_of-parts t o member.1

          inside : is_within kept o ≡ true
          inside = lt-ltb o.number (kept o.core) (subst (λ n. n < kept o.core) (sym parts.1) (subst (λ c. t.number < kept c) (sym parts.0) as_kept.inside))

          above : is_within tails o ≡ false
          above = le-ltb o.number (tails o.core) (subst (λ n. tails o.core ≤ n) (sym parts.1) (subst (λ c. tails c ≤ t.number) (sym parts.0) as_kept.found_as.from_tail))

          no_newer : (p : Operation) (v : Write) → Contains (cut history kept) p → write_of block p ≡ Some v → v.ticket ≤ w.ticket
          no_newer p v c wrote = at (is_within tails p) refl
            where
              in_history : Contains history p × (is_within kept p ≡ true)
              in_history = of_filter (is_within kept) history p c

              at : (b : Bool) → is_within tails p ≡ b → v.ticket ≤ w.ticket
              at true low = order (cases_lt w.ticket v.ticket)
                where
                  order : (w.ticket < v.ticket) ⊎ (v.ticket ≤ w.ticket) → v.ticket ≤ w.ticket
                  order (inr le) = le
                  order (inl lt) =
                      let tw = (write_of-tells block o w last.written.2).ticket in
                      let tv = (write_of-tells block p v wrote).ticket in
                      let less : o.ticket < p.ticket = omega (arith, lt, tw, tv) in
                      absurd (let no : false ≡ true = sym above ∙ earlier_within start tails history j.legal own block o p w v member.0 in_history.0 last.written.2 wrote low less in cc)
              at false high =
                  let r = has_record p in_history.1 high in
                  let y = image_of_written p block v in_history.0 wrote r in
                  let lt = y.2 in
                  let le = newest.newest r.at y.0 r.member y.1 in
                  omega (arith, lt, le, stamp)

          is_newest : IsNewestWrite (cut history kept) block w
          is_newest = record {
            written = (o, in_filter (is_within kept) history o member.0 inside, last.written.2);
            newest = no_newer;
          }

  -- block by block
  same_block : (block : ℕ) → block < length home → slice_get (recovered (kept_records found kept) home) block ≡ slice_get (after start (cut history kept)) block
  same_block block lt = at (newest_image (kept_records found kept) block) refl
    where
      within : block < length start
      within = let e = h.many in omega (arith, lt, e)

      left : slice_get (recovered (kept_records found kept) home) block ≡ Some (recovered_content (kept_records found kept) home block)
      left = slice_get-map (recovered_content (kept_records found kept) home) (range_with_len 0 (length home)) block
          ∙ ap (option_map (recovered_content (kept_records found kept) home)) (slice_get-get_or (range_with_len 0 (length home)) block block (omega (arith, lt, length-range_with_len 0 (length home))) ∙ ap (λ b. Some b) (get_or-range_with_len 0 (length home) block block lt ∙ from_zero block))

      right : slice_get (after start (cut history kept)) block ≡ stands start block (last_write (cut history kept) block)
      right = get-after start (cut history kept) block within

      at : (x : Option Image) → newest_image (kept_records found kept) block ≡ x → slice_get (recovered (kept_records found kept) home) block ≡ slice_get (after start (cut history kept)) block
      at None none =
          left ∙ ap (λ x. Some (unwrap_or (option_map (λ (y : Image). y.content) x) (get_or home block []))) none ∙ sym (slice_get-get_or home block [] lt)
          ∙ h.blocks block (none_in block (kept_records found kept) none)
          ∙ get-after start (cut history tails) block within ∙ ap (stands start block) (unrecorded block none) ∙ sym right
      at (Some x) some = left ∙ ap (λ y. Some (unwrap_or (option_map (λ (z : Image). z.content) y) (get_or home block []))) some ∙ by (last_write (cut history kept) block) refl
        where
          by : (w : Option Write) → last_write (cut history kept) block ≡ w → Some x.content ≡ slice_get (after start (cut history kept)) block
          by None is = absurd (let no : None ≡ Some x = sym (ap (option_map image_of) is) ∙ recorded block x some in cc)
          by (Some w) is =
              let image : Some (image_of w) ≡ Some x = sym (ap (option_map image_of) is) ∙ recorded block x some in
              ap (λ (y : Image). Some y.content) (sym (same_Some (image_of w) x image)) ∙ sym (right ∙ ap (stands start block) is)

  pub recovers : Recovers start history tails found home kept
  recovers = record {
    consistent = consistent_of_closed history tails found kept j.tails_are_cut j.frozen k.above_tails k.within_found (kept_is_closed tails found kept k);
    greatest = λ bounds consistent within core. keeps_closed tails found kept bounds k within (closed_of_consistent history tails found bounds j.frozen consistent) core;
    state = same_lists (recovered (kept_records found kept) home) (after start (cut history kept)) (length-map-range_with_len (recovered_content (kept_records found kept) home) 0 (length home) ∙ h.many ∙ sym (length-after start (cut history kept)))
        (λ block lt. same_block block (let e = length-map-range_with_len (recovered_content (kept_records found kept) home) 0 (length home) in omega (arith, e, lt)));
  }

pub recovers_cut : RecoversCut
recovers_cut = recovers

pub home_may_tear : HomeMayTear
home_may_tear start history tails kept home torn h many same = record {
  many = many ∙ h.many;
  blocks = λ block none. same block none ∙ h.blocks block none;
}

pub nothing_is_kept : NothingIsKept
nothing_is_kept home = same_lists (recovered [] home) home (length-map-range_with_len (recovered_content [] home) 0 (length home))
    (λ block lt. let within : block < length home = omega (arith, lt, length-map-range_with_len (recovered_content [] home) 0 (length home)) in
    slice_get-map (recovered_content [] home) (range_with_len 0 (length home)) block
    ∙ ap (option_map (recovered_content [] home)) (slice_get-get_or (range_with_len 0 (length home)) block block (omega (arith, within, length-range_with_len 0 (length home))) ∙ ap (λ b. Some b) (get_or-range_with_len 0 (length home) block block within ∙ from_zero block))
    ∙ sym (slice_get-get_or home block [] within))
