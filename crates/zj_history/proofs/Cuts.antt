-- A consistent cut is a history.
use Rattle.std.proofs.Common.{◌≡◌, ◌⊎◌, inl, inr, ℕ, ◌<◌, ◌≤◌, Bool, true, false, List, [], ◌∷◌, ◌++◌, length, cond, ltb, ltb-true, lt-ltb, le-ltb, Option, Some, None, refl, sym, ap, ◌∙◌, subst, ap₂, map, arith, append_assoc, append-nil}
use Rattle.std.specs.Prelude.{filter, slice_get, Contains, is_some}
use Rattle.std.specs.List.{All, Any}
use Rattle.std.specs.FinMap as map_of
use Rattle.std.specs.Option.{option_map}
use Rattle.std.proofs.lemmas.Bool.{cases_eq}
use Rattle.std.proofs.lemmas.Option.{same_Some, slice_get_within}
use Rattle.std.proofs.lemmas.List.Elements.{filter-append, All-contains, Contains-push, Contains-push_cases, Contains-append_left, Contains-append_right, Contains-append_cases}
use Rattle.zj_block.specs.declared.numbers.Writer.{Writer}
use Rattle.zj_history.specs.Operation.{FoundBlock, Operation, IsOperation, Write, transaction_of, write_of}
use Rattle.zj_history.specs.State.{BlockState, after, last_write, last_writer}
use Rattle.zj_history.specs.Legal.{IsFoundAfter, FindsAfter, IsNext, IsLegal, IsHistory}
use Rattle.zj_history.specs.Transactions.{Bounds, AreNumbered, is_of, operations_of, writers_found, writers_found_by, dependency_bound, bound_on}
use Rattle.zj_history.specs.Cut.{is_within, cut, IsConsistentCut, FindsOwnWrites}
use Rattle.zj_history.specs.Laws.{CutIsHistory, StateByBlocks, LastIsNewest, NoneIsUnwritten, StateOfCut, EarlierIsWithin, ConsistentByOperations, FrontIsConsistent, ClosedPartIsCut}
use Rattle.zj_history.proofs.Pushes.{by_push, each-nil, each-push}
use Rattle.zj_history.proofs.Members.{no_member, here, there, cons_cases, in_filter, of_filter, split_at, all_of, in_filter_map, of_filter_map, in_flat_map, of_flat_map}
use Rattle.zj_history.proofs.Writes.{stands, get-after, length-after, last_write-chosen, filter-push_true, filter-push_false, Rises, rises-nil, rises-push, rises-front, rises-last, newest_of_last, last_of_newest, none_of_unwritten, unwritten_of_none, write_of-tells, push_written, push_unwritten}
use Rattle.zj_history.proofs.Numbers.{legal_front, legal_last, numbered_front, ticketed, at_most_last, never_falls, is_of-itself, is_of-parts, below_bound, bound_within, own_bound, other_bound, IsReached, bound_reached}

-- ---- consistency by membership

-- what an operation of the cut found was last written in the cut
pub record OwnWrites (history : List Operation) (bounds : Bounds) : Type 0 where
  pub own : (o : Operation) → Contains history o → is_within bounds o ≡ true → (w : Writer) → Contains (writers_found o) w → w.number < bounds w.core

pub own_of_found : (history : List Operation) (bounds : Bounds) → FindsOwnWrites history bounds → OwnWrites history bounds
own_of_found history bounds f = record {
  own = λ o c within w d. All-contains (λ v. v.number < bounds v.core) (writers_found o) w
      (All-contains (λ p. All (λ v. v.number < bounds v.core) (writers_found p)) (cut history bounds) o f.found (in_filter (is_within bounds) history o c within)) d;
}

pub found_of_own : (history : List Operation) (bounds : Bounds) → OwnWrites history bounds → FindsOwnWrites history bounds
found_of_own history bounds f = record {
  found = all_of (λ p. All (λ v. v.number < bounds v.core) (writers_found p)) (cut history bounds)
      (λ o c. let d = of_filter (is_within bounds) history o c in all_of (λ v. v.number < bounds v.core) (writers_found o) (λ w e. f.own o d.0 d.1 w e));
}

pub consistent_of_own : (history : List Operation) (bounds : Bounds) → OwnWrites history bounds → IsConsistentCut history bounds
consistent_of_own history bounds f = record { closed = λ t core inside. by t core inside (cases_eq core t.core) }
  where
    each : (t : Writer) (core : ℕ) → t.number < bounds t.core → (w : Writer) → Contains (writers_found_by history t) w → w.core ≡ core → w.number < bounds core
    each t core inside w c e =
        let from = of_flat_map writers_found (operations_of history t) w c in
        let member = of_filter (is_of t) history from.0 from.1 in
        let parts = is_of-parts t from.0 member.1 in
        let within : is_within bounds from.0 ≡ true = lt-ltb _ _ (subst (λ n. n < bounds from.0.core) (sym parts.1) (subst (λ d. t.number < bounds d) (sym parts.0) inside)) in
        subst (λ d. w.number < bounds d) e (f.own from.0 member.0 within w from.2)

    by : (t : Writer) (core : ℕ) → t.number < bounds t.core → (core ≡ t.core) ⊎ (core ≡ t.core → ⊥) → dependency_bound history t core ≤ bounds core
    by t core inside (inl own) = let none = own_bound history t core own in omega (arith, none)
    by t core inside (inr other) =
        let value = other_bound history t core other in
        let most = bound_within core (bounds core) (writers_found_by history t) (each t core inside) in
        omega (arith, value, most)

-- the transaction that last wrote a block is one of the history
pub written_by : (start : BlockState) (h : List Operation) (block : ℕ) (t : Writer) → IsLegal start h → last_writer h block ≡ Some t → (p : Operation) × Contains h p × (transaction_of p ≡ t)
written_by start h block t l e = by (last_write h block) refl
  where
    by : (w : Option Write) → last_write h block ≡ w → (p : Operation) × Contains h p × (transaction_of p ≡ t)
    by None is = absurd (let no : None ≡ Some t = sym (ap (option_map (λ (w : Write). w.writer)) is) ∙ e in cc)
    by (Some w) is =
        let last = newest_of_last block h (ticketed start h l).rises w is in
        let same : Some w.writer ≡ Some t = sym (ap (option_map (λ (v : Write). v.writer)) is) ∙ e in
        (last.written.0, last.written.1, sym (write_of-tells block last.written.0 w last.written.2).writer ∙ same_Some w.writer t same)

pub own_of_consistent : (start : BlockState) (first : Bounds) (history : List Operation) (bounds : Bounds) → IsLegal start history → AreNumbered first history → IsConsistentCut history bounds → OwnWrites history bounds
own_of_consistent start first history bounds l n k = record { own = λ o c within w d. by o c (ltb-true o.number (bounds o.core) within) w d (cases_eq w.core o.core) }
  where
    earlier : (o : Operation) → Contains history o → (w : Writer) → Contains (writers_found o) w → w.core ≡ o.core → w.number ≤ o.number
    earlier o c w d same =
        let at = split_at history o c in
        let next : IsNext start at.0 o = l.each at.0 at.1 o at.2 in
        let found = of_filter_map (λ (f : FoundBlock). f.writer) o.found w d in
        let as_left = All-contains (IsFoundAfter start at.0) o.found found.0 next.finds.found found.1 in
        let legal : IsLegal start at.0 = legal_front start at.0 (o ∷ at.1) (subst (IsLegal start) at.2 l) in
        let from = written_by start at.0 found.0.block w legal (as_left.writer ∙ found.2) in
        let numbered : AreNumbered first (at.0 ++ o ∷ at.1) = subst (AreNumbered first) at.2 n in
        let core_is : from.0.core ≡ w.core = ap (λ (t : Writer). t.core) from.2 in
        let number_is : from.0.number ≡ w.number = ap (λ (t : Writer). t.number) from.2 in
        let before : AreNumbered first (at.0 ++ o ∷ []) = numbered_front first (at.0 ++ o ∷ []) at.1 (subst (AreNumbered first) (sym (append_assoc at.0 (o ∷ []) at.1)) numbered) in
        let falls = never_falls first at.0 o from.0 before (at_most_last first at.0 (numbered_front first at.0 (o ∷ []) before) from.0 from.1) (core_is ∙ same) in
        omega (arith, falls, number_is)

    by : (o : Operation) → Contains history o → o.number < bounds o.core → (w : Writer) → Contains (writers_found o) w → (w.core ≡ o.core) ⊎ (w.core ≡ o.core → ⊥) → w.number < bounds w.core
    by o c inside w d (inl same) =
        let le = earlier o c w d same in
        subst (λ core. w.number < bounds core) (sym same) (omega (arith, le, inside))
    by o c inside w d (inr other) =
        let t = transaction_of o in
        let member = in_flat_map writers_found (operations_of history (transaction_of o)) o w (in_filter (is_of (transaction_of o)) history o c (is_of-itself o)) d in
        let less = below_bound w.core (writers_found_by history (transaction_of o)) w member refl in
        let value = other_bound history (transaction_of o) w.core other in
        let most = k.closed (transaction_of o) w.core inside in
        omega (arith, less, value, most)

pub consistent_by_operations : ConsistentByOperations
consistent_by_operations start first history bounds l n = (λ k. found_of_own history bounds (own_of_consistent start first history bounds l n k), λ f. consistent_of_own history bounds (own_of_found history bounds f))

-- ---- a consistent cut is a history

own_front : (h : List Operation) (x : Operation) (bounds : Bounds) → OwnWrites (h ++ x ∷ []) bounds → OwnWrites h bounds
own_front h x bounds f = record { own = λ o c within w d. f.own o (Contains-append_left h (x ∷ []) o c) within w d }

-- what an operation found is the same after the cut, where the cut has its last writer
found_in_cut : (start : BlockState) (h : List Operation) (bounds : Bounds) (f : FoundBlock) → IsFoundAfter start h f → ((w : Writer) → f.writer ≡ Some w → w.number < bounds w.core) → IsFoundAfter start (cut h bounds) f
found_in_cut start h bounds f a inside =
    let within : f.block < length start = let lt = slice_get_within (after start h) f.block f.content a.content in omega (arith, lt, length-after start h) in
    record {
      content = get-after start (cut h bounds) f.block within ∙ ap (λ w. stands start f.block w) same ∙ sym (get-after start h f.block within) ∙ a.content;
      writer = ap (option_map (λ (w : Write). w.writer)) same ∙ a.writer;
    }
  where
    same : last_write (cut h bounds) f.block ≡ last_write h f.block
    same = last_write-chosen (λ t. ltb t.number (bounds t.core)) f.block h (λ w is. lt-ltb w.writer.number (bounds w.writer.core) (inside w.writer (sym a.writer ∙ ap (option_map (λ (v : Write). v.writer)) is)))

pub cut_of_own : (start : BlockState) (bounds : Bounds) (history : List Operation) → IsLegal start history → OwnWrites history bounds → IsHistory start (cut history bounds)
cut_of_own start bounds = by_push (λ h. IsLegal start h → OwnWrites h bounds → IsHistory start (cut h bounds)) (λ l f. record { each = each-nil (FindsAfter start) }) step
  where
    step : (h : List Operation) (x : Operation) → (IsLegal start h → OwnWrites h bounds → IsHistory start (cut h bounds)) → IsLegal start (h ++ x ∷ []) → OwnWrites (h ++ x ∷ []) bounds → IsHistory start (cut (h ++ x ∷ []) bounds)
    step h x ih l f = by (is_within bounds x) refl
      where
        old : IsHistory start (cut h bounds)
        old = ih (legal_front start h (x ∷ []) l) (own_front h x bounds f)

        next : IsNext start h x
        next = legal_last start h x l

        finds : is_within bounds x ≡ true → FindsAfter start (cut h bounds) x
        finds kept = record {
          operation = next.finds.operation;
          found = all_of (IsFoundAfter start (cut h bounds)) x.found (λ b c. found_in_cut start h bounds b
              (All-contains (IsFoundAfter start h) x.found b next.finds.found c)
              (λ w is. f.own x (Contains-push h x) kept w (in_filter_map (λ (g : FoundBlock). g.writer) x.found b w c is)));
        }

        by : (b : Bool) → is_within bounds x ≡ b → IsHistory start (cut (h ++ x ∷ []) bounds)
        by true kept = subst (IsHistory start) (sym (filter-push_true (is_within bounds) h x kept)) (record { each = each-push (FindsAfter start) (cut h bounds) x old.each (finds kept) })
        by false dropped = subst (IsHistory start) (sym (filter-push_false (is_within bounds) h x dropped)) old

pub cut_is_history : CutIsHistory
cut_is_history start first history bounds l n k = cut_of_own start bounds history l (own_of_consistent start first history bounds l n k)

-- ---- what was last written in a cut

pub state_by_blocks : StateByBlocks
state_by_blocks = get-after

pub rises-filter : (p : Operation → Bool) (h : List Operation) → Rises h → Rises (filter p h)
rises-filter p = by_push (λ h. Rises h → Rises (filter p h)) (λ r. rises-nil) step
  where
    step : (h : List Operation) (x : Operation) → (Rises h → Rises (filter p h)) → Rises (h ++ x ∷ []) → Rises (filter p (h ++ x ∷ []))
    step h x ih r = by (p x) refl
      where
        by : (b : Bool) → p x ≡ b → Rises (filter p (h ++ x ∷ []))
        by true kept = subst Rises (sym (filter-push_true p h x kept)) (rises-push (filter p h) x (ih (rises-front h x r)) (λ o c. rises-last h x r o (of_filter p h o c).0))
        by false dropped = subst Rises (sym (filter-push_false p h x dropped)) (ih (rises-front h x r))

pub rises_of_legal : (start : BlockState) (h : List Operation) → IsLegal start h → Rises h
rises_of_legal start h l = (ticketed start h l).rises

pub last_is_newest : LastIsNewest
last_is_newest start history chosen block w l =
    let r = rises-filter chosen history (rises_of_legal start history l) in
    (λ e. newest_of_last block (filter chosen history) r w e, λ n. last_of_newest block (filter chosen history) r w n)

pub none_is_unwritten : NoneIsUnwritten
none_is_unwritten history block = (λ e. unwritten_of_none block history e, λ n. none_of_unwritten block history n)

pub state_of_cut : StateOfCut
state_of_cut start history bounds block l lt = record {
  written = λ w n. at ∙ ap (stands start block) (last_of_newest block (cut history bounds) (rises-filter (is_within bounds) history (rises_of_legal start history l)) w n);
  unwritten = λ none. at ∙ ap (stands start block) (none_of_unwritten block (cut history bounds) none);
}
  where
    at : slice_get (after start (cut history bounds)) block ≡ stands start block (last_write (cut history bounds) block)
    at = get-after start (cut history bounds) block lt

-- ---- what a consistent cut has of a block's writes is a front of them

-- an operation that wrote a block found it
found_of_written : (x : Operation) → IsOperation x → (block : ℕ) (w : Write) → write_of block x ≡ Some w → (f : FoundBlock) × Contains x.found f × (f.block ≡ block)
found_of_written x shape block w e = by (map_of.get x.written block) refl
  where
    at : Any (λ f. f.block ≡ block) x.found → (f : FoundBlock) × Contains x.found f × (f.block ≡ block)
    at a = (a.1, (a.0, a.2, a.3), a.4)

    by : (c : Option (List ℕ)) → map_of.get x.written block ≡ c → (f : FoundBlock) × Contains x.found f × (f.block ≡ block)
    by None is = absurd (let no : None ≡ Some w = sym (ap (option_map (λ content. record { ticket = x.ticket; writer = transaction_of x; content = content })) is) ∙ e in cc)
    by (Some c) is = at (shape.written_was_found block (ap is_some is))

pub front_of_writes : (start : BlockState) (bounds : Bounds) (block : ℕ) (h : List Operation) → IsLegal start h → OwnWrites h bounds
    → (w : Write) → last_write h block ≡ Some w → w.writer.number < bounds w.writer.core
    → (o : Operation) (v : Write) → Contains h o → write_of block o ≡ Some v → is_within bounds o ≡ true
front_of_writes start bounds block = by_push
    (λ h. IsLegal start h → OwnWrites h bounds → (w : Write) → last_write h block ≡ Some w → w.writer.number < bounds w.writer.core → (o : Operation) (v : Write) → Contains h o → write_of block o ≡ Some v → is_within bounds o ≡ true)
    (λ l f w e inside o v c wrote. absurd (no_member o c)) step
  where
    step : (h : List Operation) (x : Operation)
        → (IsLegal start h → OwnWrites h bounds → (w : Write) → last_write h block ≡ Some w → w.writer.number < bounds w.writer.core → (o : Operation) (v : Write) → Contains h o → write_of block o ≡ Some v → is_within bounds o ≡ true)
        → IsLegal start (h ++ x ∷ []) → OwnWrites (h ++ x ∷ []) bounds → (w : Write) → last_write (h ++ x ∷ []) block ≡ Some w → w.writer.number < bounds w.writer.core
        → (o : Operation) (v : Write) → Contains (h ++ x ∷ []) o → write_of block o ≡ Some v → is_within bounds o ≡ true
    step h x ih l f w e inside o v c wrote = by (write_of block x) refl (Contains-push_cases h x o c)
      where
        legal : IsLegal start h
        legal = legal_front start h (x ∷ []) l

        own : OwnWrites h bounds
        own = own_front h x bounds f

        next : IsNext start h x
        next = legal_last start h x l

        -- where the last one wrote the block, the one before it that did is in the cut as well
        earlier : (u : Write) → write_of block x ≡ Some u → is_within bounds x ≡ true → Contains h o → is_within bounds o ≡ true
        earlier u is kept d = last (last_write h block) refl
          where
            last : (y : Option Write) → last_write h block ≡ y → is_within bounds o ≡ true
            last None none = absurd (let no : None ≡ Some v = sym (unwritten_of_none block h none o d) ∙ wrote in cc)
            last (Some y) some =
                let found = found_of_written x next.finds.operation block u is in
                let as_left = All-contains (IsFoundAfter start h) x.found found.0 next.finds.found found.1 in
                let writer : found.0.writer ≡ Some y.writer = sym as_left.writer ∙ ap (λ b. last_writer h b) found.2 ∙ ap (option_map (λ (z : Write). z.writer)) some in
                let member = in_filter_map (λ (g : FoundBlock). g.writer) x.found found.0 y.writer found.1 writer in
                ih legal own y some (f.own x (Contains-push h x) kept y.writer member) o v d wrote

        by : (u : Option Write) → write_of block x ≡ u → Contains h o ⊎ (x ≡ o) → is_within bounds o ≡ true
        by None is (inl d) = ih legal own w (sym (push_unwritten h x block is) ∙ e) inside o v d wrote
        by None is (inr same) = absurd (let no : None ≡ Some v = sym is ∙ ap (write_of block) same ∙ wrote in cc)
        by (Some u) is d =
            let u_is : u ≡ w = same_Some u w (sym (push_written h x block u is) ∙ e) in
            let writer : w.writer ≡ transaction_of x = ap (λ (y : Write). y.writer) (sym u_is) ∙ (write_of-tells block x u is).writer in
            let kept : is_within bounds x ≡ true = lt-ltb x.number (bounds x.core) (subst (λ (t : Writer). t.number < bounds t.core) writer inside) in
            elim d [ inl in_h ↦ earlier u is kept in_h | inr same ↦ subst (λ y. is_within bounds y ≡ true) same kept ]

-- of two operations that wrote a block, the later of which is in a consistent cut, the earlier is too
pub earlier_within : (start : BlockState) (bounds : Bounds) (history : List Operation) → IsLegal start history → OwnWrites history bounds
    → (block : ℕ) (o p : Operation) (v w : Write) → Contains history o → Contains history p → write_of block o ≡ Some v → write_of block p ≡ Some w
    → is_within bounds p ≡ true → o.ticket < p.ticket → is_within bounds o ≡ true
earlier_within start bounds history l f block o p v w c d wrote_o wrote_p kept less = at (split_at history p d)
  where
    r : Rises history
    r = rises_of_legal start history l

    at : (before : List Operation) × (later : List Operation) × (history ≡ before ++ p ∷ later) → is_within bounds o ≡ true
    at s = front_of_writes start bounds block (s.0 ++ p ∷ []) legal own w (push_written s.0 p block w wrote_p) inside o v (Contains-append_left s.0 (p ∷ []) o member) wrote_o
      where
        whole : history ≡ (s.0 ++ p ∷ []) ++ s.1
        whole = s.2 ∙ sym (append_assoc s.0 (p ∷ []) s.1)

        legal : IsLegal start (s.0 ++ p ∷ [])
        legal = legal_front start (s.0 ++ p ∷ []) s.1 (subst (IsLegal start) whole l)

        own : OwnWrites (s.0 ++ p ∷ []) bounds
        own = record { own = λ q e within u g. f.own q (subst (λ h. Contains h q) (sym whole) (Contains-append_left (s.0 ++ p ∷ []) s.1 q e)) within u g }

        inside : w.writer.number < bounds w.writer.core
        inside = subst (λ (t : Writer). t.number < bounds t.core) (sym (write_of-tells block p w wrote_p).writer) (ltb-true p.number (bounds p.core) kept)

        later_is_above : (q : Operation) → Contains s.1 q → p.ticket < q.ticket
        later_is_above q e =
            let t = split_at s.1 q e in
            let place : history ≡ (s.0 ++ p ∷ t.0) ++ q ∷ t.1 = s.2 ∙ ap (λ l. s.0 ++ p ∷ l) t.2 ∙ sym (append_assoc s.0 (p ∷ t.0) (q ∷ t.1)) in
            r.rises (s.0 ++ p ∷ t.0) t.1 q place p (Contains-append_right s.0 (p ∷ t.0) p (here p t.0))

        in_before : Contains s.0 o ⊎ Contains (p ∷ s.1) o → Contains s.0 o
        in_before (inl e) = e
        in_before (inr e) = absurd (elim (cons_cases p s.1 o e) [
          | inl same ↦ let at_p : p.ticket ≡ o.ticket = ap (λ (y : Operation). y.ticket) same in omega (arith, at_p, less)
          | inr g ↦ let above = later_is_above o g in omega (arith, above, less)
        ])

        member : Contains s.0 o
        member = in_before (Contains-append_cases s.0 (p ∷ s.1) o (subst (λ h. Contains h o) s.2 c))

pub earlier_is_within : EarlierIsWithin
earlier_is_within start first history bounds block o p v w l n k c d wrote_o wrote_p less inside =
    ltb-true o.number (bounds o.core) (earlier_within start bounds history l (own_of_consistent start first history bounds l n k) block o p v w c d wrote_o wrote_p (lt-ltb p.number (bounds p.core) inside) less)

-- ---- a front

all_within : (bounds : Bounds) (h : List Operation) → ((o : Operation) → Contains h o → o.number < bounds o.core) → cut h bounds ≡ h
all_within bounds [] each = refl
all_within bounds (o ∷ h) each =
    ap (λ b. cond b (o ∷ cut h bounds) (cut h bounds)) (lt-ltb o.number (bounds o.core) (each o (here o h)))
    ∙ ap (λ (l : List Operation). o ∷ l) (all_within bounds h (λ p c. each p (there o h p c)))

none_within : (bounds : Bounds) (h : List Operation) → ((o : Operation) → Contains h o → bounds o.core ≤ o.number) → cut h bounds ≡ []
none_within bounds [] each = refl
none_within bounds (o ∷ h) each =
    ap (λ b. cond b (o ∷ cut h bounds) (cut h bounds)) (le-ltb o.number (bounds o.core) (each o (here o h)))
    ∙ none_within bounds h (λ p c. each p (there o h p c))

pub front_is_consistent : FrontIsConsistent
front_is_consistent start front rest bounds l below above = (consistent_of_own (front ++ rest) bounds (record { own = own }), parts)
  where
    in_front : (o : Operation) → Contains front o → o.number < bounds o.core
    in_front o c = All-contains (λ p. p.number < bounds p.core) front o below c

    in_rest : (o : Operation) → Contains rest o → bounds o.core ≤ o.number
    in_rest o c = All-contains (λ p. bounds p.core ≤ p.number) rest o above c

    own : (o : Operation) → Contains (front ++ rest) o → is_within bounds o ≡ true → (w : Writer) → Contains (writers_found o) w → w.number < bounds w.core
    own o c within w d = elim (Contains-append_cases front rest o c) [
      | inl e ↦
          let at = split_at front o e in
          let legal : IsLegal start front = legal_front start front rest l in
          let whole : IsLegal start (at.0 ++ o ∷ at.1) = subst (IsLegal start) at.2 legal in
          let next : IsNext start at.0 o = whole.each at.0 at.1 o refl in
          let found = of_filter_map (λ (f : FoundBlock). f.writer) o.found w d in
          let as_left = All-contains (IsFoundAfter start at.0) o.found found.0 next.finds.found found.1 in
          let from = written_by start at.0 found.0.block w (legal_front start at.0 (o ∷ at.1) whole) (as_left.writer ∙ found.2) in
          let member : Contains front from.0 = subst (λ h. Contains h from.0) (sym at.2) (Contains-append_left at.0 (o ∷ at.1) from.0 from.1) in
          subst (λ (t : Writer). t.number < bounds t.core) from.2 (in_front from.0 member)
      | inr e ↦ absurd (let lt = ltb-true o.number (bounds o.core) within in let le = in_rest o e in omega (arith, lt, le))
    ]

    parts : cut (front ++ rest) bounds ≡ front
    parts = filter-append (is_within bounds) front rest ∙ ap (λ l. l ++ cut rest bounds) (all_within bounds front in_front) ∙ ap (λ l. front ++ l) (none_within bounds rest in_rest) ∙ append-nil front

-- ---- parts told by a test

same_filter : {X : Type 0} (p q : X → Bool) (xs : List X) → ((x : X) → Contains xs x → p x ≡ q x) → filter p xs ≡ filter q xs
same_filter p q [] same = refl
same_filter p q (x ∷ xs) same = ap₂ (λ (b : Bool) ys. cond b (x ∷ ys) ys) (same x (here x xs)) (same_filter p q xs (λ y c. same y (there x xs y c)))

in_map : (ops : List Operation) (o : Operation) → Contains ops o → Contains (map transaction_of ops) (transaction_of o)
in_map [] o c = absurd (no_member o c)
in_map (x ∷ ops) o c = elim (cons_cases x ops o c) [ inl same ↦ subst (λ y. Contains (map transaction_of (x ∷ ops)) (transaction_of y)) same (here (transaction_of x) (map transaction_of ops)) | inr d ↦ there (transaction_of x) (map transaction_of ops) (transaction_of o) (in_map ops o d) ]

of_map : (ops : List Operation) (t : Writer) → Contains (map transaction_of ops) t → (o : Operation) × Contains ops o × (transaction_of o ≡ t)
of_map [] t c = absurd (no_member t c)
of_map (x ∷ ops) t c = elim (cons_cases (transaction_of x) (map transaction_of ops) t c) [ inl same ↦ (x, here x ops, same) | inr d ↦ let r = of_map ops t d in (r.0, there x ops r.0 r.1, r.2) ]

pub closed_part_is_cut : ClosedPartIsCut
closed_part_is_cut start history keeps l part = (bounds, consistent_of_own history bounds own, same_filter p (is_within bounds) history same)
  where
    p : Operation → Bool
    p = λ o. keeps (transaction_of o)

    bounds : Bounds
    bounds = λ core. bound_on core (map transaction_of (filter (λ o. keeps (transaction_of o)) history))

    below : (o : Operation) → Contains history o → keeps (transaction_of o) ≡ true → o.number < bounds o.core
    below o c kept = below_bound o.core (map transaction_of (filter p history)) (transaction_of o) (in_map (filter p history) o (in_filter p history o c kept)) refl

    kept_below : (o : Operation) → Contains history o → o.number < bounds o.core → (bound_on o.core (map transaction_of (filter (λ q. keeps (transaction_of q)) history)) ≡ 0) ⊎ IsReached o.core (map transaction_of (filter (λ q. keeps (transaction_of q)) history)) → keeps (transaction_of o) ≡ true
    kept_below o c less (inl none) = absurd (omega (arith, less, none))
    kept_below o c less (inr r) =
        let from = of_map (filter p history) r.at r.member in
        let member = of_filter p history from.0 from.1 in
        let core_is : from.0.core ≡ o.core = ap (λ (t : Writer). t.core) from.2 ∙ r.core_is in
        let number_is : from.0.number ≡ r.at.number = ap (λ (t : Writer). t.number) from.2 in
        let most = r.is in
        part.earlier from.0 o member.0 c (sym core_is) (omega (arith, less, most, number_is)) member.1

    same : (o : Operation) → Contains history o → keeps (transaction_of o) ≡ is_within bounds o
    same o c = by (keeps (transaction_of o)) refl (is_within bounds o) refl
      where
        by : (a : Bool) → keeps (transaction_of o) ≡ a → (b : Bool) → is_within bounds o ≡ b → keeps (transaction_of o) ≡ is_within bounds o
        by true kept b is = kept ∙ sym (lt-ltb o.number (bounds o.core) (below o c kept))
        by false dropped true is = kept_below o c (ltb-true o.number (bounds o.core) is) (bound_reached o.core (map transaction_of (filter p history))) ∙ sym is
        by false dropped false is = dropped ∙ sym is

    own : OwnWrites history bounds
    own = record { own = λ o c within w d. writes o c within w d }
      where
        writes : (o : Operation) → Contains history o → is_within bounds o ≡ true → (w : Writer) → Contains (writers_found o) w → w.number < bounds w.core
        writes o c within w d =
            let at = split_at history o c in
            let next : IsNext start at.0 o = l.each at.0 at.1 o at.2 in
            let found = of_filter_map (λ (f : FoundBlock). f.writer) o.found w d in
            let as_left = All-contains (IsFoundAfter start at.0) o.found found.0 next.finds.found found.1 in
            let legal : IsLegal start at.0 = legal_front start at.0 (o ∷ at.1) (subst (IsLegal start) at.2 l) in
            let from = written_by start at.0 found.0.block w legal (as_left.writer ∙ found.2) in
            let member : Contains history from.0 = subst (λ h. Contains h from.0) (sym at.2) (Contains-append_left at.0 (o ∷ at.1) from.0 from.1) in
            let kept_o : keeps (transaction_of o) ≡ true = same o c ∙ within in
            let kept_w : keeps w ≡ true = All-contains (λ v. keeps v ≡ true) (writers_found o) w (part.found o c kept_o) d in
            subst (λ (t : Writer). t.number < bounds t.core) from.2 (below from.0 member (ap keeps from.2 ∙ kept_w))
