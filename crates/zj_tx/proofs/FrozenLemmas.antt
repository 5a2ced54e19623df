-- Frozen transactions, and what is kept of their operations.
use Rattle.std.proofs.Common.{◌≡◌, ◌⊎◌, inl, inr, ℕ, suc, ◌+◌, ◌<◌, ◌≤◌, max, true, false, cond, eqb, eq-eqb, ne_eqb, List, [], ◌∷◌, ◌++◌, length, replicate, Option, Some, None, refl, sym, ap, ◌∙◌, arith, append_assoc, append-nil}
use Rattle.std.specs.Prelude.{slice_index, filter, Contains, is_some, is_none}
use Rattle.std.specs.FinMap as map_of
use Rattle.std.proofs.lemmas.List.{get_or-replicate, get_or_past}
use Rattle.std.proofs.lemmas.List.Elements.{All-contains}
use Rattle.zj_block.specs.Numbers.{zero_bounds}
use Rattle.zj_history.proofs.Members.{of_filter, of_flat_map}
use Rattle.std.specs.List.{All, flat_map}
use Rattle.std.specs.Option.{option_map, option_or}
use Rattle.std.proofs.lemmas.Bool.{cases_eq, cases_lt}
use Rattle.std.proofs.lemmas.List.Elements.{filter-append, All-head, All-tail}
use Rattle.zj_block.specs.declared.numbers.Writer.{Writer}
use Rattle.zj_history.specs.Operation.{Operation, Write, transaction_of}
use Rattle.zj_history.specs.State.{last_write}
use Rattle.zj_history.specs.Transactions.{is_of, operations_of, writers_found, writers_found_by, bound_on, dependency_bound}
use Rattle.zj_history.proofs.Numbers.{own_bound, other_bound, bound_within}
use Rattle.zj_history.proofs.Writes.{last_write-push}
use Rattle.zj_tx.specs.Frozen.{Image, image_in, image_of}
use Rattle.zj_tx.specs.Running.{Transaction, stamped}
use Rattle.zj_tx.specs.Laws.{FrozenStays, NoneNoted, OneNotedMore, NothingKept, KeepsOneMore, SealedIsFrozen, OneRecord, PartsAreWithin}
use Rattle.std.proofs.lemmas.List.{ext_get_or}
use Rattle.zj_tx.proofs.PartLists.{same_parts, parts_within}

none_of : (t : Writer) (later : List Operation) → All (λ o. is_of t o ≡ false) later → filter (is_of t) later ≡ []
none_of t [] none = refl
none_of t (o ∷ later) none =
    ap (λ b. cond b (o ∷ filter (is_of t) later) (filter (is_of t) later)) (All-head (λ p. is_of t p ≡ false) o later none)
    ∙ none_of t later (All-tail (λ p. is_of t p ≡ false) o later none)

same_operations : (history later : List Operation) (t : Writer) → All (λ o. is_of t o ≡ false) later → operations_of history t ≡ operations_of (history ++ later) t
same_operations history later t none = sym (filter-append (is_of t) history later ∙ ap (λ l. operations_of history t ++ l) (none_of t later none) ∙ append-nil (operations_of history t))

pub frozen_stays : FrozenStays
frozen_stays history later t r f none = record {
  number = f.number;
  bounds = λ core. f.bounds core ∙ ap (λ ops. cond (eqb core t.core) 0 (bound_on core (flat_map writers_found ops))) (same_operations history later t none);
  images = λ block. f.images block ∙ ap (λ ops. option_map image_of (last_write ops block)) (same_operations history later t none);
}

zero_at : (core : ℕ) → slice_index zero_bounds core ≡ 0
unfolding zero_bounds
zero_at core = elim (cases_lt core 64) [
  | inl lt ↦ get_or-replicate {A = ℕ} 64 core 0 0 lt
  | inr le ↦ get_or_past {X = ℕ} (replicate 64 0) core 0 le
]

pub none_noted : NoneNoted
none_noted = record { each = zero_at }

pub nothing_kept : NothingKept
nothing_kept core cores number = record {
  count = refl;
  follows = none_noted;
  images = λ block. refl;
}

-- bounds over more transactions
bound_on-append : (core : ℕ) (ts us : List Writer) → bound_on core (ts ++ us) ≡ max (bound_on core ts) (bound_on core us)
bound_on-append core [] us = omega arith
bound_on-append core (t ∷ ts) us = let rest = bound_on-append core ts us in omega (arith, rest)

flat_map-push : (ops : List Operation) (o : Operation) → flat_map writers_found (ops ++ o ∷ []) ≡ flat_map writers_found ops ++ writers_found o
flat_map-push [] o = append-nil (writers_found o)
flat_map-push (p ∷ ops) o = ap (λ l. writers_found p ++ l) (flat_map-push ops o) ∙ sym (append_assoc (writers_found p) (flat_map writers_found ops) (writers_found o))

length-push : {X : Type 0} (xs : List X) (x : X) → length (xs ++ x ∷ []) ≡ suc (length xs)
length-push [] x = refl
length-push (y ∷ xs) x = ap suc (length-push xs x)

pub one_noted_more : OneNotedMore
one_noted_more old new noted t h n = record { each = more }
  where
    more : (core : ℕ) → slice_index new core ≡ bound_on core (noted ++ t ∷ [])
    more core =
        let a = n.each core in
        let b = h.each core in
        let c = bound_on-append core noted (t ∷ []) in
        omega (arith, a, b, c)

-- the image that an operation leaves, before that of earlier ones
image_or : (stamp : ℕ) (writer : Writer) (c : Option (List ℕ)) (last : Option Write)
    → option_or (stamped (stamp + 1) c) (option_map image_of last) ≡ option_map image_of (option_or (option_map (λ content. record { ticket = stamp; writer = writer; content = content }) c) last)
image_or stamp writer None last = refl
image_or stamp writer (Some x) last = refl

pub keeps_one_more : KeepsOneMore
keeps_one_more operations o old new follows k noted added = record {
  count = let n = k.count in let h = ap (λ (t : Transaction). t.handles) added.others in omega (arith, n, h, length-push operations o);
  follows = record { each = more };
  images = λ block. added.images block ∙ ap (λ x. option_or (stamped (o.ticket + 1) (map_of.get o.written block)) x) (k.images block)
      ∙ image_or o.ticket (transaction_of o) (map_of.get o.written block) (last_write operations block) ∙ sym (ap (option_map image_of) (last_write-push operations o block));
}
  where
    more : (core : ℕ) → slice_index new.follows core ≡ bound_on core (flat_map writers_found (operations ++ o ∷ []))
    more core =
        let a = added.raised.each core in
        let b = k.follows.each core in
        let c = noted.each core in
        let d = bound_on-append core (flat_map writers_found operations) (writers_found o) in
        let e = ap (bound_on core) (flat_map-push operations o) in
        omega (arith, a, b, c, d, e)

pub sealed_is_frozen : SealedIsFrozen
sealed_is_frozen history t kept r core_is number_is finds k s = record {
  number = s.number ∙ number_is;
  bounds = λ core. by core (cases_eq core t.core) (cases_lt core kept.cores);
  images = λ block. ap (λ ps. image_in ps block) s.parts ∙ k.images block;
}
  where
    past : (core : ℕ) → kept.cores ≤ core → (w : Writer) → Contains (writers_found_by history t) w → w.core ≡ core → w.number < 0
    past core le w c same =
        let from = of_flat_map writers_found (operations_of history t) w c in
        let member = of_filter (is_of t) history from.0 from.1 in
        let low = All-contains (λ v. v.core < kept.cores) (writers_found from.0) w (All-contains (λ o. All (λ v. v.core < kept.cores) (writers_found o)) history from.0 finds member.0) from.2 in
        absurd (omega (arith, low, le, same))

    by : (core : ℕ) → (core ≡ t.core) ⊎ (core ≡ t.core → ⊥) → (core < kept.cores) ⊎ (kept.cores ≤ core) → slice_index r.bounds core ≡ dependency_bound history t core
    by core (inl is) (inl lt) = s.bounds core lt ∙ ap (λ b. cond b 0 (slice_index kept.follows core)) (eq-eqb core kept.core (is ∙ sym core_is)) ∙ sym (own_bound history t core is)
    by core (inl is) (inr le) = let many = s.cores in get_or_past {X = ℕ} r.bounds core 0 (omega (arith, many, le)) ∙ sym (own_bound history t core is)
    by core (inr other) (inl lt) = s.bounds core lt ∙ ap (λ b. cond b 0 (slice_index kept.follows core)) (ne_eqb core kept.core (λ e. other (e ∙ core_is))) ∙ k.follows.each core ∙ sym (other_bound history t core other)
    by core (inr other) (inr le) =
        let many = s.cores in
        let none = bound_within core 0 (writers_found_by history t) (past core le) in
        let value = other_bound history t core other in
        let at = get_or_past {X = ℕ} r.bounds core 0 (omega (arith, many, le)) in
        omega (arith, none, value, at)

pub parts_are_within : PartsAreWithin
parts_are_within parts limit a inside = parts_within 0 parts limit a (λ block some. inside block (some_of (image_in parts block) some))
  where
    some_of : (x : Option Image) → is_none x ≡ false → is_some x ≡ true
    some_of None e = absurd (let no : true ≡ false = e in cc)
    some_of (Some x) e = refl

pub one_record : OneRecord
one_record history t r s isr iss many f g = λ i. record { number = number i; bounds = bounds i; parts = parts i }
  where
    number : r.number ≡ s.number
    number = f.number ∙ sym g.number

    bounds : r.bounds ≡ s.bounds
    bounds = ext_get_or 0 r.bounds s.bounds many (λ core lt. f.bounds core ∙ sym (g.bounds core))

    parts : r.parts ≡ s.parts
    parts = same_parts 0 r.parts s.parts isr.ascending iss.ascending (λ block. f.images block ∙ sym (g.images block))
