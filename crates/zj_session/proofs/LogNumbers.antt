-- What lines tell with one line more, and the operations and numbers of a core along a history.
use Rattle.std.proofs.Common.{◌≡◌, ◌≢◌, ◌⊎◌, inl, inr, ⊎_elim, ℕ, zero, suc, ◌+◌, ◌<◌, ◌≤◌, ◌==◌, ◌&&◌, ◌||◌, Bool, true, false, cond, eq-eqb, ne_eqb, List, [], ◌∷◌, ◌++◌, length, filter, fold, Option, Some, None, All, refl, sym, ap, ◌∙◌, subst, arith}
use Rattle.std.specs.Prelude.{Contains, count_by}
use Rattle.std.specs.List.{list_any, sum_by}
use Rattle.std.proofs.lemmas.Bool.{cases_eq}
use Rattle.std.proofs.lemmas.List.Folds.{list_any-append}
use Rattle.std.proofs.lemmas.List.Sums.{fold-append, sum_by-append}
use Rattle.std.proofs.lemmas.List.Elements.{All-contains, Contains-append_left}
use Rattle.std.proofs.lemmas.List.{append_cancel_left, append-nil, length-append}
use Rattle.zj_block.specs.Sizes.{Numbers}
use Rattle.zj_block.specs.declared.numbers.Tail.{Tail}
use Rattle.zj_block.specs.declared.numbers.Writer.{Writer}
use Rattle.zj_history.specs.Legal.{IsFoundAfter, IsLegal, IsNext}
use Rattle.zj_history.specs.Operation.{FoundBlock, Operation, transaction_of}
use Rattle.zj_history.specs.State.{BlockState}
use Rattle.zj_history.specs.Transactions.{AreNumbered, Bounds, is_of, last_number, operations_of, writers_found}
use Rattle.zj_history.proofs.Cuts.{written_by}
use Rattle.zj_history.proofs.Members.{all_of, no_member, here, there, of_filter, of_filter_map, split_at}
use Rattle.zj_history.proofs.Numbers.{at_most_last, is_of-parts, legal_front}
use Rattle.zj_layout.proofs.Follow.{none_some, some_is}
use Rattle.zj_script.specs.declared.line.Line.{Line}
use Rattle.zj_script.specs.declared.answer.Form.{Form}
use Rattle.zj_area.specs.Ring.{behind}
use Rattle.zj_tx.specs.Record.{Record}
use Rattle.zj_tx.specs.Running.{FindsCores}
use Rattle.zj_turns.specs.CacheHistory.{operations_on}
use Rattle.zj_session.specs.Logging.{commits_in, end_behind, fails_in, is_committed, is_fault}
use Rattle.zj_session.specs.Played.{Played, is_on}

-- ---- one line more

pub commits_more : (played : List Played) (line : Line) (form : Form) (i : ℕ) → commits_in (played ++ (line, form) ∷ []) i ≡ commits_in played i + cond (is_on i line.core && is_committed form) 1 0
commits_more played line form i = let e = sum_by-append (λ (p : Played). cond (is_on i p.0.core && is_committed p.1) 1 0) played ((line, form) ∷ []) in omega (arith, e)

pub fails_more : (played : List Played) (line : Line) (form : Form) (i : ℕ) → fails_in (played ++ (line, form) ∷ []) i ≡ (fails_in played i || ((is_on i line.core && is_fault form) || false))
fails_more played line form i = list_any-append (λ (p : Played). is_on i p.0.core && is_fault p.1) played ((line, form) ∷ [])

-- ---- one record more

pub end_more : (sizes : Numbers) (tail : Tail) (records : List Record) (r : Record) → end_behind sizes tail (records ++ r ∷ []) ≡ behind sizes (end_behind sizes tail records) r
end_more sizes tail records r = fold-append (behind sizes) tail records (r ∷ [])

-- ---- the operations of a core

pub all_one : {X : Type 0} (P : X → Type 0) (x : X) → P x → All P (x ∷ [])
all_one P x holds zero d low = holds
all_one P x holds (suc k) d low = absurd (omega arith)

-- some list isn't empty
pub one_in : {X : Type 0} (xs : List X) → xs ≢ [] → (x : X) × Contains xs x
one_in [] some = absurd (some refl)
one_in (x ∷ xs) some = (x, here x xs)

-- those of a transaction are among those of its core
pub own_of : (at number : ℕ) (history : List Operation) → operations_of (operations_on at history) (record { core = at; number = number }) ≡ operations_of history (record { core = at; number = number })
own_of at number [] = refl
own_of at number (o ∷ history) = by (o.core == at) refl (own_of at number history)
  where
    t : Writer
    t = record { core = at; number = number }

    by : (s : Bool) → (o.core == at) ≡ s → operations_of (operations_on at history) (record { core = at; number = number }) ≡ operations_of history (record { core = at; number = number })
        → operations_of (cond s (o ∷ operations_on at history) (operations_on at history)) (record { core = at; number = number })
        ≡ cond (s && (o.number == number)) (o ∷ operations_of history (record { core = at; number = number })) (operations_of history (record { core = at; number = number }))
    by true is rest = ap (λ b. cond (b && (o.number == number)) (o ∷ operations_of (operations_on at history) (record { core = at; number = number })) (operations_of (operations_on at history) (record { core = at; number = number }))) is
        ∙ ap (λ (l : List Operation). cond (o.number == number) (o ∷ l) l) rest
    by false is rest = rest

-- an operation of another core, or of another number, doesn't belong to a transaction
pub of_other_core : (t : Writer) (o : Operation) → o.core ≢ t.core → is_of t o ≡ false
of_other_core t o apart = ap (λ b. b && (o.number == t.number)) (ne_eqb o.core t.core apart)

pub of_other_number : (t : Writer) (o : Operation) → o.number ≢ t.number → is_of t o ≡ false
of_other_number t o apart = by (o.core == t.core)
  where
    by : (b : Bool) → (b && (o.number == t.number)) ≡ false
    by true = ne_eqb o.number t.number apart
    by false = refl

-- where a core has one operation more behind a history that has one more, that is the one
pub is_last_on : (at : ℕ) (history : List Operation) (o p : Operation) → operations_on at (history ++ o ∷ []) ≡ operations_on at history ++ p ∷ [] → (o.core ≡ at) × (o ≡ p)
is_last_on at history o p same = by (cases_eq o.core at) (append_cancel_left (operations_on at history) (operations_on at (o ∷ [])) (p ∷ []) (sym (filter_push at history o) ∙ same))
  where
    filter_push : (at : ℕ) (history : List Operation) (o : Operation) → operations_on at (history ++ o ∷ []) ≡ operations_on at history ++ operations_on at (o ∷ [])
    filter_push at [] o = refl
    filter_push at (x ∷ history) o = both (x.core == at) (filter_push at history o)
      where
        both : (b : Bool) → operations_on at (history ++ o ∷ []) ≡ operations_on at history ++ operations_on at (o ∷ [])
            → cond b (x ∷ operations_on at (history ++ o ∷ [])) (operations_on at (history ++ o ∷ [])) ≡ cond b (x ∷ operations_on at history) (operations_on at history) ++ operations_on at (o ∷ [])
        both true rest = ap (λ (l : List Operation). x ∷ l) rest
        both false rest = rest

    first_is : (x y : Operation) → x ∷ [] ≡ y ∷ [] → x ≡ y
    first_is x y e = some_is (ap first e)
      where
        first : List Operation → Option Operation
        first [] = None
        first (z ∷ l) = Some z

    by : (o.core ≡ at) ⊎ (o.core ≡ at → ⊥) → operations_on at (o ∷ []) ≡ p ∷ [] → (o.core ≡ at) × (o ≡ p)
    by (inl is) e = (is, first_is o p (sym (ap (λ b. cond b (o ∷ []) []) (eq-eqb o.core at is)) ∙ e))
    by (inr other) e = absurd (let none : [] ≡ p ∷ [] = sym (ap (λ b. cond b (o ∷ []) []) (ne_eqb o.core at other)) ∙ e in cc)

-- ---- numbers

abbrev last_step : ℕ → Option ℕ → Operation → Option ℕ
last_step core last o = cond (o.core == core) (Some o.number) last

pub last_own : (core : ℕ) (history : List Operation) (o : Operation) → o.core ≡ core → last_number core (history ++ o ∷ []) ≡ Some o.number
last_own core history o is = fold-append (last_step core) None history (o ∷ []) ∙ ap (λ b. cond b (Some o.number) (last_number core history)) (eq-eqb o.core core is)

pub last_else : (core : ℕ) (history : List Operation) (o : Operation) → o.core ≢ core → last_number core (history ++ o ∷ []) ≡ last_number core history
last_else core history o apart = fold-append (last_step core) None history (o ∷ []) ∙ ap (λ b. cond b (Some o.number) (last_number core history)) (ne_eqb o.core core apart)

-- a last number is within what all numbers of the core are
last_within : (core most : ℕ) (history : List Operation) (last : Option ℕ) → ((l : ℕ) → last ≡ Some l → l ≤ most) → ((o : Operation) → Contains history o → o.core ≡ core → o.number ≤ most)
    → (l : ℕ) → fold (last_step core) last history ≡ Some l → l ≤ most
last_within core most [] last before each l is = before l is
last_within core most (o ∷ history) last before each l is = last_within core most history (last_step core last o) (by (cases_eq o.core core)) (λ p c. each p (there o history p c)) l is
  where
    by : (o.core ≡ core) ⊎ (o.core ≡ core → ⊥) → (m : ℕ) → last_step core last o ≡ Some m → m ≤ most
    by (inl same) m e =
        let now : o.number ≡ m = some_is (sym (ap (λ b. cond b (Some o.number) last) (eq-eqb o.core core same)) ∙ e) in
        let low = each o (here o history) same in
        omega (arith, now, low)
    by (inr other) m e = before m (sym (ap (λ b. cond b (Some o.number) last) (ne_eqb o.core core other)) ∙ e)

-- the number that an operation of a core has, and no other exceeds, is the last
pub last_running : (first : Bounds) (history : List Operation) (core number : ℕ) → AreNumbered first history → ((o : Operation) → Contains history o → o.core ≡ core → o.number ≤ number)
    → (o : Operation) → Contains history o → o.core ≡ core → o.number ≡ number → last_number core history ≡ Some number
last_running first history core number numbered most o member of_core has =
    let a = at_most_last first history numbered o member in
    let is : last_number core history ≡ Some a.last = ap (λ c. last_number c history) (sym of_core) ∙ a.is in
    let low = last_within core number history None (λ l e. absurd (none_some e)) most a.last is in
    let high = a.above in
    is ∙ ap Some (omega (arith, low, high, has))

-- ---- what is found in a legal history was last written on its cores

pub finds_cores : (start : BlockState) (cores : ℕ) (history : List Operation) → IsLegal start history → All (λ o. o.core < cores) history → FindsCores cores history
finds_cores start cores history legal fit = all_of (λ o. All (λ w. w.core < cores) (writers_found o)) history (λ o c. all_of (λ (w : Writer). w.core < cores) (writers_found o) (λ w d. low o c w d))
  where
    low : (o : Operation) → Contains history o → (w : Writer) → Contains (writers_found o) w → w.core < cores
    low o c w d =
        let at = split_at history o c in
        let next : IsNext start at.0 o = legal.each at.0 at.1 o at.2 in
        let found = of_filter_map (λ (f : FoundBlock). f.writer) o.found w d in
        let as_left = All-contains (IsFoundAfter start at.0) o.found found.0 next.finds.found found.1 in
        let from = written_by start at.0 found.0.block w (legal_front start at.0 (o ∷ at.1) (subst (IsLegal start) at.2 legal)) (as_left.writer ∙ found.2) in
        let within = All-contains (λ (p : Operation). p.core < cores) history from.0 fit (subst (λ (l : List Operation). Contains l from.0) (sym at.2) (Contains-append_left at.0 (o ∷ at.1) from.0 from.1)) in
        subst (λ n. n < cores) (ap (λ (t : Writer). t.core) from.2) within
