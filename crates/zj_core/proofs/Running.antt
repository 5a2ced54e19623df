-- The running transaction of a core: as its pass changes, with one operation more, and once it was sealed.
use Rattle.std.proofs.Common.{◌≡◌, ◌≢◌, ⊎_elim, ℕ, suc, ◌+◌, ◌-◌, ◌^◌, ◌<◌, ◌≤◌, ◌==◌, ◌&&◌, Bool, true, false, true≢false, cond, eq-eqb, ne_eqb, List, [], ◌∷◌, ◌++◌, length, Option, None, IsSome, refl, sym, ap, ◌∙◌, subst, arith}
use Rattle.std.specs.Prelude.{slice_index}
use Rattle.std.specs.Option.{option_map}
use Rattle.std.specs.List.{All}
use Rattle.std.proofs.lemmas.List.Elements.{All-append, All-cons, All-head, All-nil, All-tail, filter-append}
use mathlib.Core.Logic.{dite}
use native.Mathlib.Decide.{ℕ_discrete}
use Rattle.zj_block.specs.Sizes.{Numbers}
use Rattle.zj_block.specs.declared.numbers.Writer.{Writer}
use Rattle.zj_area.specs.Journal.{AreaView, fullness}
use Rattle.zj_history.specs.Operation.{Operation}
use Rattle.zj_history.specs.Transactions.{is_of, operations_of}
use Rattle.zj_tx.specs.Frozen.{image_in}
use Rattle.zj_tx.specs.Laws.{NothingKept, PartsAreWithin}
use Rattle.zj_tx.specs.Record.{Accepts, IsRecord, Record}
use Rattle.zj_tx.specs.Running.{IsSealed, Keeps, Transaction, empty_transaction}
use Rattle.zj_tx.specs.declared.part.Part.{Part}
use Rattle.zj_turns.specs.Passes.{PassState, left_of, mine}
use Rattle.zj_core.specs.declared.steps.Handle.{Handle}
use Rattle.zj_core.specs.Core.{CoreState, HasJournal, IsOneMore, IsReadyToCommit, Joins, MayBegin, Runs}

-- a core as its parts show it
abbrev pub shown : {D : Type 0} → PassState → AreaView D → Numbers → Option Handle → Transaction → CoreState D
shown p area sizes handle running = record { pass = p; area = area; sizes = sizes; begun = option_map (λ (h : Handle). h.call) handle; running = running }

-- ---- the pass changes, and knows the same operations of its core

pub journal_on : {D : Type 0} (p q : PassState) (area : AreaView D) (sizes : Numbers) (handle after : Option Handle) (running next : Transaction) → q.core ≡ p.core → HasJournal (shown p area sizes handle running) → HasJournal (shown q area sizes after next)
journal_on p q area sizes handle after running next core journal = record { core = journal.core ∙ sym core; sizes_are = journal.sizes_are; ready = journal.ready; empty = journal.empty }

module _ {D : Type 0} (p q : PassState) (area : AreaView D) (sizes : Numbers) (handle after : Option Handle) (running : Transaction) (core : q.core ≡ p.core) where
  module _ (operations : (mine q).operations ≡ (mine p).operations) where
    pub may_on : MayBegin (shown p area sizes handle running) → MayBegin (shown q area sizes after running)
    may_on may = record { sound = may.sound; left = λ none. may.left (ap (λ (l : List Operation). 4294967295 - length l) (sym operations) ∙ none); fits = may.fits }

    pub runs_on : Runs (shown p area sizes handle running) → Runs (shown q area sizes after running)
    runs_on runs = record {
      core = runs.core ∙ sym core;
      cores = runs.cores;
      keeps = subst (λ (x : ℕ × List Operation). Keeps (operations_of x.1 (record { core = x.0; number = running.number })) running) (λ i. (sym core i, sym operations i)) runs.keeps;
      none_later = subst (λ (x : ℕ × List Operation). All (λ (o : Operation). (o.core ≡ x.0) × (o.number ≤ running.number)) x.1) (λ i. (sym core i, sym operations i)) runs.none_later;
      ascending = runs.ascending;
      blocks = runs.blocks;
      within = runs.within;
      number = runs.number;
      fits = runs.fits;
      over = runs.over;
    }

-- ---- no operation yet

pub runs_none : {D : Type 0} (p : PassState) (area : AreaView D) (sizes : Numbers) → NothingKept → (mine p).operations ≡ [] → IsReadyToCommit area → Runs (shown p area sizes None (empty_transaction p.core sizes.cores area.end.number))
runs_none p area sizes nothing none ready = record {
  core = refl;
  cores = refl;
  keeps = subst (λ (l : List Operation). Keeps (operations_of l (record { core = p.core; number = area.end.number })) (empty_transaction p.core sizes.cores area.end.number)) (sym none) (nothing p.core sizes.cores area.end.number);
  none_later = subst (λ (l : List Operation). All (λ (o : Operation). (o.core ≡ p.core) × (o.number ≤ area.end.number)) l) (sym none) (All-nil (λ (o : Operation). (o.core ≡ p.core) × (o.number ≤ area.end.number)));
  ascending = tt;
  blocks = omega arith;
  within = λ block some. absurd (true≢false (sym some));
  number = λ sound. refl;
  fits = λ sound some. absurd (some refl);
  over = λ failed. refl;
}

-- ---- one operation more

is_of_same : (o : Operation) (core number : ℕ) → o.core ≡ core → o.number ≡ number → is_of (record { core = core; number = number }) o ≡ true
is_of_same o core number same_core same_number = (λ i. eq-eqb o.core core same_core i && eq-eqb o.number number same_number i)

of_push : (history : List Operation) (o : Operation) (t : Writer) → is_of t o ≡ true → operations_of (history ++ o ∷ []) t ≡ operations_of history t ++ o ∷ []
of_push history o t is = filter-append (is_of t) history (o ∷ []) ∙ ap (λ b. operations_of history t ++ cond b (o ∷ []) []) is

pub few_kept : (history : List Operation) (t : Writer) → length (operations_of history t) ≤ length history
few_kept [] t = omega arith
few_kept (o ∷ history) t = by (is_of t o) (few_kept history t)
  where
    by : (b : Bool) → length (operations_of history t) ≤ length history → length (cond b (o ∷ operations_of history t) (operations_of history t)) ≤ suc (length history)
    by true rest = omega (arith, rest)
    by false rest = omega (arith, rest)

-- a core that has a draw left has added few operations
pub few_added : {D : Type 0} (c : CoreState D) → Runs c → left_of c.pass ≢ 0 → c.running.handles < 2 ^ 64 - 1
few_added c runs left =
    let many = runs.keeps.count in
    let few = few_kept (mine c.pass).operations (record { core = c.pass.core; number = c.running.number }) in
    omega (arith, many, few, left)

module _ {D : Type 0} (p q : PassState) (area : AreaView D) (sizes : Numbers) (handle after : Option Handle) (old new : Transaction) (joins : Joins sizes old new p q) (one : IsOneMore old new) (core : q.core ≡ p.core)
    (runs : Runs (shown p area sizes handle old)) (may : MayBegin (shown p area sizes handle old)) where
  new_core : new.core ≡ old.core
  new_core = ap (λ (t : Transaction). t.core) one

  new_number : new.number ≡ old.number
  new_number = ap (λ (t : Transaction). t.number) one

  kept_now : operations_of (mine q).operations (record { core = q.core; number = new.number }) ≡ operations_of (mine p).operations (record { core = p.core; number = old.number }) ++ joins.operation ∷ []
  kept_now =
      (λ i. operations_of (joins.entered i) (record { core = core i; number = new_number i }))
      ∙ of_push (mine p).operations joins.operation (record { core = p.core; number = old.number }) (is_of_same joins.operation p.core old.number joins.core joins.number)

  none_later : All (λ (o : Operation). (o.core ≡ q.core) × (o.number ≤ new.number)) (mine q).operations
  none_later =
      let P : Operation → Type 0 = λ (o : Operation). (o.core ≡ p.core) × (o.number ≤ old.number) in
      let last : P joins.operation = (joins.core, let e = joins.number in omega (arith, e)) in
      subst (λ (x : ℕ × ℕ × List Operation). All (λ (o : Operation). (o.core ≡ x.0) × (o.number ≤ x.1)) x.2) (λ i. (sym core i, sym new_number i, sym joins.entered i))
      (All-append P (mine p).operations (joins.operation ∷ []) runs.none_later (All-cons P joins.operation [] last (All-nil P)))

  fits_still : area.failed ≡ false → fullness area.sizes area.tail area.end ≡ None
  fits_still sound = dite (ℕ_discrete old.handles 0) may.fits (λ some. runs.fits sound some)

  pub runs_joined : Runs (shown q area sizes after new)
  runs_joined = record {
    core = new_core ∙ runs.core ∙ sym core;
    cores = ap (λ (t : Transaction). t.cores) one ∙ runs.cores;
    keeps = subst (λ (l : List Operation). Keeps l new) (sym kept_now) (joins.keeps (operations_of (mine p).operations (record { core = p.core; number = old.number })) runs.keeps);
    none_later = none_later;
    ascending = joins.ascending;
    blocks = joins.blocks;
    within = λ block some. ⊎_elim (λ before. runs.within block before) (λ inside. inside) (joins.within block some);
    number = λ sound. new_number ∙ runs.number sound;
    fits = λ sound some. fits_still sound;
    over = λ failed. absurd (true≢false (sym failed ∙ may.sound));
  }

-- ---- sealed

is_of_later : (o : Operation) (core number : ℕ) → o.number ≢ number → is_of (record { core = core; number = number }) o ≡ false
is_of_later o core number other = ap (λ b. (o.core == core) && b) (ne_eqb o.number number other) ∙ by (o.core == core)
  where
    by : (b : Bool) → (b && false) ≡ false
    by true = refl
    by false = refl

none_of : (history : List Operation) (core number : ℕ) → All (λ (o : Operation). (o.core ≡ core) × (o.number ≤ number)) history → operations_of history (record { core = core; number = number + 1 }) ≡ []
none_of [] core number all = refl
none_of (o ∷ history) core number all =
    let P : Operation → Type 0 = λ (o : Operation). (o.core ≡ core) × (o.number ≤ number) in
    let low : P o = All-head P o history all in
    ap (λ b. cond b (o ∷ operations_of history (record { core = core; number = number + 1 })) (operations_of history (record { core = core; number = number + 1 }))) (is_of_later o core (number + 1) (λ e. let le = low.1 in omega (arith, e, le)))
    ∙ none_of history core number (All-tail P o history all)

all_later : (history : List Operation) (core number : ℕ) → All (λ (o : Operation). (o.core ≡ core) × (o.number ≤ number)) history → All (λ (o : Operation). (o.core ≡ core) × (o.number ≤ number + 1)) history
all_later [] core number all = All-nil (λ (o : Operation). (o.core ≡ core) × (o.number ≤ number + 1))
all_later (o ∷ history) core number all =
    let P : Operation → Type 0 = λ (o : Operation). (o.core ≡ core) × (o.number ≤ number) in
    let Q : Operation → Type 0 = λ (o : Operation). (o.core ≡ core) × (o.number ≤ number + 1) in
    let low : P o = All-head P o history all in
    let next : Q o = (low.0, let le = low.1 in omega (arith, le)) in
    All-cons Q o history next (all_later history core number (All-tail P o history all))

module _ {D : Type 0} (p : PassState) (area : AreaView D) (sizes : Numbers) (handle : Option Handle) (old : Transaction) (runs : Runs (shown p area sizes handle old)) (sound : area.failed ≡ false) where
  -- the next transaction runs
  pub runs_next : (after : AreaView D) → NothingKept → (after.failed ≡ false → after.end.number ≡ area.end.number + 1) → Runs (shown p after sizes handle (empty_transaction old.core old.cores (old.number + 1)))
  runs_next after nothing numbered = record {
    core = runs.core;
    cores = runs.cores;
    keeps = subst (λ (l : List Operation). Keeps l (empty_transaction old.core old.cores (old.number + 1))) (sym (none_of (mine p).operations p.core old.number runs.none_later)) (nothing old.core old.cores (old.number + 1));
    none_later = all_later (mine p).operations p.core old.number runs.none_later;
    ascending = tt;
    blocks = omega arith;
    within = λ block some. absurd (true≢false (sym some));
    number = λ fine. ap (λ n. n + 1) (runs.number sound) ∙ sym (numbered fine);
    fits = λ fine some. absurd (some refl);
    over = λ failed. refl;
  }

  -- its record fits the journal
  pub sealed_accepted : HasJournal (shown p area sizes handle old) → (r : Record) → IsSealed old r → IsRecord r → area.core < area.sizes.cores → PartsAreWithin → Accepts area.sizes area.core area.end.number r
  sealed_accepted journal r sealed is_record inside within = record {
    number = sealed.number ∙ runs.number sound;
    cores = sealed.cores ∙ runs.cores ∙ ap (λ (n : Numbers). n.cores) (sym journal.sizes_are);
    own = sealed.bounds area.core own_inside ∙ ap (λ b. cond b 0 (slice_index old.follows area.core)) (eq-eqb area.core old.core (journal.core ∙ sym runs.core));
    inside = within r.parts area.sizes.blocks is_record.ascending
        (λ block some. subst (λ (n : Numbers). block < n.blocks) (sym journal.sizes_are) (runs.within block (subst (λ (ps : List Part). IsSome (image_in ps block)) sealed.parts some)));
  }
    where
      own_inside : area.core < old.cores
      own_inside = let many = runs.cores ∙ ap (λ (n : Numbers). n.cores) (sym journal.sizes_are) in omega (arith, many, inside)
