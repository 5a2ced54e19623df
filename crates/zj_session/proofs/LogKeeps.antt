-- What a core has logged goes on where its journal keeps one record more, and where a history has one operation more.
use Rattle.std.proofs.Common.{◌≡◌, ◌≢◌, ◌⊎◌, inl, inr, ⊎_elim, ℕ, suc, ◌+◌, ◌*◌, ◌<◌, ◌≤◌, ◌||◌, Bool, true, false, true≢false, cond, List, [], ◌∷◌, ◌++◌, length, take, get_or, Some, slice_get, slice_set, refl, sym, ap, ◌∙◌, subst, arith}
use Rattle.std.specs.Option.{unwrap_or}
use Rattle.std.proofs.lemmas.Bool.{cases_eq, cases_lt}
use Rattle.std.proofs.lemmas.List.{length-append, take-append-le, take_all}
use Rattle.std.proofs.lemmas.Option.{get_or_from_slice_get, slice_get-get_or, slice_get_within, unwrap_or-slice_get}
use Rattle.std.proofs.Math.Seq.{take-append_seam}
use Rattle.zj_block.specs.Sizes.{Numbers}
use Rattle.zj_block.specs.declared.numbers.Tail.{Tail}
use Rattle.zj_block.specs.declared.numbers.Writer.{Writer}
use Rattle.zj_dev.specs.Disk.{DiskView}
use Rattle.zj_history.specs.Operation.{Operation}
use Rattle.zj_history.specs.Transactions.{is_of}
use Rattle.zj_layout.proofs.Follow.{none_some, some_is}
use Rattle.zj_area.specs.Journal.{AreaView, IsAtRest, IsJournal, journal_of}
use Rattle.zj_area.proofs.Commits.{of_settled}
use Rattle.zj_area.specs.Ring.{Holds, behind}
use Rattle.zj_closure.specs.Found.{Journals, records_of, tail_of}
use Rattle.zj_tx.specs.Frozen.{IsFrozen}
use Rattle.zj_tx.specs.Laws.{FrozenStays, OneRecord}
use Rattle.zj_tx.specs.Record.{Accepts, IsRecord, Record}
use Rattle.zj_turns.specs.Passes.{holds}
use Rattle.zj_core.specs.Committing.{Seals, calls_of_commit}
use Rattle.zj_core.specs.Core.{CoreState}
use Rattle.zj_session.specs.Crashes.{HasCommitted, HasLogged, HoldsFirst, IsNextNumber, KeepsRecords}
use Rattle.zj_session.specs.Logging.{AreSealed, end_behind}
use Rattle.zj_session.proofs.Lists.{at_end, set_else, set_here}
use Rattle.zj_session.proofs.LogNumbers.{all_one, end_more, last_else, last_own, of_other_core, of_other_number}

-- ---- lists

pub empty_from : {X : Type 0} (xs : List X) → length xs ≡ 0 → xs ≡ []
empty_from [] none = refl
empty_from (x ∷ xs) none = absurd (omega (arith, none))

pub one_from : {X : Type 0} (xs : List X) → length xs ≡ 1 → (x : X) × (xs ≡ x ∷ [])
one_from [] one = absurd (omega (arith, one))
one_from (x ∷ xs) one = (x, ap (λ l. x ∷ l) (empty_from xs (omega (arith, one))))

same_lists : {X : Type 0} (xs ys : List X) → length xs ≡ length ys → ((k : ℕ) (x y : X) → slice_get xs k ≡ Some x → slice_get ys k ≡ Some y → x ≡ y) → xs ≡ ys
same_lists [] [] many each = refl
same_lists [] (y ∷ ys) many each = absurd (omega (arith, many))
same_lists (x ∷ xs) [] many each = absurd (omega (arith, many))
same_lists (x ∷ xs) (y ∷ ys) many each = ap (λ z. z ∷ xs) (each 0 x y refl refl) ∙ ap (λ l. y ∷ l) (same_lists xs ys (omega (arith, many)) (λ k. each (suc k)))

pub or_none : (b : Bool) → (b || false) ≡ b
or_none true = refl
or_none false = refl

pub or_true : (b : Bool) → (b || true) ≡ true
or_true true = refl
or_true false = refl

-- the records of a core, with another list at one place
pub records_here : (sealed : Journals) (at : ℕ) (rs : List Record) → at < length sealed → records_of (slice_set sealed at rs) at ≡ rs
records_here sealed at rs low = get_or_from_slice_get (slice_set sealed at rs) at rs [] (set_here sealed at (get_or sealed at []) rs (slice_get-get_or sealed at [] low))

pub records_else : (sealed : Journals) (at i : ℕ) (rs : List Record) → i ≢ at → records_of (slice_set sealed at rs) i ≡ records_of sealed i
records_else sealed at i rs apart = sym (unwrap_or-slice_get (slice_set sealed at rs) i []) ∙ ap (λ o. unwrap_or o []) (set_else sealed at i rs apart) ∙ unwrap_or-slice_get sealed i []

-- ---- records that are sealed

-- they are the only ones
pub same_sealed : OneRecord → (sizes : Numbers) (core : ℕ) (tail : Tail) (history : List Operation) (xs ys : List Record) → AreSealed sizes core tail history xs → AreSealed sizes core tail history ys → length xs ≡ length ys → xs ≡ ys
same_sealed one sizes core tail history xs ys a b many = same_lists xs ys many (λ k x y here there.
    let p = a.each k x here in
    let q = b.each k y there in
    one history (record { core = core; number = tail.number + k }) x y p.0 q.0 (p.1.cores ∙ sym q.1.cores) p.2 q.2)

-- and one more
pub sealed_more : (sizes : Numbers) (core : ℕ) (tail : Tail) (history : List Operation) (records : List Record) (r : Record) → AreSealed sizes core tail history records → IsRecord r → Accepts sizes core (tail.number + length records) r
    → IsFrozen history (record { core = core; number = tail.number + length records }) r → AreSealed sizes core tail history (records ++ r ∷ [])
sealed_more sizes core tail history records r sealed is accepted frozen = record {
  each = λ k x at. ⊎_elim
      (λ front. sealed.each k x front.1)
      (λ end. subst (λ (y : Record). IsRecord y × Accepts sizes core (tail.number + k) y × IsFrozen history (record { core = core; number = tail.number + k }) y) end.1
      (subst (λ n. IsRecord r × Accepts sizes core (tail.number + n) r × IsFrozen history (record { core = core; number = tail.number + n }) r) (sym end.0) (is, accepted, frozen)))
      (at_end records r k x at);
}

-- ---- a journal keeps records

first_more : (sizes : Numbers) (core : ℕ) (tail : Tail) (records : List Record) (r : Record) (count : ℕ) (image : List ℕ) → HoldsFirst sizes core tail records count image → HoldsFirst sizes core tail (records ++ r ∷ []) count image
first_more sizes core tail records r count image first = record {
  within = let low = first.within in let long = length-append records (r ∷ []) in omega (arith, low, long);
  end = first.end;
  holds = subst (λ rs. Holds sizes core image tail rs first.end) (sym (take-append-le count records (r ∷ []) first.within)) first.holds;
}

module _ {D : Type 0} (view : D → DiskView) (from : ℕ) (old new : CoreState D) (r : Record) (records : List Record) (seals : Seals view old new r) (keeps : KeepsRecords from (journal_of view old.area) records) where
  abbrev all : List Record
  all = records ++ r ∷ []

  pub rested : IsAtRest (journal_of view old.area) records
  rested = keeps.at_rest seals.sound

  -- as many were committed before
  before : length records ≡ keeps.commits
  before = let many = keeps.sealed in let none : cond {A = ℕ} old.area.failed 1 0 ≡ 0 = ap (λ (b : Bool). cond {A = ℕ} b 1 0) seals.sound in omega (arith, many, none)

  after : length all ≡ keeps.commits + 1
  after = let long = length-append records (r ∷ []) in let many = before in omega (arith, long, many)

  calls_before : (view old.area.device).calls ≡ from + calls_of_commit * keeps.commits
  calls_before = let low = keeps.made in let high = keeps.at_most in let many = before in omega (arith, low, high, many)

  -- ---- an image of some moment holds the first of all, so many

  abbrev Holding : ℕ → List ℕ → Type 0
  Holding count image = HoldsFirst old.area.sizes old.area.core old.area.tail all count image

  first_before : (image : List ℕ) → Holds old.area.sizes old.area.core image old.area.tail records old.area.end → Holding keeps.commits image
  first_before image holds = record {
    within = let many = after in omega (arith, many);
    end = old.area.end;
    holds = subst (λ rs. Holds old.area.sizes old.area.core image old.area.tail rs old.area.end) (sym (ap (λ n. take n all) (sym before) ∙ take-append_seam records (r ∷ []))) holds;
  }

  first_all : (image : List ℕ) (end : Tail) → Holds old.area.sizes old.area.core image old.area.tail all end → Holding (keeps.commits + 1) image
  first_all image end holds = record {
    within = let many = after in omega (arith, many);
    end = end;
    holds = subst (λ rs. Holds old.area.sizes old.area.core image old.area.tail rs end) (sym (take_all (keeps.commits + 1) all (let many = after in omega (arith, many)))) holds;
  }

  -- from its beginning to its end
  during : (moment : ℕ) (image : List ℕ) → (view old.area.device).calls ≤ moment → moment ≤ (view new.area.device).calls → (view new.area.device).may_leave moment image ≡ true
      → (count : ℕ) × Holding count image × (keeps.commits ≤ count)
  during moment image later now left = ⊎_elim
      (λ holds. (keeps.commits, first_before image holds, omega arith))
      (λ more. (keeps.commits + 1, first_all image (behind old.area.sizes old.area.end r) more, omega arith))
      (seals.images records rested moment image later now left)

  -- where so many are committed then, and those of the moments since the commit began are so
  module _ (commits : ℕ) (since : (moment : ℕ) (image : List ℕ) → (view old.area.device).calls ≤ moment → moment ≤ (view new.area.device).calls → (view new.area.device).may_leave moment image ≡ true
      → (count : ℕ) × Holding count image × HasCommitted from commits moment count) where
    -- up to there the last one has not made its calls
    images_then : (commits ≡ keeps.commits) ⊎ (commits ≡ keeps.commits + 1) → (moment : ℕ) (image : List ℕ) → from ≤ moment → moment ≤ (view new.area.device).calls → (view new.area.device).may_leave moment image ≡ true
        → (count : ℕ) × Holding count image × HasCommitted from commits moment count
    images_then as_many moment image low now left = ⊎_elim
        (λ earlier.
        let first = keeps.images moment image low (omega (arith, earlier)) (sym (seals.continues.images moment image earlier) ∙ left) in (
          first.0,
          first_more old.area.sizes old.area.core old.area.tail records r first.0 image first.1,
          λ n most made. first.2 n (let begun = calls_before in ⊎_elim (λ same. omega (arith, most, same)) (λ one. omega (arith, most, one, made, earlier, begun)) as_many) made,
        ))
        (λ later. since moment image later now left)
        (cases_lt moment (view old.area.device).calls)

  -- ---- the commit is answered, or fails

  pub keeps_committed : (new.area.failed ≡ false) → (view new.area.device).calls ≡ (view old.area.device).calls + calls_of_commit → IsAtRest (journal_of view new.area) all → new.area.end ≡ behind old.area.sizes old.area.end r
      → KeepsRecords from (journal_of view new.area) all
  keeps_committed sound calls at_rest end = record {
    commits = keeps.commits + 1;
    sealed = let many = after in let none : cond {A = ℕ} new.area.failed 1 0 ≡ 0 = ap (λ (b : Bool). cond {A = ℕ} b 1 0) sound in omega (arith, many, none);
    images = subst (λ (x : AreaView D). (moment : ℕ) (image : List ℕ) → from ≤ moment → moment ≤ (view new.area.device).calls → (view new.area.device).may_leave moment image ≡ true
        → (count : ℕ) × HoldsFirst x.sizes x.core x.tail all count image × HasCommitted from (keeps.commits + 1) moment count) (sym seals.area) (images_then (keeps.commits + 1) since (inr refl));
    made = let begun = calls_before in omega (arith, calls, begun);
    at_most = let begun = calls_before in let many = after in omega (arith, calls, begun, many);
    at_rest = λ _. at_rest;
    end = λ _. end ∙ ap (λ e. behind old.area.sizes e r) (keeps.end seals.sound) ∙ sym (end_more old.area.sizes old.area.tail records r)
        ∙ ap (λ (x : AreaView D). end_behind x.sizes x.tail all) (sym seals.area);
  }
    where
      since : (moment : ℕ) (image : List ℕ) → (view old.area.device).calls ≤ moment → moment ≤ (view new.area.device).calls → (view new.area.device).may_leave moment image ≡ true
          → (count : ℕ) × Holding count image × HasCommitted from (keeps.commits + 1) moment count
      since moment image later now left = ⊎_elim
          (λ last. (
            keeps.commits + 1,
            first_all image new.area.end (subst (λ (x : AreaView D). Holds x.sizes x.core image x.tail all new.area.end) seals.area
                (of_settled (λ bytes. IsJournal new.area.sizes new.area.core bytes new.area.tail all new.area.end) (view new.area.device) at_rest.settled at_rest.journal image
                (subst (λ m. (view new.area.device).may_leave m image ≡ true) last left)).holds),
            λ n most made. most,
          ))
          (λ middle.
          let so = during moment image later now left in (
            so.0,
            so.1,
            λ n most made. let begun = calls_before in let least = so.2 in ⊎_elim
                (λ few. omega (arith, few, least))
                (λ many. absurd (middle (omega (arith, many, most, made, now, calls, begun))))
                (cases_lt n (keeps.commits + 1)),
          ))
          (cases_eq moment (view new.area.device).calls)

  pub keeps_failed : (new.area.failed ≡ true) → KeepsRecords from (journal_of view new.area) all
  keeps_failed failed = record {
    commits = keeps.commits;
    sealed = let many = after in let one : cond {A = ℕ} new.area.failed 1 0 ≡ 1 = ap (λ (b : Bool). cond {A = ℕ} b 1 0) failed in omega (arith, many, one);
    images = subst (λ (x : AreaView D). (moment : ℕ) (image : List ℕ) → from ≤ moment → moment ≤ (view new.area.device).calls → (view new.area.device).may_leave moment image ≡ true
        → (count : ℕ) × HoldsFirst x.sizes x.core x.tail all count image × HasCommitted from keeps.commits moment count) (sym seals.area)
        (images_then keeps.commits
        (λ moment image later now left. let so = during moment image later now left in (so.0, so.1, λ n most made. let least = so.2 in omega (arith, most, least)))
        (inl refl));
    made = let begun = calls_before in let on = seals.continues.calls in omega (arith, begun, on);
    at_most = let begun = calls_before in let many = after in let few = seals.calls_at_most in omega (arith, begun, many, few);
    at_rest = λ sound. absurd (true≢false (sym failed ∙ sound));
    end = λ sound. absurd (true≢false (sym failed ∙ sound));
  }

-- ---- what a core has logged

module _ {D : Type 0} (view : D → DiskView) (from : ℕ) (tails : List Tail) (i : ℕ) where
  -- its journal, its sizes and the number of its running transaction tell
  pub logged_as : (c d : CoreState D) (history : List Operation) (records : List Record) → d.area ≡ c.area → d.sizes ≡ c.sizes → d.running.number ≡ c.running.number
      → HasLogged view from tails i c history records → HasLogged view from tails i d history records
  logged_as c d history records area sizes number log = record {
    tail = ap (λ (a : AreaView D). a.tail) area ∙ log.tail;
    keeps = subst (λ (a : AreaView D). KeepsRecords from (journal_of view a) records) (sym area) log.keeps;
    sealed = subst (λ (a : AreaView D). AreSealed d.sizes i a.tail history records) (sym area) (subst (λ n. AreSealed n i c.area.tail history records) (sym sizes) log.sealed);
    number = number ∙ log.number ∙ ap (λ (a : AreaView D). a.tail.number + length records) (sym area);
    next = subst (IsNextNumber (tail_of tails) history i) (sym number) log.next;
  }

  -- and it stays so where its running transaction, or another core, has one operation more
  pub logged_further : FrozenStays → (c : CoreState D) (history : List Operation) (records : List Record) (o : Operation) → (o.core ≡ i → o.number ≡ c.running.number)
      → HasLogged view from tails i c history records → HasLogged view from tails i c (history ++ o ∷ []) records
  logged_further stays c history records o own log = record {
    tail = log.tail;
    keeps = log.keeps;
    sealed = record {
      each = λ k r at.
          let s = log.sealed.each k r at in
          let t : Writer = record { core = i; number = c.area.tail.number + k } in
          let low = slice_get_within records k r at in (
            s.0,
            s.1,
            stays history (o ∷ []) t r s.2 (all_one (λ (p : Operation). is_of t p ≡ false) o (⊎_elim
                (λ same. of_other_number t o (λ is. let a = own same in let b = log.number in omega (arith, a, b, is, low)))
                (λ apart. of_other_core t o apart)
                (cases_eq o.core i))),
          );
    };
    number = log.number;
    next = ⊎_elim here else (cases_eq o.core i);
  }
    where
      here : o.core ≡ i → IsNextNumber (tail_of tails) (history ++ o ∷ []) i c.running.number
      here same = record {
        begins = λ none. absurd (none_some (sym none ∙ last_own i history o same));
        goes_on = λ last is. inl (sym (own same) ∙ some_is (sym (last_own i history o same) ∙ is));
      }

      else : (o.core ≡ i → ⊥) → IsNextNumber (tail_of tails) (history ++ o ∷ []) i c.running.number
      else apart = record {
        begins = λ none. log.next.begins (sym (last_else i history o apart) ∙ none);
        goes_on = λ last is. log.next.goes_on last (sym (last_else i history o apart) ∙ is);
      }
