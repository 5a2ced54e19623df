-- What cores have logged, and how they stand, goes on with a line on one of them.
use Rattle.std.proofs.Common.{◌≡◌, ◌≢◌, ◌⊎◌, inl, inr, ⊎_elim, ℕ, ◌+◌, ◌<◌, ◌≤◌, ◌==◌, ◌&&◌, ◌||◌, Bool, true, false, true≢false, cond, eq-eqb, ne_eqb, List, [], ◌∷◌, ◌++◌, length, Some, slice_get, slice_set, refl, sym, ap, ◌∙◌, subst, arith}
use Rattle.std.specs.Prelude.{Contains, slice_index}
use Rattle.std.proofs.lemmas.Bool.{cases_eq}
use Rattle.std.proofs.lemmas.List.{length-append, length-set}
use Rattle.std.proofs.lemmas.List.Elements.{All-contains}
use Rattle.std.proofs.lemmas.Option.{slice_get_within}
use Rattle.zj_block.specs.Sizes.{Numbers}
use Rattle.zj_block.specs.declared.numbers.Tail.{Tail}
use Rattle.zj_block.specs.declared.numbers.Writer.{Writer}
use Rattle.zj_dev.specs.Disk.{DiskView}
use Rattle.zj_history.specs.Operation.{Operation}
use Rattle.zj_history.specs.Transactions.{AreNumbered, is_of, last_number, operations_of}
use Rattle.zj_history.proofs.Members.{in_filter, of_filter}
use Rattle.zj_history.proofs.Numbers.{is_of-parts, one_more_number}
use Rattle.zj_layout.proofs.Follow.{none_some, some_is}
use Rattle.zj_script.specs.declared.line.Line.{Line}
use Rattle.zj_script.specs.declared.answer.Form.{Form}
use Rattle.zj_script.specs.declared.answer.Form.TheVariants as forms
use Rattle.zj_script.specs.declared.answer.SyncForm.TheVariants as syncs
use Rattle.zj_area.specs.Journal.{AreaView, journal_of}
use Rattle.zj_closure.specs.Found.{Journals, records_of, tail_of}
use Rattle.zj_tx.specs.Frozen.{IsFrozen}
use Rattle.zj_tx.specs.Laws.{FrozenStays, OneRecord, SealedIsFrozen}
use Rattle.zj_tx.specs.Record.{Accepts, Record}
use Rattle.zj_tx.specs.Running.{FindsCores, IsSealed, Keeps, Transaction}
use Rattle.zj_turns.specs.CacheHistory.{operations_on}
use Rattle.zj_turns.specs.Passes.{CacheParameters, mine, now_knowing}
use Rattle.zj_core.specs.Committing.{Commits, FailsToCommit, Seals}
use Rattle.zj_core.specs.Core.{CoreState, IsOf, IsSteady, operations_running}
use Rattle.zj_session.specs.Answering.{met_all}
use Rattle.zj_session.specs.Crashes.{AreLogged, HasLogged, KeepsRecords, RunsAsTold, StandAsTold}
use Rattle.zj_session.specs.Logging.{AreSealed, Standing, commits_in, failed_after, fails_in, is_committed, is_fault, running_after}
use Rattle.zj_session.specs.Played.{Played, is_on}
use Rattle.zj_session.specs.Service.{IsServing}
use Rattle.zj_session.proofs.Lists.{at_all, set_else, set_here}
use Rattle.zj_session.proofs.LogNumbers.{commits_more, fails_more, finds_cores, last_running, one_in, own_of}
use Rattle.zj_session.proofs.Sealing.{is_steady, of_cache, running_frozen, running_keeps}
use Rattle.zj_session.proofs.Views.{HasMet, has_met, met_mine}
use Rattle.zj_session.proofs.LogKeeps.{empty_from, keeps_committed, keeps_failed, logged_as, logged_further, or_none, or_true, records_else, records_here, rested, sealed_more}

-- ---- one line

-- an answer of a failed commit is none of one that was committed
fault_commits_none : (form : Form) → is_fault form ≡ true → is_committed form ≡ false
fault_commits_none (forms.Sync (syncs.Fault device)) fault = refl
fault_commits_none form fault = absurd (true≢false (sym fault))

-- A line on the core at a place, which went on, with what was so before: the cores serve calls, they have logged what they did, and stand
-- as lines tell. The laws of records are at hand.
pub record LogCase (D : Type 0) : Type 0 where
  pub stays : FrozenStays
  pub one : OneRecord
  pub sealed_frozen : SealedIsFrozen
  pub view : D → DiskView
  pub cache : CacheParameters
  pub from : List ℕ
  pub tails : List Tail
  pub standing : Standing
  pub old : List (CoreState D)
  pub played : List Played
  pub history : List Operation
  pub later : List Operation
  pub sealed : Journals
  pub at : ℕ
  pub line : Line
  pub core : CoreState D
  pub gone : CoreState D
  pub serving : IsServing cache old played history
  pub logged : AreLogged view from tails old history sealed
  pub stand : StandAsTold standing played old
  pub on : line.core ≡ Some at
  pub at_place : slice_get old at ≡ Some core

module _ {D : Type 0} (case : LogCase D) where
  open case use {stays, sealed_frozen, view, cache, from, tails, standing, old, played, history, later, sealed, at, line, core, gone, serving, logged, stand, on, at_place}

  -- the core that met all others, the one that parted from them, and all cores then
  abbrev pub met : CoreState D
  met = met_all at old core

  abbrev pub next : CoreState D
  next = record gone { pass = now_knowing core.pass (mine gone.pass) }

  abbrev pub new : List (CoreState D)
  new = slice_set old at next

  pub next_there : slice_get new at ≡ Some next
  next_there = set_here old at core next at_place

  -- what is so of the core that went on, and of all others
  each_now : (P : ℕ → CoreState D → Type 0) → P at next → ((i : ℕ) (c : CoreState D) → i ≢ at → slice_get old i ≡ Some c → P i c) → (i : ℕ) (c : CoreState D) → slice_get new i ≡ Some c → P i c
  each_now P own others i c there = ⊎_elim
      (λ same. subst (λ n. P n c) (sym same) (subst (P at) (some_is (sym next_there ∙ ap (slice_get new) (sym same) ∙ there)) own))
      (λ apart. others i c apart (sym (set_else old at i next apart) ∙ there))
      (cases_eq i at)

  abbrev pub records : List Record
  records = records_of sealed at

  pub log : HasLogged view (slice_index from at) tails at core history records
  log = logged.each at core at_place

  pub has : HasMet old at met.pass
  has = has_met cache old history serving.service at core at_place

  -- ---- what lines tell

  abbrev all_played : Form → List Played
  all_played form = played ++ (line, form) ∷ []

  is_here : is_on at line.core ≡ true
  is_here = ap (is_on at) on ∙ eq-eqb at at refl

  fails_here : (form : Form) → fails_in (all_played form) at ≡ (fails_in played at || is_fault form)
  fails_here form = fails_more played line form at ∙ ap (λ b. fails_in played at || ((b && is_fault form) || false)) is_here ∙ ap (λ b. fails_in played at || b) (or_none (is_fault form))

  commits_here : (form : Form) → commits_in (all_played form) at ≡ commits_in played at + cond (is_committed form) 1 0
  commits_here form = commits_more played line form at ∙ ap (λ b. commits_in played at + cond (b && is_committed form) 1 0) is_here

  stands_else : (form : Form) (i : ℕ) (c : CoreState D) → i ≢ at → slice_get old i ≡ Some c → RunsAsTold standing (all_played form) i c
  stands_else form i c apart there = record {
    failed = was.failed ∙ ap (λ b. standing.failed i || b) (sym (or_none (fails_in played i)) ∙ ap (λ b. fails_in played i || ((b && is_fault form) || false)) (sym not_here) ∙ sym (fails_more played line form i));
    number = λ sound.
        let a = was.number sound in
        let b = commits_more played line form i in
        let d : cond {A = ℕ} (is_on i line.core && is_committed form) 1 0 ≡ 0 = ap (λ (t : Bool). cond {A = ℕ} (t && is_committed form) 1 0) not_here in
        omega (arith, a, b, d);
    behind = λ failed.
        let a = was.behind failed in
        let b = commits_more played line form i in
        let d : cond {A = ℕ} (is_on i line.core && is_committed form) 1 0 ≡ 0 = ap (λ (t : Bool). cond {A = ℕ} (t && is_committed form) 1 0) not_here in
        omega (arith, a, b, d);
  }
    where
      was : RunsAsTold standing played i c
      was = stand i c there

      not_here : is_on i line.core ≡ false
      not_here = ap (is_on i) on ∙ ne_eqb at i (λ same. apart (sym same))

  -- what is logged then, and how the cores stand
  abbrev pub Logs : Form → Type 0
  Logs form = (then_sealed : Journals) × AreLogged view from tails new later then_sealed × StandAsTold standing (all_played form) new

  -- no commit
  uncommitted : (form : Form) → is_committed form ≡ false → is_fault form ≡ false → gone.area ≡ core.area → gone.sizes ≡ core.sizes → gone.running.number ≡ core.running.number → AreNumbered (tail_of tails) later
      → ((i : ℕ) (c : CoreState D) → slice_get old i ≡ Some c → HasLogged view (slice_index from i) tails i c later (records_of sealed i)) → Logs form
  uncommitted form no_commit no_fault area sizes number numbered each = (
    sealed,
    record {
      numbered = numbered;
      many = logged.many ∙ sym (length-set old at next);
      each = each_now (λ i c. HasLogged view (slice_index from i) tails i c later (records_of sealed i))
          (logged_as view (slice_index from at) tails at core next later records area sizes number (each at core at_place))
          (λ i c apart there. each i c there);
    },
    each_now (λ i c. RunsAsTold standing (all_played form) i c)
        (record {
          failed = ap (λ (a : AreaView D). a.failed) area ∙ was.failed ∙ ap (λ b. standing.failed at || b) (sym (or_none (fails_in played at)) ∙ ap (λ b. fails_in played at || b) (sym no_fault) ∙ sym (fails_here form));
          number = λ sound.
              let a = was.number (sym (ap (λ (a : AreaView D). a.failed) area) ∙ sound) in
              let b = commits_here form in
              let d : cond {A = ℕ} (is_committed form) 1 0 ≡ 0 = ap (λ (t : Bool). cond {A = ℕ} t 1 0) no_commit in
              omega (arith, a, b, d, number);
          behind = λ failed.
              let a = was.behind (sym (ap (λ (a : AreaView D). a.failed) area) ∙ failed) in
              let b = commits_here form in
              let d : cond {A = ℕ} (is_committed form) 1 0 ≡ 0 = ap (λ (t : Bool). cond {A = ℕ} t 1 0) no_commit in
              omega (arith, a, b, d, number);
        })
        (stands_else form),
  )
    where
      was : RunsAsTold standing played at core
      was = stand at core at_place

  -- and no operation
  pub quiet : (form : Form) → is_committed form ≡ false → is_fault form ≡ false → later ≡ history → gone.area ≡ core.area → gone.sizes ≡ core.sizes → gone.running ≡ core.running → Logs form
  quiet form no_commit no_fault same area sizes running = uncommitted form no_commit no_fault area sizes (ap (λ (t : Transaction). t.number) running)
      (subst (AreNumbered (tail_of tails)) (sym same) logged.numbered)
      (λ i c there. subst (λ (l : List Operation). HasLogged view (slice_index from i) tails i c l (records_of sealed i)) (sym same) (logged.each i c there))

  -- an operation of the running transaction
  pub drew : (form : Form) → is_committed form ≡ false → is_fault form ≡ false → (o : Operation) → later ≡ history ++ o ∷ [] → o.core ≡ at → o.number ≡ core.running.number
      → gone.area ≡ core.area → gone.sizes ≡ core.sizes → gone.running.number ≡ core.running.number → Logs form
  drew form no_commit no_fault o more of_core has_number area sizes number = uncommitted form no_commit no_fault area sizes number
      (subst (AreNumbered (tail_of tails)) (sym more) ((one_more_number (tail_of tails) history o).1 (
        logged.numbered,
        record {
          begins = λ none. has_number ∙ log.next.begins (ap (λ c. last_number c history) (sym of_core) ∙ none) ∙ ap (tail_of tails) (sym of_core);
          goes_on = λ last is. ⊎_elim (λ same. inl (has_number ∙ same)) (λ up. inr (has_number ∙ up)) (log.next.goes_on last (ap (λ c. last_number c history) (sym of_core) ∙ is));
        },
      )))
      (λ i c there. subst (λ (l : List Operation). HasLogged view (slice_index from i) tails i c l (records_of sealed i)) (sym more)
      (logged_further view (slice_index from i) tails i stays c history (records_of sealed i) o
      (λ same. has_number ∙ ap (λ (x : CoreState D). x.running.number) (some_is (sym at_place ∙ ap (slice_get old) (sym of_core ∙ same) ∙ there)))
      (logged.each i c there)))

  -- ---- the running transaction

  pub was_of : IsOf cache core
  was_of = of_cache sealed_frozen cache old history serving.service at core at_place

  pub steady : IsSteady core
  steady = is_steady sealed_frozen cache old history serving.service at core at_place

  of_core : core.pass.core ≡ at
  of_core = serving.service.numbered at core at_place

  pub same_mine : mine met.pass ≡ mine core.pass
  same_mine = met_mine old at met.pass has core at_place

  -- it, as the core has it, and as lines tell it
  abbrev running : Writer
  running = record { core = at; number = core.running.number }

  abbrev pub told : Writer
  told = running_after standing played at

  abbrev pub failed : Bool
  failed = failed_after standing played at

  pub failed_told : failed ≡ core.area.failed
  failed_told = sym (stand at core at_place).failed

  pub running_told : core.area.failed ≡ false → running ≡ told
  running_told sound = ap (λ n. record { core = at; number = n }) ((stand at core at_place).number sound)

  pub own_operations : operations_on at history ≡ (mine core.pass).operations
  own_operations = serving.service.has.operations at core at_place

  keeps : Keeps (operations_of history running) core.running
  keeps = running_keeps sealed_frozen cache old history serving.service at core at_place

  pub none_running : core.running.handles ≡ 0 → operations_of history running ≡ []
  none_running none = empty_from (operations_of history running) (sym keeps.count ∙ none)

  pub some_running : core.running.handles ≢ 0 → operations_of history running ≢ []
  some_running some none = some (keeps.count ∙ ap (λ (l : List Operation). length l) none)

  pub no_handles : operations_of history running ≡ [] → core.running.handles ≡ 0
  no_handles none = keeps.count ∙ ap (λ (l : List Operation). length l) none

  -- what it is sealed as is its frozen record
  pub frozen_now : (r : Record) → IsSealed core.running r → IsFrozen history running r
  frozen_now = running_frozen sealed_frozen cache old history serving.service at core at_place

  -- where it has an operation, its number is the last of its core
  last_is : core.running.handles ≢ 0 → last_number at history ≡ Some core.running.number
  last_is some =
      let o = one_in (operations_of history running) (some_running some) in
      let member = of_filter (is_of running) history o.0 o.1 in
      let parts = is_of-parts running o.0 member.1 in
      last_running (tail_of tails) history at core.running.number logged.numbered most o.0 member.0 parts.0 parts.1
    where
      most : (p : Operation) → Contains history p → p.core ≡ at → p.number ≤ core.running.number
      most p c is = (All-contains (λ (o : Operation). (o.core ≡ core.pass.core) × (o.number ≤ core.running.number)) (mine core.pass).operations p steady.runs.none_later
          (subst (λ (l : List Operation). Contains l p) own_operations (in_filter (λ (o : Operation). o.core == at) history p c (eq-eqb p.core at is)))).1

  -- ---- a commit

  module _ (r : Record) (seals : Seals view met gone r) (same : later ≡ history) (keeps_all : KeepsRecords (slice_index from at) (journal_of view gone.area) (records ++ r ∷ [])) where
    same_tail : gone.area.tail ≡ core.area.tail
    same_tail = ap (λ (a : AreaView D). a.tail) seals.area

    same_sizes : gone.sizes ≡ core.sizes
    same_sizes = ap (λ (c : CoreState D). c.sizes) seals.next

    pub next_number : gone.running.number ≡ core.running.number + 1
    next_number = ap (λ (c : CoreState D). c.running.number) seals.next

    accepted : Accepts core.sizes at (core.area.tail.number + length records) r
    accepted = subst (λ n. Accepts n at (core.area.tail.number + length records) r) steady.journal.sizes_are
        (subst (λ c. Accepts core.area.sizes c (core.area.tail.number + length records) r) (steady.journal.core ∙ of_core)
        (subst (λ n. Accepts core.area.sizes core.area.core n r) (sym (steady.runs.number seals.sound) ∙ log.number) seals.accepted))

    log_more : HasLogged view (slice_index from at) tails at next history (records ++ r ∷ [])
    log_more = record {
      tail = same_tail ∙ log.tail;
      keeps = keeps_all;
      sealed = subst (λ n. AreSealed n at gone.area.tail history (records ++ r ∷ [])) (sym same_sizes)
          (subst (λ t. AreSealed core.sizes at t history (records ++ r ∷ [])) (sym same_tail)
          (sealed_more core.sizes at core.area.tail history records r log.sealed seals.is_record accepted
          (subst (λ n. IsFrozen history (record { core = at; number = n }) r) log.number (frozen_now r seals.sealed))));
      number =
          let a = next_number in
          let b = log.number in
          let long = length-append records (r ∷ []) in
          let t = ap (λ (x : Tail). x.number) same_tail in
          omega (arith, a, b, long, t);
      next = record {
        begins = λ none. absurd (none_some (sym none ∙ last_is seals.some));
        goes_on = λ last is. inr (next_number ∙ ap (λ n. n + 1) (some_is (sym (last_is seals.some) ∙ is)));
      };
    }

    low_place : at < length sealed
    low_place = let low = slice_get_within old at core at_place in let many = logged.many in omega (arith, low, many)

    abbrev then_sealed : Journals
    then_sealed = slice_set sealed at (records ++ r ∷ [])

    sealed_then : (form : Form) → RunsAsTold standing (all_played form) at next → Logs form
    sealed_then form stands = (
      then_sealed,
      record {
        numbered = subst (AreNumbered (tail_of tails)) (sym same) logged.numbered;
        many = length-set sealed at (records ++ r ∷ []) ∙ logged.many ∙ sym (length-set old at next);
        each = subst (λ (l : List Operation). (i : ℕ) (c : CoreState D) → slice_get new i ≡ Some c → HasLogged view (slice_index from i) tails i c l (records_of then_sealed i)) (sym same)
            (each_now (λ i c. HasLogged view (slice_index from i) tails i c history (records_of then_sealed i))
            (subst (HasLogged view (slice_index from at) tails at next history) (sym (records_here sealed at (records ++ r ∷ []) low_place)) log_more)
            (λ i c apart there. subst (HasLogged view (slice_index from i) tails i c history) (sym (records_else sealed at i (records ++ r ∷ []) apart)) (logged.each i c there)));
      },
      each_now (λ i c. RunsAsTold standing (all_played form) i c) stands (stands_else form),
    )

  pub committed : (number : ℕ) → Commits view met gone → later ≡ history → Logs (forms.Committed number)
  committed number c same = sealed_then c.sealed_as c.seals same
      (keeps_committed view (slice_index from at) met gone c.sealed_as records c.seals log.keeps c.sound c.calls (c.at_rest records (rested view (slice_index from at) met gone c.sealed_as records c.seals log.keeps)) c.end)
      (forms.Committed number)
      (record {
        failed = c.sound ∙ sym c.seals.sound ∙ sym failed_told ∙ ap (λ b. standing.failed at || b) (sym (or_none (fails_in played at)) ∙ sym (fails_here (forms.Committed number)));
        number = λ sound.
            let a = (stand at core at_place).number c.seals.sound in
            let b = commits_here (forms.Committed number) in
            let d = ap (λ (x : CoreState D). x.running.number) c.seals.next in
            omega (arith, a, b, d);
        behind = λ failed. absurd (true≢false (sym failed ∙ c.sound));
      })

  pub failed_to : (form : Form) → is_fault form ≡ true → FailsToCommit view met gone → later ≡ history → Logs form
  failed_to form fault f same = sealed_then f.sealed_as f.seals same
      (keeps_failed view (slice_index from at) met gone f.sealed_as records f.seals log.keeps f.failed)
      form
      (record {
        failed = f.failed ∙ sym (ap (λ b. standing.failed at || b) (fails_here form ∙ ap (λ b. fails_in played at || b) fault ∙ or_true (fails_in played at)) ∙ or_true (standing.failed at));
        number = λ sound. absurd (true≢false (sym f.failed ∙ sound));
        behind = λ failed.
            let a = (stand at core at_place).number f.seals.sound in
            let b = commits_here form in
            let d = ap (λ (x : CoreState D). x.running.number) f.seals.next in
            let e : cond {A = ℕ} (is_committed form) 1 0 ≡ 0 = ap (λ (t : Bool). cond {A = ℕ} t 1 0) (fault_commits_none form fault) in
            omega (arith, a, b, d, e);
      })
