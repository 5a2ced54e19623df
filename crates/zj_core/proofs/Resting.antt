-- What a core keeps: it is made, it rests between two calls, and its handle is dropped.
use Rattle.std.proofs.Common.{◌≡◌, ◌≢◌, inl, ⊎_elim, ℕ, true, false, true≢false, cond, is_some, List, [], ◌∷◌, map, take, Option, Some, None, IsSome, refl, sym, ap, ◌∙◌, subst}
use Rattle.std.specs.List.{filter_map}
use Rattle.std.proofs.lemmas.List.{nil_from_length}
use Rattle.std.specs.Option.{option_map}
use Rattle.std.specs.Ordering.{nat_cmp}
use Rattle.std.specs.FinMap as finmap
use Rattle.zj_block.specs.Lists.{Entries, content_under}
use Rattle.zj_block.specs.Numbers.{zero_bounds}
use Rattle.zj_block.specs.Sizes.{Numbers}
use Rattle.zj_block.specs.declared.numbers.Writer.{Writer}
use Rattle.zj_history.specs.Operation.{FoundBlock}
use Rattle.zj_area.specs.Journal.{AreaView}
use Rattle.zj_layout.proofs.Follow.{none_some}
use Rattle.zj_tx.specs.Laws.{NoneNoted, NothingKept}
use Rattle.zj_tx.specs.Running.{HasNoted, Transaction, empty_transaction}
use Rattle.zj_turns.specs.Views.{Has, Hold, Known, found_in, found_of}
use Rattle.zj_turns.specs.Passes.{CacheParameters, IsIdle, PassState, holds, mine, now_knowing}
use Rattle.zj_turns.proofs.Lone.{lone_is}
use Rattle.zj_turns.proofs.Maps.{get_here}
use Rattle.zj_core.specs.declared.steps.Handle.{Handle}
use Rattle.zj_core.specs.Core.{CoreState, HasJournal, IsCore, IsReadyToCommit, IsSteady, IsOneMore, Joins, Performed, Runs, noted_by, taken_by}
use Rattle.zj_core.specs.Handle.{HasTaken, IsPartOfSome, entries_held, root_block, writers_held}
use Rattle.zj_core.specs.Steps.{emptied, given_back, with_operation}
use Rattle.zj_core.specs.declared.handles.Done.{Done}
use Rattle.zj_core.proofs.Finished.{root_held}
use Rattle.zj_core.proofs.Given.{given_clear, given_get, given_number, given_operations, given_ticket}
use Rattle.zj_core.proofs.Knowing.{has_now, mine_is, none_there}
use Rattle.zj_core.proofs.Needing.{held_under, part_same}
use Rattle.zj_core.proofs.Running.{journal_on, runs_joined, runs_none, runs_on, shown}
use Rattle.zj_core.proofs.Taking.{not_held}

-- a core that holds nothing has taken nothing
none_taken : (sizes : Numbers) (p : PassState) → NoneNoted → Has p.view p.core → (mine p).drawn ≡ false → (mine p).held ≡ finmap.empty → HasTaken sizes p [] zero_bounds
none_taken sizes p none_noted known clear empty = record {
  known = known;
  clear = clear;
  read = λ b h at. absurd (none_some (sym (none b) ∙ at));
  same = λ b. ap (option_map (λ (h : Hold). take 64 h.loaded)) (sym (none b));
  begun = inl refl;
  noted = subst (λ (ws : List Writer). HasNoted zero_bounds ws) (sym no_writers) none_noted;
}
  where
    none : (b : ℕ) → finmap.get (mine p).held b ≡ None
    none b = ap (λ m. finmap.get m b) empty ∙ finmap.get-empty {X = Hold} nat_cmp b

    no_writers : writers_held (mine p) ≡ []
    no_writers = ap (λ (m : finmap.FinMap nat_cmp Hold). filter_map (λ (f : FoundBlock). f.writer) (found_in m)) empty
        ∙ ap (λ (es : List (ℕ × Hold)). filter_map (λ (f : FoundBlock). f.writer) (map (λ (e : ℕ × Hold). found_of e.0 e.1) es)) (nil_from_length (finmap.entries (finmap.empty {X = Hold} {R = nat_cmp})) (sym (finmap.len-entries (finmap.empty {X = Hold} {R = nat_cmp})) ∙ finmap.len-empty nat_cmp Hold))

-- ---- a core is made

lone_taken : (sizes : Numbers) (p : PassState) → NoneNoted → IsIdle p.table p.core p → HasTaken sizes p [] zero_bounds
lone_taken sizes p none_noted idle =
    let own : mine p ≡ idle.known = lone_is p.table p.core idle.known p idle.is in
    none_taken sizes p none_noted
    (subst (λ (x : PassState). Has x.view x.core) (sym idle.is) (idle.known, get_here finmap.empty p.core idle.known))
    (ap (λ (k : Known). k.drawn) own ∙ idle.clear)
    (ap (λ (k : Known). k.held) own ∙ idle.none_held)

pub core_made : {D : Type 0} (p : PassState) (area : AreaView D) (sizes : Numbers) → NoneNoted → NothingKept → IsIdle p.table p.core p → area.core ≡ p.core → area.sizes ≡ sizes → IsReadyToCommit area → (mine p).operations ≡ []
    → (running : Transaction) → running ≡ empty_transaction p.core sizes.cores area.end.number → IsCore (shown p area sizes None running) None
core_made {D} p area sizes none_noted nothing idle core sizes_are ready none running is = subst (λ (t : Transaction). IsCore {D = D} (shown p area sizes None t) None) (sym is) (record {
  has = lone_taken sizes p none_noted idle;
  may = λ some. absurd (true≢false (sym some));
  runs = runs_none p area sizes nothing none ready;
  journal = record { core = core; sizes_are = sizes_are; ready = ready.ready; empty = ready.empty };
})

-- ---- it rests

module _ {D : Type 0} (p : PassState) (area : AreaView D) (sizes : Numbers) (handle : Option Handle) (running : Transaction) (keeps : IsCore (shown p area sizes handle running) handle) where
  shown_rests : IsSteady (shown p area sizes handle running)
  shown_rests = record {
    clear = keeps.has.clear;
    read = keeps.has.read;
    idle = λ none. none_there (mine p).held (λ b. not_held sizes p (taken_by handle) keeps.has b (by handle b none));
    root = λ b there. ⊎_elim
        (λ empty. absurd (nothing b there empty))
        (λ begun. root_held sizes p (taken_by handle) keeps.has (λ empty. true≢false (sym begun.0 ∙ ap (λ found. is_some (content_under found (root_block sizes))) empty)))
        keeps.has.begun;
    possible = λ b there. ⊎_elim
        (λ empty. absurd (nothing b there empty))
        (λ (begun : IsSome (content_under (taken_by handle) (root_block sizes)) × IsPartOfSome sizes (taken_by handle)). part_same sizes (entries_held (mine p)) (taken_by handle) (λ c. keeps.has.same c ∙ sym (held_under (mine p) c)) begun.1)
        keeps.has.begun;
    may = λ begun. keeps.may (open_is handle begun);
    runs = keeps.runs;
    journal = keeps.journal;
  }
    where
      nothing : (b : ℕ) → holds p b ≡ true → taken_by handle ≢ []
      nothing b there empty = true≢false (sym there ∙ ap is_some (not_held sizes p (taken_by handle) keeps.has b (ap (λ found. content_under found b) empty)))

      by : (handle : Option Handle) (b : ℕ) → option_map (λ (h : Handle). h.call) handle ≡ None → content_under (taken_by handle) b ≡ None
      by None b none = refl
      by (Some h) b none = absurd (none_some (sym none))

      open_is : (handle : Option Handle) → IsSome (option_map (λ (h : Handle). h.call) handle) → IsSome handle
      open_is None some = some
      open_is (Some h) some = refl

  pub core_rests : (c : CoreState D) → shown p area sizes handle running ≡ c → IsSteady c
  core_rests c is = subst (IsSteady {D = D}) is shown_rests

-- ---- its handle is dropped

module _ (sizes : Numbers) (p : PassState) (found : Entries) {follows : List ℕ} (has : HasTaken sizes p found follows) where
  all_given : (given_back (mine p) found).held ≡ finmap.empty
  all_given = none_there (given_back (mine p) found).held (λ b. given_get (mine p) found b ∙ by b (content_under found b) refl)
    where
      by : (b : ℕ) (o : Option (List ℕ)) → content_under found b ≡ o → cond (is_some o) None (finmap.get (mine p).held b) ≡ None
      by b (Some c) e = refl
      by b None e = not_held sizes p found has b e

  given_undrawn : (given_back (mine p) found).drawn ≡ false
  given_undrawn = by found all_given
    where
      by : (es : Entries) → (given_back (mine p) es).held ≡ finmap.empty → (given_back (mine p) es).drawn ≡ false
      by [] empty = has.clear
      by (e ∷ es) empty = given_clear (mine p) (e ∷ es) (λ none. absurd (cc)) empty

  pub given_all : given_back (mine p) found ≡ emptied (mine p)
  given_all = λ i. record {
    operations = given_operations (mine p) found i;
    held = all_given i;
    drawn = given_undrawn i;
    ticket = given_ticket (mine p) found i;
    number = given_number (mine p) found i;
  }

  pub dropped : (q : PassState) → q ≡ now_knowing p (given_back (mine p) found) → q ≡ now_knowing p (emptied (mine p))
  dropped q is = is ∙ ap (now_knowing p) given_all

-- a pass that holds nothing any more
pub empty_taken : (sizes : Numbers) (p q : PassState) (k : Known) → NoneNoted → q ≡ now_knowing p k → k.drawn ≡ false → k.held ≡ finmap.empty → HasTaken sizes q [] zero_bounds
empty_taken sizes p q k none_noted is clear empty = none_taken sizes q none_noted (has_now p q k is) (ap (λ (x : Known). x.drawn) (mine_is p q k is) ∙ clear) (ap (λ (x : Known). x.held) (mine_is p q k is) ∙ empty)

-- a core that holds nothing any more, and whose transaction runs
pub core_emptied : {D : Type 0} (m q : PassState) (area : AreaView D) (sizes : Numbers) (after : Option Handle) (running : Transaction) (k : Known) → NoneNoted → q ≡ now_knowing m k → k.drawn ≡ false → k.held ≡ finmap.empty → after ≡ None
    → Runs (shown q area sizes None running) → HasJournal (shown q area sizes None running) → IsCore (shown q area sizes after running) after
core_emptied {D} m q area sizes after running k none_noted is clear empty closed runs journal = subst (λ (o : Option Handle). IsCore {D = D} (shown q area sizes o running) o) (sym closed) (record {
  has = empty_taken sizes m q k none_noted is clear empty;
  may = λ some. absurd (true≢false (sym some));
  runs = runs;
  journal = journal;
})

pub core_dropped : {D : Type 0} (p q : PassState) (area : AreaView D) (sizes : Numbers) (handle after : Option Handle) (running : Transaction) → NoneNoted → IsCore (shown p area sizes handle running) handle → q ≡ now_knowing p (emptied (mine p)) → after ≡ None
    → IsCore (shown q area sizes after running) after
core_dropped p q area sizes handle after running none_noted keeps is closed =
    let core = ap (λ (x : PassState). x.core) is in
    core_emptied p q area sizes after running (emptied (mine p)) none_noted is refl refl closed
    (runs_on p q area sizes handle None running core (ap (λ (k : Known). k.operations) (mine_is p q (emptied (mine p)) is)) keeps.runs)
    (journal_on p q area sizes handle None running running core keeps.journal)

pub shows_dropped : {D : Type 0} (p q : PassState) (area : AreaView D) (sizes : Numbers) (handle after : Option Handle) (running : Transaction) (c : CoreState D) → shown p area sizes handle running ≡ c → q ≡ now_knowing p (emptied (mine p)) → after ≡ None
    → shown q area sizes after running ≡ record { pass = now_knowing c.pass (emptied (mine c.pass)); area = c.area; sizes = c.sizes; begun = None; running = c.running }
shows_dropped {D} p q area sizes handle after running c is drops closed =
    (λ i. shown (drops i) area sizes (closed i) running)
    ∙ ap (λ (x : CoreState D). record { pass = now_knowing x.pass (emptied (mine x.pass)); area = x.area; sizes = x.sizes; begun = None; running = x.running }) is

-- a handle that is open has taken what the core holds
pub has_opened : (sizes : Numbers) (p : PassState) (handle : Option Handle) (h : Handle) → Some h ≡ handle → HasTaken sizes p (taken_by handle) (noted_by handle) → HasTaken sizes p h.taken h.follows
has_opened sizes p handle h is has = subst (λ (o : Option Handle). HasTaken sizes p (taken_by o) (noted_by o)) (sym is) has

-- ---- its handle is stopped

pub core_stopped : {D : Type 0} (cache : CacheParameters) (p q : PassState) (area : AreaView D) (sizes : Numbers) (handle after : Option Handle) (old new : Transaction) (h : Handle) (done : Done) → NoneNoted → IsCore (shown p area sizes handle old) handle → Some h ≡ handle
    → Performed cache sizes old.number p q h.call done → IsOneMore old new → Joins sizes old new p q → after ≡ None → IsCore (shown q area sizes after new) after
core_stopped cache p q area sizes handle after old new h done none_noted keeps opened performed one joins closed =
    let core = ap (λ (x : PassState). x.core) performed.pass in
    core_emptied p q area sizes after new (with_operation (mine p) performed.operation) none_noted performed.pass refl refl closed
    (runs_joined p q area sizes handle None old new joins one core keeps.runs (keeps.may (subst (λ (o : Option Handle). IsSome o) opened refl)))
    (journal_on p q area sizes handle None old new core keeps.journal)
