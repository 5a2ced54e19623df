-- What was done before the first schedule: nothing, over journals that are at rest with no record.
use Rattle.std.proofs.Common.{◌≡◌, ℕ, ◌+◌, ◌<◌, ◌≤◌, Bool, true, false, true≢false, cond, List, [], ◌∷◌, length, map, IfSome, option_map, get_or, Option, Some, None, slice_get, slice_index, slice_index_or, refl, sym, ap, ◌∙◌, subst, arith, length-append}
use Rattle.std.proofs.lemmas.List.{length-map}
use Rattle.std.proofs.lemmas.Option.{get_or_from_slice_get, slice_get-map}
use Rattle.zj_area.specs.Journal.{AreaView, IsJournal, journal_of, IsAtRest as IsJournalAtRest}
use Rattle.zj_area.specs.Ring.{Holds}
use Rattle.zj_area.proofs.Commits.{of_settled}
use Rattle.zj_block.specs.Numbers.{zero_tail}
use Rattle.zj_block.specs.Sizes.{Numbers}
use Rattle.zj_block.specs.declared.numbers.Tail.{Tail}
use Rattle.zj_closure.specs.Found.{Journals, records_of, tail_of}
use Rattle.zj_dev.specs.Disk.{DiskView}
use Rattle.zj_history.specs.Operation.{Operation}
use Rattle.zj_history.specs.Transactions.{AreNumbered, Bounds}
use Rattle.zj_layout.proofs.Follow.{none_some}
use Rattle.zj_tx.specs.Record.{Record}
use Rattle.zj_tx.specs.Running.{Transaction}
use Rattle.zj_turns.specs.Passes.{CacheParameters}
use Rattle.zj_core.specs.Core.{CoreState, IsReadyToCommit}
use Rattle.zj_session.specs.Crashes.{AreLogged, HasLogged, HoldsFirst, KeepsRecords, StandAsTold}
use Rattle.zj_session.specs.Logging.{tail_at}
use Rattle.zj_session.specs.Playing.{AreJournals, HasPast, journals_of}
use Rattle.zj_session.specs.Service.{IsService}
use Rattle.zj_session.specs.Starting.{AreFresh, RestWithNone, past_of}
use Rattle.zj_session.proofs.Fresh.{area_at, own_at}

-- what a list has at a place, of values that are made of others
module _ {X Y : Type 0} (f : X → Y) where
  pub made_at : (xs : List X) (i : ℕ) (x : X) (other : Y) → slice_get xs i ≡ Some x → slice_index_or (map f xs) i other ≡ f x
  made_at xs i x other at = get_or_from_slice_get (map f xs) i (f x) other (slice_get-map f xs i ∙ ap (option_map f) at)

-- no history is numbered
none_numbered : (first : Bounds) → AreNumbered first []
none_numbered first = record { each = λ before later o is. absurd (let long = ap length is ∙ length-append before (o ∷ later) in omega arith) }

module _ {D : Type 0} (view : D → DiskView) (cache : CacheParameters) (sizes : Numbers) (cores : List (CoreState D)) (areas : List (AreaView D)) (all : journals_of cores ≡ areas)
    (fresh : AreFresh cache sizes cores) (own : AreJournals sizes (journals_of cores)) (rest : RestWithNone view areas) where
  abbrev tails : List Tail
  tails = map (λ area. area.tail) areas

  abbrev from : List ℕ
  from = map (λ area. (view area.device).calls) areas

  abbrev sealed : Journals
  sealed = map (λ area. []) areas

  module _ (i : ℕ) (c : CoreState D) (at : slice_get cores i ≡ Some c) where
    there : slice_get areas i ≡ Some c.area
    there = ap (λ l. slice_get l i) (sym all) ∙ area_at cores i c at

    rests : IsJournalAtRest (journal_of view c.area) [] × (c.area.end ≡ c.area.tail)
    rests = rest i c.area there

    tail_is : tail_at tails i ≡ c.area.tail
    tail_is = made_at (λ (area : AreaView D). area.tail) areas i c.area zero_tail there

    from_is : slice_index from i ≡ (view c.area.device).calls
    from_is = made_at (λ (area : AreaView D). (view area.device).calls) areas i c.area 0 there

    none_is : records_of sealed i ≡ []
    none_is = made_at (λ (area : AreaView D). []) areas i c.area [] there

    number_is : c.running.number ≡ c.area.tail.number
    number_is = ap (λ (t : Transaction). t.number) (fresh i c at).running ∙ ap (λ (t : Tail). t.number) rests.1

    sound : c.area.failed ≡ false
    sound = (own_at cores sizes own i c at).2.sound

    keeps : KeepsRecords (view c.area.device).calls (journal_of view c.area) []
    keeps = record {
      commits = 0;
      sealed = let none : cond {A = ℕ} c.area.failed 1 0 ≡ 0 = ap (λ (b : Bool). cond {A = ℕ} b 1 0) sound in omega (arith, none);
      images = λ moment image low high may. (0, record { within = omega arith; end = c.area.end; holds = held image (subst (λ m. (view c.area.device).may_leave m image ≡ true) (let now : moment ≡ (view c.area.device).calls = omega arith in now) may) }, λ n none made. none);
      made = omega arith;
      at_most = omega arith;
      at_rest = λ _. rests.0;
      end = λ _. rests.1;
    }
      where
        held : (image : List ℕ) → (view c.area.device).may_leave (view c.area.device).calls image ≡ true → Holds c.area.sizes c.area.core image c.area.tail [] c.area.end
        held image may = (of_settled (λ bytes. IsJournal c.area.sizes c.area.core bytes c.area.tail [] c.area.end) (view c.area.device) rests.0.settled rests.0.journal image may).holds

    logged : HasLogged view (slice_index from i) tails i c [] (records_of sealed i)
    logged = subst (λ (x : ℕ × List Record). HasLogged view x.0 tails i c [] x.1) (λ j. (sym from_is j, sym none_is j)) (record {
      tail = sym tail_is;
      keeps = keeps;
      sealed = record { each = λ k r none. absurd (none_some none) };
      number = let is = number_is in omega arith;
      next = record { begins = λ _. number_is ∙ ap (λ (t : Tail). t.number) (sym tail_is); goes_on = λ last none. absurd (none_some none) };
    })

  pub fresh_logged : AreLogged view from tails cores [] sealed
  fresh_logged = record {
    numbered = none_numbered (tail_of tails);
    many = length-map areas (λ (area : AreaView D). []) ∙ ap length (sym all) ∙ length-map cores (λ (c : CoreState D). c.area);
    each = logged;
  }

  pub fresh_stand : StandAsTold (past_of view areas).standing [] cores
  fresh_stand i c at = record {
    failed = sound i c at;
    number = λ _. let is = number_is i c at in let tail = ap (λ (t : Tail). t.number) (tail_is i c at) in omega arith;
    behind = λ failed. absurd (true≢false (sym failed ∙ sound i c at));
  }

  pub fresh_past : IsService cache cores [] → HasPast view (record { cache = cache; cores = cores }) (past_of view areas)
  fresh_past serves = record { serves = serves; logged = fresh_logged; stand = fresh_stand }
