-- How cores go on: the core at a place knows something else of itself, the others are as they were, and a history has what all did.
use Rattle.std.proofs.Common.{◌≡◌, ◌≢◌, inl, ℕ, ◌<◌, false, List, [], ◌∷◌, ◌++◌, get_or, length, Some, slice_get, sym, ap, ◌∙◌, subst}
use Rattle.std.specs.Ordering.{nat_cmp}
use Rattle.std.specs.FinMap as finmap
use Rattle.std.proofs.lemmas.Option.{slice_get-get_or, slice_get_within}
use mathlib.Core.Logic.{dite}
use native.Mathlib.Decide.{ℕ_discrete}
use Rattle.zj_history.specs.Operation.{Operation}
use Rattle.zj_layout.proofs.Follow.{none_some}
use Rattle.zj_layout.specs.Shows.{ShowsSome}
use Rattle.zj_turns.specs.CacheHistory.{IsCacheHistory, operations_on}
use Rattle.zj_turns.specs.Views.{Hold, Known}
use Rattle.zj_turns.specs.Passes.{CacheParameters, IsLoadedAfter, PassState, mine, now_knowing}
use Rattle.zj_turns.proofs.Single.{grows_by_one, told_by_cores}
use Rattle.zj_core.specs.Core.{CoreState, IsSteady}
use Rattle.zj_core.specs.Handle.{IsRead}
use Rattle.zj_core.specs.Steps.{Knows}
use Rattle.zj_session.specs.Service.{IsService}
use Rattle.zj_session.proofs.Lists.{at_all, at_seam}
use Rattle.zj_session.proofs.Views.{HasMet, known_then, met_mine, others_then}

-- What the core at a place knows of itself, and a history with what all did.
pub record HasDone {D : Type 0} (cache : CacheParameters) (old : List (CoreState D)) (at : ℕ) (k : Known) (later : List Operation) : Type 0 where
  pub legal : IsCacheHistory (ShowsSome cache.sizes) cache.cores cache.start later
  pub own : operations_on at later ≡ k.operations
  pub else : (i : ℕ) (c : CoreState D) → i ≢ at → slice_get old i ≡ Some c → operations_on i later ≡ (mine c.pass).operations
  pub own_loaded : (b : ℕ) (h : Hold) → finmap.get k.held b ≡ Some h → IsLoadedAfter cache.start later b h
  pub else_loaded : (i b : ℕ) (c : CoreState D) (h : Hold) → i ≢ at → slice_get old i ≡ Some c → finmap.get (mine c.pass).held b ≡ Some h → IsLoadedAfter cache.start later b h

module _ {D : Type 0} (cache : CacheParameters) (old : List (CoreState D)) (history : List Operation) (serving : IsService cache old history) (at : ℕ) (core : CoreState D) (at_place : slice_get old at ≡ Some core) where
  -- no operation was added, and what is held was held before
  pub done_same : (k : Known) → k.operations ≡ (mine core.pass).operations → ((b : ℕ) (h : Hold) → finmap.get k.held b ≡ Some h → finmap.get (mine core.pass).held b ≡ Some h) → HasDone cache old at k history
  done_same k same kept = record {
    legal = serving.has.legal;
    own = serving.has.operations at core at_place ∙ sym same;
    else = λ i c apart there. serving.has.operations i c there;
    own_loaded = λ b h held. serving.has.loaded at b core h at_place (kept b h held);
    else_loaded = λ i b c h apart there held. serving.has.loaded i b c h there held;
  }

  -- each core of the cache is at its place
  one_there : (i : ℕ) → i < cache.cores → slice_get old i ≡ Some (get_or old i core)
  one_there i low = slice_get-get_or old i core (subst (λ n. i < n) (sym serving.many) low)

  pub low_place : at < cache.cores
  low_place = subst (λ n. at < n) serving.many (slice_get_within old at core at_place)

  module _ (g : PassState) (met : HasMet old at g) (p : PassState) (k : Known) (is : p ≡ now_knowing g k) (knows : Knows cache p) where
    abbrev told : List Operation
    told = knows.history

    others_same : (i : ℕ) (c : CoreState D) → i ≢ at → slice_get old i ≡ Some c → operations_on i told ≡ (mine c.pass).operations
    others_same i c apart there = knows.operations i (mine c.pass) (others_then old at g met p k is i c apart there)

    own_same : operations_on at told ≡ k.operations
    own_same = knows.operations at k (known_then old at g met p k is)

    unchanged : (i : ℕ) → i < cache.cores → i ≢ at → operations_on i told ≡ operations_on i history
    unchanged i low apart = others_same i (get_or old i core) apart (one_there i low) ∙ sym (serving.has.operations i (get_or old i core) (one_there i low))

    others_loaded : (i b : ℕ) (c : CoreState D) (h : Hold) → i ≢ at → slice_get old i ≡ Some c → finmap.get (mine c.pass).held b ≡ Some h → IsLoadedAfter cache.start told b h
    others_loaded i b c h apart there held =
        let steady = at_all IsSteady old serving.steady i c there in
        knows.loaded i b (mine c.pass) h (others_then old at g met p k is i c apart there) held (inl steady.clear) (steady.read b h held).loaded

    -- blocks were taken: the history is as it was
    module _ (same : k.operations ≡ (mine g).operations) where
      told_same : told ≡ history
      told_same = told_by_cores cache.start cache.cores told history knows.legal.legal serving.has.legal.legal knows.legal.cores_fit serving.has.legal.cores_fit (λ i low. dite (ℕ_discrete i at)
          (λ is_at. ap (λ n. operations_on n told) is_at ∙ own_same ∙ same ∙ ap (λ (x : Known). x.operations) (met_mine old at g met core at_place) ∙ sym (serving.has.operations at core at_place) ∙ ap (λ n. operations_on n history) (sym is_at))
          (λ apart. unchanged i low apart))

      pub done_taken : k.drawn ≡ false → ((b : ℕ) (h : Hold) → finmap.get k.held b ≡ Some h → IsRead h) → HasDone cache old at k history
      done_taken clear read = subst (HasDone cache old at k) told_same (record {
        legal = knows.legal;
        own = own_same;
        else = others_same;
        own_loaded = λ b h held. knows.loaded at b k h (known_then old at g met p k is) held (inl clear) (read b h held).loaded;
        else_loaded = others_loaded;
      })

    -- an operation was added: the history has it behind
    module _ (o : Operation) (of_core : o.core ≡ at) (more : k.operations ≡ (mine g).operations ++ o ∷ []) where
      pub told_more : told ≡ history ++ o ∷ []
      told_more = grows_by_one cache.start cache.cores at history told o serving.has.legal.legal knows.legal.legal serving.has.legal.cores_fit knows.legal.cores_fit of_core low_place
          (own_same ∙ more ∙ ap (λ (x : Known). x.operations ++ o ∷ []) (met_mine old at g met core at_place) ∙ ap (λ l. l ++ o ∷ []) (sym (serving.has.operations at core at_place)))
          unchanged

      pub ticket_next : o.ticket ≡ length history
      ticket_next = (knows.legal.legal.each history [] o told_more).ticket

      pub told_place : slice_get told (length history) ≡ Some o
      told_place = ap (λ l. slice_get l (length history)) told_more ∙ at_seam history o

      pub done_drawn : k.held ≡ finmap.empty → HasDone cache old at k told
      done_drawn empty = record {
        legal = knows.legal;
        own = own_same;
        else = others_same;
        own_loaded = λ b h held. absurd (none_some (sym (ap (λ m. finmap.get m b) empty ∙ finmap.get-empty {X = Hold} nat_cmp b) ∙ held));
        else_loaded = others_loaded;
      }
