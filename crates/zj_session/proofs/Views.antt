-- What a core knows that has met all others, and what it knows once it went on.
use Rattle.std.proofs.Common.{◌≡◌, ◌≢◌, ◌⊎◌, inl, inr, ⊎_elim, ℕ, zero, suc, List, [], ◌∷◌, ◌++◌, take, drop, unwrap_or, option_map, Option, Some, slice_get, add-one, refl, sym, ap, ◌∙◌, subst}
use Rattle.std.proofs.lemmas.Option.{slice_get-map}
use Rattle.std.specs.Ordering.{nat_cmp}
use Rattle.std.specs.FinMap as finmap
use mathlib.Core.Logic.{dite}
use native.Mathlib.Decide.{ℕ_discrete}
use Rattle.zj_layout.proofs.Follow.{none_some, some_is}
use Rattle.zj_history.specs.Operation.{Operation}
use Rattle.zj_turns.specs.Views.{Known, View, alone, blank, joined, known_in}
use Rattle.zj_turns.specs.Passes.{CacheParameters, PassState, holds, mine, now_knowing, with_view}
use Rattle.zj_turns.proofs.Maps.{get_else, get_here}
use Rattle.zj_turns.proofs.Seats.{known_of}
use Rattle.zj_core.specs.Core.{CoreState}
use Rattle.zj_session.specs.Answering.{met_all, others_than}
use Rattle.zj_session.specs.Gathering.{gathered, passes_of}
use Rattle.zj_session.specs.Service.{IsService}
use Rattle.zj_session.proofs.Lists.{at_all, in_other, mapped_some, other_in}

-- ---- gathering

-- a pass is one of a list, and of this core
abbrev IsAmong : List PassState → ℕ → Type 0
IsAmong qs i = (j : ℕ) × (q : PassState) × (slice_get qs j ≡ Some q) × (q.core ≡ i)

-- A pass that gathers what others know of their cores knows of a core what there is to know, where it knew that before or one of the
-- others is of the core.
gathered_at : (know : ℕ → Known) (p : PassState) (qs : List PassState)
    → ((j : ℕ) (q : PassState) → slice_get qs j ≡ Some q → (q.view.own ≡ q.core) × (mine q ≡ know q.core))
    → (i : ℕ) → (finmap.get p.view.known i ≡ Some (know i)) ⊎ IsAmong qs i → finmap.get (gathered p qs).view.known i ≡ Some (know i)
gathered_at know p [] each i (inl there) = there
gathered_at know p [] each i (inr among) = absurd (none_some among.2)
gathered_at know p (q ∷ qs) each i there = gathered_at know (with_view p (joined p.view q.view)) qs (λ j r at. each (suc j) r at) i (by (each 0 q refl).0 (each 0 q refl).1)
  where
    own : q.view.own ≡ q.core → finmap.get (joined p.view q.view).known i ≡ finmap.get (finmap.insert p.view.known q.core (mine q)) i
    own is = ap (λ o. finmap.get (finmap.insert p.view.known o (known_in q.view o)) i) is

    later : i ≢ q.core → IsAmong (q ∷ qs) i → IsAmong qs i
    later apart (zero, r, at, of) = absurd (apart (sym of ∙ ap (λ (x : PassState). x.core) (sym (some_is at))))
    later apart (suc j, r, at, of) = (j, r, at, of)

    by : q.view.own ≡ q.core → mine q ≡ know q.core → (finmap.get (joined p.view q.view).known i ≡ Some (know i)) ⊎ IsAmong qs i
    by is knows = dite (ℕ_discrete i q.core)
        (λ same. inl (own is ∙ ap (finmap.get (finmap.insert p.view.known q.core (mine q))) same ∙ get_here p.view.known q.core (mine q) ∙ ap Some (knows ∙ ap know (sym same))))
        (λ apart. ⊎_elim (λ before. inl (own is ∙ get_else p.view.known q.core i (mine q) apart ∙ before)) (λ among. inr (later apart among)) there)

gathered_core : (p : PassState) (qs : List PassState) → (gathered p qs).core ≡ p.core
gathered_core p [] = refl
gathered_core p (q ∷ qs) = gathered_core (with_view p (joined p.view q.view)) qs

-- ---- a core that has met all

-- A pass of the core at a place knows of each core what that knows of itself.
pub record HasMet {D : Type 0} (cores : List (CoreState D)) (at : ℕ) (g : PassState) : Type 0 where
  pub core : g.core ≡ at
  pub each : (i : ℕ) (c : CoreState D) → slice_get cores i ≡ Some c → finmap.get g.view.known i ≡ Some (mine c.pass)

module _ {D : Type 0} (cache : CacheParameters) (cores : List (CoreState D)) (history : List Operation) (serving : IsService cache cores history) (at : ℕ) (core : CoreState D) (at_place : slice_get cores at ≡ Some core) where
  -- what there is to know of a core
  known_at : ℕ → Known
  known_at i = unwrap_or (option_map (λ (c : CoreState D). mine c.pass) (slice_get cores i)) blank

  known_is : (i : ℕ) (c : CoreState D) → slice_get cores i ≡ Some c → known_at i ≡ mine c.pass
  unfolding known_at
  known_is i c there = ap (λ (o : Option (CoreState D)). unwrap_or (option_map (λ (x : CoreState D). mine x.pass) o) blank) there

  -- a core's pass is of its place, and knows of that alone
  lone_view : (i : ℕ) (c : CoreState D) → slice_get cores i ≡ Some c → c.pass.view ≡ alone c.pass.view c.pass.core
  lone_view i c there = at_all (λ (c : CoreState D). c.pass.view ≡ alone c.pass.view c.pass.core) cores serving.together.alone i c there

  own_known : finmap.get core.pass.view.known at ≡ Some (mine core.pass)
  own_known = ap (λ (v : View). finmap.get v.known at) (lone_view at core at_place)
      ∙ ap (finmap.get {X = Known} {R = nat_cmp} (finmap.insert finmap.empty core.pass.core (mine core.pass))) (sym (serving.numbered at core at_place))
      ∙ get_here finmap.empty core.pass.core (mine core.pass)

  one_of : (j : ℕ) (q : PassState) → slice_get (passes_of (others_than at cores)) j ≡ Some q → (q.view.own ≡ q.core) × (mine q ≡ known_at q.core)
  one_of j q there =
      let was = mapped_some (λ (c : CoreState D). c.pass) (slice_get (others_than at cores) j) q (sym (slice_get-map (λ (c : CoreState D). c.pass) (others_than at cores) j) ∙ there) in
      let place = in_other cores at j was.0 (ap (λ n. slice_get (take at cores ++ drop n cores) j) (sym (add-one at)) ∙ was.1) in
      subst (λ (x : PassState). (x.view.own ≡ x.core) × (mine x ≡ known_at x.core)) was.2
      (ap (λ (v : View). v.own) (lone_view place.0 was.0 place.1), sym (ap known_at (serving.numbered place.0 was.0 place.1) ∙ known_is place.0 was.0 place.1))

  among : (i : ℕ) (c : CoreState D) → slice_get cores i ≡ Some c → i ≢ at → IsAmong (passes_of (others_than at cores)) i
  among i c there apart =
      let place = other_in cores at i c there apart in
      (place.0, c.pass, slice_get-map (λ (x : CoreState D). x.pass) (others_than at cores) place.0 ∙ ap (option_map (λ (x : CoreState D). x.pass)) (ap (λ n. slice_get (take at cores ++ drop n cores) place.0) (add-one at) ∙ place.1), serving.numbered i c there)

  pub has_met : HasMet cores at (met_all at cores core).pass
  has_met = record {
    core = gathered_core core.pass (passes_of (others_than at cores)) ∙ serving.numbered at core at_place;
    each = λ i c there. gathered_at known_at core.pass (passes_of (others_than at cores)) one_of i (dite (ℕ_discrete i at)
        (λ same. inl (ap (finmap.get core.pass.view.known) same ∙ own_known ∙ ap Some (sym (ap known_at same ∙ known_is at core at_place))))
        (λ apart. inr (among i c there apart))) ∙ ap Some (known_is i c there);
  }

-- ---- and goes on

module _ {D : Type 0} (cores : List (CoreState D)) (at : ℕ) (g : PassState) (met : HasMet cores at g) where
  pub met_mine : (core : CoreState D) → slice_get cores at ≡ Some core → mine g ≡ mine core.pass
  met_mine core at_place = known_of g.view g.core (mine core.pass) (ap (finmap.get g.view.known) met.core ∙ met.each at core at_place)

  pub met_holds : (core : CoreState D) → slice_get cores at ≡ Some core → (b : ℕ) → holds g b ≡ holds core.pass b
  met_holds core at_place b = ap (λ (k : Known). finmap.contains_key k.held b) (met_mine core at_place)

  module _ (p : PassState) (k : Known) (is : p ≡ now_knowing g k) where
    pub core_then : p.core ≡ at
    core_then = ap (λ (x : PassState). x.core) is ∙ met.core

    pub known_then : finmap.get p.view.known at ≡ Some k
    known_then = ap (λ (x : PassState). finmap.get x.view.known at) is ∙ ap (λ n. finmap.get (finmap.insert g.view.known g.core k) n) (sym met.core) ∙ get_here g.view.known g.core k

    pub others_then : (i : ℕ) (c : CoreState D) → i ≢ at → slice_get cores i ≡ Some c → finmap.get p.view.known i ≡ Some (mine c.pass)
    others_then i c apart there = ap (λ (x : PassState). finmap.get x.view.known i) is ∙ get_else g.view.known g.core i k (λ same. apart (same ∙ met.core)) ∙ met.each i c there
