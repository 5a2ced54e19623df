-- Cores of which each handle that was open is dropped: they serve calls still, and no handle is open.
use Rattle.std.proofs.Common.{◌≡◌, ◌≢◌, ⊎_elim, ℕ, ◌+◌, ◌<◌, ◌≤◌, true, false, true≢false, is_some, List, [], ◌∷◌, ◌++◌, length, map, take, drop, get_or, set, add-one, Option, Some, None, slice_get, refl, sym, ap, ◌∙◌, subst}
use Rattle.std.specs.FinMap as finmap
use Rattle.std.specs.Ordering.{nat_cmp}
use Rattle.std.specs.List.{All}
use Rattle.std.proofs.lemmas.List.{length-map}
use Rattle.std.proofs.lemmas.Option.{slice_get-map}
use Rattle.zj_history.specs.Operation.{Operation}
use Rattle.zj_history.specs.Transactions.{operations_of}
use Rattle.zj_tx.specs.Running.{Keeps}
use Rattle.zj_layout.proofs.Follow.{none_some}
use Rattle.zj_tree.specs.declared.call.Call.{Call}
use Rattle.zj_turns.specs.CacheHistory.{operations_on}
use Rattle.zj_turns.specs.Views.{Hold, Known}
use Rattle.zj_turns.specs.Passes.{CacheParameters, holds, mine, now_knowing}
use Rattle.zj_core.specs.Core.{CoreState, HasJournal, IsOf, IsSteady, Runs}
use Rattle.zj_core.specs.Handle.{root_block}
use Rattle.zj_core.specs.Steps.{emptied}
use Rattle.zj_core.proofs.Knowing.{knowing_same, mine_now}
use Rattle.zj_session.specs.Answering.{IsLeftOff, without_handle}
use Rattle.zj_session.specs.Playing.{AreIdle, AreResting, journals_of, rested, resting}
use Rattle.zj_session.specs.Service.{AreTogether, IsService}
use Rattle.zj_session.proofs.Alone.{knows_own}
use Rattle.zj_session.proofs.Lists.{all_at, at_all, mapped_here, mapped_next, mapped_some, pairs_at}
use Rattle.zj_session.proofs.Onward.{IsLone, WentOn, at_pairs, map_set, went_core, went_lone, went_of, went_off}

-- ---- one core

-- by the handle that is open, if one is
pub by_begun : {D : Type 0} (c : CoreState D) (P : CoreState D → Type 0) → (c.begun ≡ None → P c) → ((call : Call) → c.begun ≡ Some call → P (without_handle c)) → P (resting c)
by_begun {D} c P none some = by c.begun refl
  where
    by : (o : Option Call) → c.begun ≡ o → P (rested c o)
    by None is = none is
    by (Some call) is = some call is

-- and by what tells whether one is
pub rest_open : {D : Type 0} (c : CoreState D) → is_some c.begun ≡ true → without_handle c ≡ resting c
rest_open c some = by_begun c (λ r. without_handle c ≡ r) (λ is. absurd (true≢false (sym some ∙ ap is_some is))) (λ call is. refl)

pub rest_closed : {D : Type 0} (c : CoreState D) → is_some c.begun ≡ false → resting c ≡ c
rest_closed c none = by_begun c (λ r. r ≡ c) (λ is. refl) (λ call is. absurd (true≢false (ap is_some (sym is) ∙ none)))

module _ {D : Type 0} (c : CoreState D) where
  pub idle_rest : (resting c).begun ≡ None
  idle_rest = by_begun c (λ r. r.begun ≡ None) (λ is. is) (λ call is. refl)

  pub area_rest : (resting c).area ≡ c.area
  area_rest = by_begun c (λ r. r.area ≡ c.area) (λ is. refl) (λ call is. refl)

  module _ (lone : IsLone c.pass) where
    pub went_rest : WentOn c (resting c)
    went_rest = by_begun c (WentOn c)
        (λ is. record { known = mine c.pass; pass = sym (knowing_same c.pass (knows_own c.pass lone)); sizes = refl })
        (λ call is. went_off c)

    module _ (steady : IsSteady c) where
      pub operations_rest : (mine (resting c).pass).operations ≡ (mine c.pass).operations
      operations_rest = by_begun c (λ r. (mine r.pass).operations ≡ (mine c.pass).operations) (λ is. refl)
          (λ call is. ap (λ (k : Known). k.operations) (mine_now c.pass (emptied (mine c.pass))))

      pub held_rest : (mine (resting c).pass).held ≡ finmap.empty
      held_rest = by_begun c (λ r. (mine r.pass).held ≡ finmap.empty) steady.idle
          (λ call is. ap (λ (k : Known). k.held) (mine_now c.pass (emptied (mine c.pass))))

      clear_rest : (mine (resting c).pass).drawn ≡ false
      clear_rest = by_begun c (λ r. (mine r.pass).drawn ≡ false) (λ is. steady.clear)
          (λ call is. ap (λ (k : Known). k.drawn) (mine_now c.pass (emptied (mine c.pass))))

      none_there : (b : ℕ) → finmap.get (mine (resting c).pass).held b ≡ None
      none_there b = ap (λ (m : finmap.FinMap nat_cmp Hold). finmap.get m b) held_rest ∙ finmap.get-empty {X = Hold} nat_cmp b

      pub none_rest : (b : ℕ) → holds (resting c).pass b ≡ true → ⊥
      none_rest b held = true≢false (sym held ∙ ap is_some (none_there b))

      pub not_loaded : (b : ℕ) (h : Hold) → finmap.get (mine (resting c).pass).held b ≡ Some h → ⊥
      not_loaded b h held = none_some (sym (none_there b) ∙ held)

      -- the running transaction keeps what it kept, and the journal is as it was
      runs_rest : Runs (resting c)
      runs_rest = by_begun c (λ r. Runs r) (λ is. steady.runs) (λ call is. let same = sym (ap (λ (k : Known). k.operations) (mine_now c.pass (emptied (mine c.pass)))) in record {
        core = steady.runs.core;
        cores = steady.runs.cores;
        keeps = subst (λ operations. Keeps (operations_of operations (record { core = c.pass.core; number = c.running.number })) c.running) same steady.runs.keeps;
        none_later = subst (All (λ o. (o.core ≡ c.pass.core) × (o.number ≤ c.running.number))) same steady.runs.none_later;
        ascending = steady.runs.ascending;
        blocks = steady.runs.blocks;
        within = steady.runs.within;
        number = steady.runs.number;
        fits = steady.runs.fits;
        over = steady.runs.over;
      })

      journal_rest : HasJournal (resting c)
      journal_rest = by_begun c (λ r. HasJournal r) (λ is. steady.journal) (λ call is. record { core = steady.journal.core; sizes_are = steady.journal.sizes_are; ready = steady.journal.ready; empty = steady.journal.empty })

      pub steady_rest : IsSteady (resting c)
      steady_rest = record {
        may = λ some. absurd (true≢false (sym some ∙ ap is_some idle_rest));
        runs = runs_rest;
        journal = journal_rest;
        clear = clear_rest;
        read = λ b h held. absurd (not_loaded b h held);
        idle = λ is. held_rest;
        root = λ b held. absurd (none_rest b held);
        possible = λ b held. absurd (none_rest b held);
      }

      -- dropping twice is dropping once
      pub rest_twice : resting (without_handle c) ≡ resting c
      rest_twice = by_begun c (λ r. without_handle c ≡ r)
          (λ is i. record c {
            pass = (ap (now_knowing c.pass) (same is) ∙ knowing_same c.pass (knows_own c.pass lone)) i;
            begun = sym is i;
          })
          (λ call is. refl)
        where
          same : c.begun ≡ None → emptied (mine c.pass) ≡ mine c.pass
          same is = λ i. record (mine c.pass) { held = sym (steady.idle is) i; drawn = sym steady.clear i }

-- ---- all cores

module _ {D : Type 0} (cores : List (CoreState D)) where
  abbrev pub all_rest : List (CoreState D)
  all_rest = map resting cores

  pub each_rest : (P : ℕ → CoreState D → Type 0) → ((i : ℕ) (c : CoreState D) → slice_get cores i ≡ Some c → P i (resting c)) → (i : ℕ) (r : CoreState D) → slice_get all_rest i ≡ Some r → P i r
  each_rest P each i r there =
      let was = mapped_some (resting {D = D}) (slice_get cores i) r (sym (slice_get-map (resting {D = D}) cores i) ∙ there) in
      subst (P i) was.2 (each i was.0 was.1)

  pub are_idle : AreIdle all_rest
  are_idle = all_at (λ (c : CoreState D). c.begun ≡ None) all_rest (each_rest (λ _ r. r.begun ≡ None) (λ i c there. idle_rest c))

pub same_journals : {D : Type 0} (cores : List (CoreState D)) → journals_of (map resting cores) ≡ journals_of cores
same_journals [] = refl
same_journals (c ∷ cores) = λ i. area_rest c i ∷ same_journals cores i

-- one core more is dropped, of those that were so far
pub rest_next : {D : Type 0} (cores now next : List (CoreState D)) (i : ℕ) (d new : CoreState D) → i < length cores → now ≡ map resting (take i cores) ++ drop i cores
    → new ≡ resting (get_or now i d) → next ≡ set now i new → next ≡ map resting (take (i + 1) cores) ++ drop (i + 1) cores
rest_next {D} cores now next i d new low so_far new_is next_is =
    next_is
    ∙ ap (λ l. set l i new) so_far
    ∙ ap (set (map resting (take i cores) ++ drop i cores) i) (new_is ∙ ap (resting {D = D}) (ap (λ l. get_or l i d) so_far ∙ mapped_here (resting {D = D}) cores i d low))
    ∙ mapped_next (resting {D = D}) cores i d low
    ∙ ap (λ n. map (resting {D = D}) (take n cores) ++ drop n cores) (sym (add-one i))

module _ {D : Type 0} (cache : CacheParameters) (cores : List (CoreState D)) (together : AreTogether cache cores) where
  abbrev Lone : CoreState D → Type 0
  Lone c = IsLone c.pass

  abbrev Apart : CoreState D → CoreState D → Type 0
  Apart c d = c.pass.core ≢ d.pass.core

  pub lone_at : (i : ℕ) (c : CoreState D) → slice_get cores i ≡ Some c → IsLone c.pass
  lone_at i c there = at_all Lone cores together.alone i c there

  pub together_rest : AreTogether cache (all_rest cores)
  together_rest = record {
    of = all_at (IsOf cache) (all_rest cores) (each_rest cores (λ _ r. IsOf cache r) (λ i c there. went_of c (resting c) (went_rest c (lone_at i c there)) cache (at_all (IsOf cache) cores together.of i c there)));
    alone = all_at Lone (all_rest cores) (each_rest cores (λ _ r. Lone r) (λ i c there. went_lone c (resting c) (went_rest c (lone_at i c there)) (lone_at i c there)));
    apart = pairs_at Apart (all_rest cores) (λ i j c d lower here there.
        each_rest cores (λ i c. i < j → Apart c d)
        (λ i b at. each_rest cores (λ j d. i < j → Apart (resting b) d)
        (λ j e under below same. at_pairs Apart cores together.apart i j b e below at under (sym (went_core b (resting b) (went_rest b (lone_at i b at))) ∙ same ∙ went_core e (resting e) (went_rest e (lone_at j e under))))
        j d there)
        i c here lower);
  }

  -- a line that ran out of memory left a handle dropped at most
  pub rest_off : (new : List (CoreState D)) (at : ℕ) → All IsSteady cores → IsLeftOff cores new at → map resting new ≡ map resting cores
  rest_off new at steady off = ⊎_elim
      (λ same. ap (map (resting {D = D})) same)
      (λ dropped. ap (map (resting {D = D})) dropped.2
      ∙ map_set (resting {D = D}) cores at dropped.0 (without_handle dropped.0) dropped.1 (rest_twice dropped.0 (lone_at at dropped.0 dropped.1) (at_all IsSteady cores steady at dropped.0 dropped.1)))
      off

-- and so they rest between two schedules
pub at_rest : {D : Type 0} (cache : CacheParameters) (last whole : List (CoreState D)) → whole ≡ map resting last → AreTogether cache last → AreResting cache whole
at_rest cache last whole is together = subst (AreResting cache) (sym is) (record { together = together_rest cache last together; idle = are_idle last })

-- they serve calls still
pub rest_serves : {D : Type 0} (cache : CacheParameters) (cores : List (CoreState D)) (history : List Operation) → IsService cache cores history → IsService cache (map resting cores) history
rest_serves {D} cache cores history serving = record {
  together = together_rest cache cores serving.together;
  many = length-map cores (resting {D = D}) ∙ serving.many;
  as_sizes = serving.as_sizes;
  numbered = each_rest cores (λ i r. r.pass.core ≡ i) (λ i c there. went_core c (resting c) (went_rest c (lone i c there)) ∙ serving.numbered i c there);
  steady = all_at IsSteady (map resting cores) (each_rest cores (λ _ r. IsSteady r) (λ i c there. steady_rest c (lone i c there) (steady i c there)));
  one_root = λ i j c d here there own other. absurd (each_rest cores (λ _ r. holds r.pass (root_block cache.sizes) ≡ true → ⊥) (λ i c at. none_rest c (lone i c at) (steady i c at) (root_block cache.sizes)) i c here own);
  has = record {
    legal = serving.has.legal;
    operations = each_rest cores (λ i r. operations_on i history ≡ (mine r.pass).operations) (λ i c there. serving.has.operations i c there ∙ sym (operations_rest c (lone i c there) (steady i c there)));
    loaded = λ i b c h there held. absurd (each_rest cores (λ _ r. finmap.get (mine r.pass).held b ≡ Some h → ⊥) (λ i c at. not_loaded c (lone i c at) (steady i c at) b h) i c there held);
  };
}
  where
    lone : (i : ℕ) (c : CoreState D) → slice_get cores i ≡ Some c → IsLone c.pass
    lone = lone_at cache cores serving.together

    steady : (i : ℕ) (c : CoreState D) → slice_get cores i ≡ Some c → IsSteady c
    steady i c there = at_all IsSteady cores serving.steady i c there
