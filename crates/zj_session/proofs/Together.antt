-- A core among all cores: what it knows once it has met the others, and once it has parted from them.
use Rattle.std.proofs.Common.{◌≡◌, ◌≢◌, ◌-◌, true, false, true≢false, List, ◌∷◌, ◌++◌, length, map, get_or, sym, ap, ◌∙◌, subst, All, Option, unwrap_or}
use Rattle.std.specs.FinMap as finmap
use Rattle.std.proofs.lemmas.List.{map-append}
use Rattle.std.proofs.lemmas.List.Elements.{All-append, All-head, All-map, All-tail}
use Rattle.zj_turns.specs.Views.{Has, Known, View, alone, blank, knowing}
use Rattle.zj_turns.specs.Passes.{CacheParameters, IsPeer, PassState, left_of, mine, now_knowing, with_away, with_view}
use Rattle.zj_turns.proofs.Maps.{get_else}
use Rattle.zj_core.specs.Core.{CoreState, IsOf}
use Rattle.zj_session.specs.Answering.{OnlyOwn}
use Rattle.zj_session.specs.Gathering.{ArePeers, core_away, gathered, passes_of, released}
use Rattle.zj_session.specs.Service.{AreTogether}
use Rattle.zj_session.proofs.Seen.{all_back, all_front, gathered_append, gathered_is, joining, joining_aside, pairs_across, pairs_back, pairs_front, pairs_head, pairs_mapped, pairs_tail, parting, parting_aside, released_append, released_is, seen, seen_aside}
use Rattle.zj_session.proofs.Moving.{Differ, of_seen}
use Rattle.zj_session.proofs.Alone.{AreOwn, NoneOf, alone_again, away_all, home_again, knows_own, none_of_away, own_away, passes_away, peers_at_hand, peers_stay}

module _ {D : Type 0} (cache : CacheParameters) (front back : List (CoreState D)) (core : CoreState D) (together : AreTogether cache (front ++ core ∷ back)) where
  of_front : All (IsOf cache) front
  of_front = all_front (IsOf cache) front (core ∷ back) together.of

  pub of_core : IsOf cache core
  of_core = All-head (IsOf cache) core back (all_back (IsOf cache) front (core ∷ back) together.of)

  of_back : All (IsOf cache) back
  of_back = All-tail (IsOf cache) core back (all_back (IsOf cache) front (core ∷ back) together.of)

  abbrev pub IsLone : CoreState D → Type 0
  IsLone c = c.pass.view ≡ alone c.pass.view c.pass.core

  pub lone_core : IsLone core
  lone_core = All-head IsLone core back (all_back IsLone front (core ∷ back) together.alone)

  apart_front : All (λ c. c.pass.core ≢ core.pass.core) front
  apart_front k d below = All-head (Differ (get_or front k d)) core back (pairs_across Differ front (core ∷ back) together.apart k d below)

  apart_back : All (λ c. c.pass.core ≢ core.pass.core) back
  apart_back k d below e = pairs_head Differ core back (pairs_back Differ front (core ∷ back) together.apart) k d below (sym e)

  one_peer : (c : CoreState D) → IsOf cache c → IsLone c → c.pass.core ≢ core.pass.core → IsPeer core.pass c.pass false
  one_peer c of lone apart = record {
    table = of.active.table ∙ sym of_core.active.table;
    apart = apart;
    alone = lone;
    away_is = of.active.not_away;
    known = λ is. absurd (true≢false (sym is));
  }

  -- the others before and behind it are peers
  pub front_peers : ArePeers core.pass (passes_of front) false
  front_peers = record {
    each = All-map (λ q. IsPeer core.pass q false) (λ (c : CoreState D). c.pass) front
        (λ k d below. one_peer (get_or front k d) (of_front k d below) (all_front IsLone front (core ∷ back) together.alone k d below) (apart_front k d below));
    apart = pairs_mapped (λ (q r : PassState). q.core ≢ r.core) (λ (c : CoreState D). c.pass) front (pairs_front Differ front (core ∷ back) together.apart);
  }

  pub back_peers : ArePeers core.pass (passes_of back) false
  back_peers = record {
    each = All-map (λ q. IsPeer core.pass q false) (λ (c : CoreState D). c.pass) back
        (λ k d below. one_peer (get_or back k d) (of_back k d below) (All-tail IsLone core back (all_back IsLone front (core ∷ back) together.alone) k d below) (apart_back k d below));
    apart = pairs_mapped (λ (q r : PassState). q.core ≢ r.core) (λ (c : CoreState D). c.pass) back (pairs_tail Differ core back (pairs_back Differ front (core ∷ back) together.apart));
  }

  -- the others as they were, once they are at hand again
  pub front_home : (front₁ front₂ : List (CoreState D)) → front₁ ≡ map (core_away true) front → front₂ ≡ map (core_away false) front₁ → front₂ ≡ front
  front_home front₁ front₂ away home = home ∙ ap (map (core_away false)) away ∙ home_again front (λ k d below. (of_front k d below).active.not_away)

  pub back_home : (back₁ back₂ : List (CoreState D)) → back₁ ≡ map (core_away true) back → back₂ ≡ map (core_away false) back₁ → back₂ ≡ back
  back_home back₁ back₂ away home = home ∙ ap (map (core_away false)) away ∙ home_again back (λ k d below. (of_back k d below).active.not_away)

  -- the others' passes
  abbrev pub others : List PassState
  others = passes_of (front ++ back)

  own_at : (c : CoreState D) → IsLone c → c.pass.view.own ≡ c.pass.core
  own_at c lone = ap (λ (v : View). v.own) lone

  own_front : AreOwn (passes_of front)
  own_front = All-map (λ (q : PassState). q.view.own ≡ q.core) (λ (c : CoreState D). c.pass) front
      (λ k d below. own_at (get_or front k d) (all_front IsLone front (core ∷ back) together.alone k d below))

  own_back : AreOwn (passes_of back)
  own_back = All-map (λ (q : PassState). q.view.own ≡ q.core) (λ (c : CoreState D). c.pass) back
      (λ k d below. own_at (get_or back k d) (All-tail IsLone core back (all_back IsLone front (core ∷ back) together.alone) k d below))

  both : passes_of front ++ passes_of back ≡ others
  both = sym (map-append (λ (c : CoreState D). c.pass) front back)

  own_others : AreOwn others
  own_others = subst AreOwn both (All-append (λ (q : PassState). q.view.own ≡ q.core) (passes_of front) (passes_of back) own_front own_back)

  none_core : NoneOf core.pass.core others
  none_core = subst (NoneOf core.pass.core) both (All-append (λ (q : PassState). q.core ≢ core.pass.core) (passes_of front) (passes_of back)
      (All-map (λ (q : PassState). q.core ≢ core.pass.core) (λ (c : CoreState D). c.pass) front apart_front)
      (All-map (λ (q : PassState). q.core ≢ core.pass.core) (λ (c : CoreState D). c.pass) back apart_back))

  -- the core that has met all others
  abbrev pub core_met : CoreState D
  core_met = record core { pass = gathered core.pass others }

  met_pass : core_met.pass ≡ with_view core.pass (seen joining core.pass.view others)
  met_pass = gathered_is core.pass others

  pub of_met : IsOf cache core_met
  of_met = subst (λ (p : PassState). IsOf cache (record core { pass = p })) (sym met_pass) (of_seen cache core (seen joining core.pass.view others) of_core)

  met_get : finmap.get core_met.pass.view.known core_met.pass.core ≡ finmap.get core.pass.view.known core.pass.core
  met_get = ap (λ (p : PassState). finmap.get p.view.known p.core) met_pass ∙ seen_aside joining joining_aside core.pass.view others core.pass.core own_others none_core

  pub mine_met : mine core_met.pass ≡ mine core.pass
  mine_met = ap (λ (o : Option Known). unwrap_or o blank) met_get

  pub has_core : Has core.pass.view core.pass.core
  has_core = knows_own core.pass lone_core

  pub has_met : Has core_met.pass.view core_met.pass.core
  has_met = (has_core.0, met_get ∙ has_core.1)

  -- ---- step by step

  module _ (core₁ : CoreState D) (met₁ : core₁ ≡ record core { pass = gathered core.pass (passes_of front) }) where
    pass₁ : core₁.pass ≡ with_view core.pass (seen joining core.pass.view (passes_of front))
    pass₁ = ap (λ (c : CoreState D). c.pass) met₁ ∙ gathered_is core.pass (passes_of front)

    pub of₁ : IsOf cache core₁
    of₁ = subst (IsOf cache) (sym (met₁ ∙ ap (λ (p : PassState). record core { pass = p }) (gathered_is core.pass (passes_of front))))
        (of_seen cache core (seen joining core.pass.view (passes_of front)) of_core)

    pub back_here : ArePeers core₁.pass (passes_of back) false
    back_here = subst (λ (p : PassState). ArePeers p (passes_of back) false) (sym pass₁) (peers_at_hand core.pass (seen joining core.pass.view (passes_of front)) (passes_of back) back_peers)

    module _ (core₂ : CoreState D) (met₂ : core₂ ≡ record core₁ { pass = gathered core₁.pass (passes_of back) }) where
      pub met_is : core₂ ≡ core_met
      met_is = met₂ ∙ ap (λ (c : CoreState D). record c { pass = gathered c.pass (passes_of back) }) met₁
          ∙ ap (λ (p : PassState). record core { pass = p }) (sym (gathered_append core.pass (passes_of front) (passes_of back)) ∙ ap (gathered core.pass) both)

      pub of₂ : IsOf cache core₂
      of₂ = subst (IsOf cache) (sym met_is) of_met

      pub has₂ : Has core₂.pass.view core₂.pass.core
      has₂ = subst (λ (c : CoreState D). Has c.pass.view c.pass.core) (sym met_is) has_met

      pub mine₂ : mine core₂.pass ≡ mine core.pass
      mine₂ = ap (λ (c : CoreState D). mine c.pass) met_is ∙ mine_met

      pub left₂ : left_of core.pass ≢ 0 → left_of core₂.pass ≢ 0
      left₂ left none = left (sym (ap (λ (k : Known). 4294967295 - length k.operations) mine₂) ∙ none)

      module _ (core₃ : CoreState D) (only : OnlyOwn core₂ core₃) where
        pass₃ : core₃.pass ≡ now_knowing core₂.pass (mine core₃.pass)
        pass₃ = ap (λ (c : CoreState D). c.pass) only

        pub of₃ : IsOf cache core₃
        of₃ = subst (IsOf cache) (sym only) (record { active = record { table = of₂.active.table; not_away = of₂.active.not_away }; sizes = of₂.sizes; many = of₂.many })

        -- the others before it are still away in it
        pub front_away : (front₁ : List (CoreState D)) → front₁ ≡ map (core_away true) front → ArePeers core₁.pass (passes_of front₁) true → ArePeers core₃.pass (passes_of front₁) true
        front_away front₁ is peers =
            subst (λ (p : PassState). ArePeers p (passes_of front₁) true)
            (sym (pass₃ ∙ ap (λ (p : PassState). now_knowing p (mine core₃.pass)) (ap (λ (c : CoreState D). c.pass) met₂ ∙ gathered_is core₁.pass (passes_of back))))
            (peers_stay core₁.pass (knowing (seen joining core₁.pass.view (passes_of back)) core₁.pass.core (mine core₃.pass)) (passes_of front₁) true
            (λ k d below.
            get_else (seen joining core₁.pass.view (passes_of back)).known core₁.pass.core (get_or (passes_of front₁) k d).core (mine core₃.pass) (peers.each k d below).apart
            ∙ seen_aside joining joining_aside core₁.pass.view (passes_of back) (get_or (passes_of front₁) k d).core own_back (none_back k d below))
            peers)
          where
            none_back : All (λ q. NoneOf q.core (passes_of back)) (passes_of front₁)
            none_back = subst (λ (l : List (CoreState D)). All (λ q. NoneOf q.core (passes_of back)) (passes_of l)) (sym is)
                (All-map (λ (q : PassState). NoneOf q.core (passes_of back)) (λ (c : CoreState D). c.pass) (map (core_away true) front)
                (All-map (λ (c : CoreState D). NoneOf c.pass.core (passes_of back)) (core_away true) front
                (λ k d below. All-map (λ (q : PassState). q.core ≢ (get_or front k d).pass.core) (λ (c : CoreState D). c.pass) back
                (λ j e under same. All-tail (Differ (get_or front k d)) core back (pairs_across Differ front (core ∷ back) together.apart k d below) j e under (sym same)))))

        module _ (front₁ : List (CoreState D)) (front_is : front₁ ≡ map (core_away true) front) (core₄ : CoreState D) (parted₄ : core₄ ≡ record core₃ { pass = released core₃.pass (passes_of front₁) }) where
          away_front : passes_of front₁ ≡ away_all (passes_of front)
          away_front = ap passes_of front_is ∙ passes_away true front

          pub of₄ : IsOf cache core₄
          of₄ = subst (IsOf cache) (sym (parted₄ ∙ ap (λ (p : PassState). record core₃ { pass = p }) (released_is core₃.pass (passes_of front₁))))
              (of_seen cache core₃ (seen parting core₃.pass.view (passes_of front₁)) of₃)

          -- and so are those behind it
          pub back_away : (back₁ : List (CoreState D)) → back₁ ≡ map (core_away true) back → ArePeers core₂.pass (passes_of back₁) true → ArePeers core₄.pass (passes_of back₁) true
          back_away back₁ is peers =
              subst (λ (p : PassState). ArePeers p (passes_of back₁) true)
              (sym (ap (λ (c : CoreState D). c.pass) parted₄ ∙ ap (λ (p : PassState). released p (passes_of front₁)) pass₃ ∙ released_is (now_knowing core₂.pass (mine core₃.pass)) (passes_of front₁)))
              (peers_stay core₂.pass (seen parting (knowing core₂.pass.view core₂.pass.core (mine core₃.pass)) (passes_of front₁)) (passes_of back₁) true
              (λ k d below.
              seen_aside parting parting_aside (knowing core₂.pass.view core₂.pass.core (mine core₃.pass)) (passes_of front₁) (get_or (passes_of back₁) k d).core
              (subst AreOwn (sym away_front) (own_away (passes_of front) own_front)) (none_front k d below)
              ∙ get_else core₂.pass.view.known core₂.pass.core (get_or (passes_of back₁) k d).core (mine core₃.pass) (peers.each k d below).apart)
              peers)
            where
              none_front : All (λ q. NoneOf q.core (passes_of front₁)) (passes_of back₁)
              none_front = subst (λ (l : List (CoreState D)). All (λ q. NoneOf q.core (passes_of front₁)) (passes_of l)) (sym is)
                  (All-map (λ (q : PassState). NoneOf q.core (passes_of front₁)) (λ (c : CoreState D). c.pass) (map (core_away true) back)
                  (All-map (λ (c : CoreState D). NoneOf c.pass.core (passes_of front₁)) (core_away true) back
                  (λ j e under. subst (NoneOf (get_or back j e).pass.core) (sym away_front)
                  (none_of_away (get_or back j e).pass.core (passes_of front)
                  (All-map (λ (q : PassState). q.core ≢ (get_or back j e).pass.core) (λ (c : CoreState D). c.pass) front
                  (λ k d below. All-tail (Differ (get_or front k d)) core back (pairs_across Differ front (core ∷ back) together.apart k d below) j e under))))))

          -- released again, the core knows of no other
          pub parted_is : (back₁ : List (CoreState D)) → back₁ ≡ map (core_away true) back → (core₅ : CoreState D) → core₅ ≡ record core₄ { pass = released core₄.pass (passes_of back₁) }
              → core₅ ≡ record core₃ { pass = now_knowing core.pass (mine core₃.pass) }
          parted_is back₁ is core₅ parted₅ =
              parted₅ ∙ ap (λ (c : CoreState D). record c { pass = released c.pass (passes_of back₁) }) parted₄
              ∙ ap (λ (p : PassState). record core₃ { pass = p })
              (sym (released_append core₃.pass (passes_of front₁) (passes_of back₁))
              ∙ ap (released core₃.pass) all_away
              ∙ ap (λ (p : PassState). released p (away_all others)) (pass₃ ∙ ap (λ (c : CoreState D). now_knowing c.pass (mine core₃.pass)) met_is ∙ ap (λ (p : PassState). now_knowing p (mine core₃.pass)) met_pass)
              ∙ released_is (with_view core.pass (knowing (seen joining core.pass.view others) core.pass.core (mine core₃.pass))) (away_all others)
              ∙ ap (with_view core.pass) (alone_again core.pass.view core.pass.core (mine core₃.pass) others lone_core own_others none_core))
            where
              all_away : passes_of front₁ ++ passes_of back₁ ≡ away_all others
              all_away = ap (λ (l : List PassState). l ++ passes_of back₁) away_front ∙ ap (λ (l : List PassState). away_all (passes_of front) ++ l) (ap passes_of is ∙ passes_away true back)
                  ∙ sym (map-append (λ p. with_away p true) (passes_of front) (passes_of back)) ∙ ap away_all both
