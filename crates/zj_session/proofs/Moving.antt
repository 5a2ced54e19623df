-- One core after the other is met, or parted from.
use Rattle.std.proofs.Common.{◌≡◌, ◌≢◌, ℕ, ◌+◌, ◌<◌, ◌≤◌, Bool, not, List, [], ◌∷◌, ◌++◌, length, map, set, get_or, refl, sym, ap, ◌∙◌, subst, arith, All, AllPairs, length-append, append_assoc, append-nil}
use Rattle.std.proofs.lemmas.List.{length-map, map-append, length_push}
use Rattle.std.proofs.lemmas.List.Elements.{All-head, All-map, All-nil, All-push, All-tail}
use Rattle.std.proofs.Math.Seq.{get_or-append_seam, set-append_seam}
use Rattle.zj_turns.specs.Views.{View}
use Rattle.zj_turns.specs.Passes.{CacheParameters, IsPeer, PassState, with_away, with_view}
use Rattle.zj_core.specs.Core.{CoreState, IsOf}
use Rattle.zj_session.specs.Gathering.{ArePeers, core_away, passes_of}
use Rattle.zj_session.proofs.Seen.{IsAside, all_unmapped, pairs_across, pairs_back, pairs_head, pairs_mapped, pairs_unmapped, peer_stays, seen, seen_append}

-- a core that has seen others
abbrev pub core_seen : {D : Type 0} → (View → PassState → View) → CoreState D → List (CoreState D) → CoreState D
core_seen see c done = record c { pass = with_view c.pass (seen see c.pass.view (passes_of done)) }

-- it is of its cache still
pub of_seen : {D : Type 0} (cache : CacheParameters) (c : CoreState D) (v : View) → IsOf cache c → IsOf cache (record c { pass = with_view c.pass v })
of_seen cache c v of = record { active = record { table = of.active.table; not_away = of.active.not_away }; sizes = of.sizes; many = of.many }

-- the cores differ
abbrev pub Differ : {D : Type 0} → CoreState D → CoreState D → Type 0
Differ c d = c.pass.core ≢ d.pass.core

-- a pass that another is a peer of, under another name
peer_of : (p p' q : PassState) (a : Bool) → p' ≡ p → IsPeer p q a → IsPeer p' q a
peer_of p p' q a is peer = subst (λ (x : PassState). IsPeer x q a) (sym is) peer

own_is : (p q : PassState) (a : Bool) → IsPeer p q a → q.view.own ≡ q.core
own_is p q a peer = ap (λ (v : View). v.own) peer.alone

module _ {D : Type 0} (see : View → PassState → View) (aside : IsAside see) (away : Bool) (first : CoreState D) (others : List (CoreState D)) where
  -- what was moved so far, and what is left
  pub record MovedTo (core : CoreState D) (now : List (CoreState D)) (i : ℕ) : Type 0 where
    pub done : List (CoreState D)
    pub rest : List (CoreState D)
    pub split : others ≡ done ++ rest
    pub count : length done ≡ i
    pub core_is : core ≡ core_seen see first done
    pub now_is : now ≡ map (core_away away) done ++ rest
    pub behind : All (λ c. IsPeer core.pass (with_away c.pass away) away) done
    pub ahead : All (λ c. IsPeer core.pass c.pass (not away)) rest
    pub apart : AllPairs Differ (done ++ rest)

  pub moved_none : All (λ c. IsPeer first.pass c.pass (not away)) others → AllPairs Differ others → MovedTo first others 0
  moved_none ahead apart = record {
    done = [];
    rest = others;
    split = refl;
    count = refl;
    core_is = refl;
    now_is = refl;
    behind = All-nil (λ c. IsPeer first.pass (with_away c.pass away) away);
    ahead = ahead;
    apart = apart;
  }

  -- the core that is next
  next : (done rest now : List (CoreState D)) (i : ℕ) → now ≡ map (core_away away) done ++ rest → length done ≡ i → i < length now
      → (x : CoreState D) × (later : List (CoreState D)) × (rest ≡ x ∷ later) × ((d : CoreState D) → get_or now i d ≡ x)
  next done [] now i now_is count below = absurd (omega (arith, ap length now_is, length-append (map (core_away away) done) [], length-map done (core_away away)))
  next done (x ∷ later) now i now_is count below = (
    x,
    later,
    refl,
    λ d. ap (λ (l : List (CoreState D)). get_or l i d) now_is
        ∙ ap (λ (k : ℕ). get_or (map (core_away away) done ++ x ∷ later) k d) (sym (length-map done (core_away away) ∙ count))
        ∙ get_or-append_seam (map (core_away away) done) x later d,
  )

  pub moved_ahead : (core : CoreState D) (now : List (CoreState D)) (i : ℕ) (a : CoreState D) → i < length now → a ≡ get_or now i a → MovedTo core now i → IsPeer core.pass a.pass (not away)
  moved_ahead core now i a below is so_far =
      let n = next so_far.done so_far.rest now i so_far.now_is so_far.count below in
      subst (λ (c : CoreState D). IsPeer core.pass c.pass (not away)) (sym (is ∙ n.3 a))
      (All-head (λ (c : CoreState D). IsPeer core.pass c.pass (not away)) n.0 n.1 (subst (All (λ (c : CoreState D). IsPeer core.pass c.pass (not away))) n.2 so_far.ahead))

  -- the core after a step
  abbrev pub stepped : CoreState D → CoreState D → CoreState D
  stepped core a = record core { pass = with_view core.pass (see core.pass.view a.pass) }

  more : (core core' : CoreState D) (now : List (CoreState D)) (i : ℕ) (done later : List (CoreState D)) (x b : CoreState D) → others ≡ done ++ x ∷ later → length done ≡ i → core ≡ core_seen see first done
      → now ≡ map (core_away away) done ++ x ∷ later → All (λ c. IsPeer core.pass (with_away c.pass away) away) done → All (λ c. IsPeer core.pass c.pass (not away)) (x ∷ later) → AllPairs Differ (done ++ x ∷ later)
      → core' ≡ stepped core x → b ≡ core_away away x → IsPeer core'.pass b.pass away → MovedTo core' (set now i b) (i + 1)
  more core core' now i done later x b split count core_is now_is behind ahead apart step b_is met = record {
    done = done ++ x ∷ [];
    rest = later;
    split = split ∙ sym joined_back;
    count = omega (arith, length_push done x);
    core_is = step ∙ ap (λ (c : CoreState D). stepped c x) core_is
        ∙ ap (λ (v : View). record first { pass = with_view first.pass v })
        (sym (ap (seen see first.pass.view) (map-append (λ (c : CoreState D). c.pass) done (x ∷ [])) ∙ seen_append see first.pass.view (passes_of done) (x.pass ∷ [])));
    now_is = ap (λ (l : List (CoreState D)). set l i b) now_is
        ∙ ap (λ (k : ℕ). set (map (core_away away) done ++ x ∷ later) k b) (sym (length-map done (core_away away) ∙ count))
        ∙ set-append_seam (map (core_away away) done) x later b
        ∙ ap (λ (y : CoreState D). map (core_away away) done ++ y ∷ later) b_is
        ∙ sym (ap (λ (l : List (CoreState D)). l ++ later) (map-append (core_away away) done (x ∷ [])) ∙ append_assoc (map (core_away away) done) (core_away away x ∷ []) later);
    behind = All-push (λ c. IsPeer core'.pass (with_away c.pass away) away) done x
        (λ k d below. peer_of _ core'.pass _ away pass_is
        (peer_stays see aside core.pass x.pass (with_away (get_or done k d).pass away) away own (λ e. All-head (Differ (get_or done k d)) x later (across k d below) (sym e)) (behind k d below)))
        (subst (λ (c : CoreState D). IsPeer core'.pass c.pass away) b_is met);
    ahead = λ k d below. peer_of _ core'.pass _ (not away) pass_is
        (peer_stays see aside core.pass x.pass (get_or later k d).pass (not away) own (pairs_head Differ x later (pairs_back Differ done (x ∷ later) apart) k d below) (All-tail (λ (c : CoreState D). IsPeer core.pass c.pass (not away)) x later ahead k d below));
    apart = subst (AllPairs Differ) (sym joined_back) apart;
  }
    where
      joined_back : (done ++ x ∷ []) ++ later ≡ done ++ x ∷ later
      joined_back = append_assoc done (x ∷ []) later

      own : x.pass.view.own ≡ x.pass.core
      own = own_is core.pass x.pass (not away) (All-head (λ (c : CoreState D). IsPeer core.pass c.pass (not away)) x later ahead)

      across : All (λ c. All (Differ c) (x ∷ later)) done
      across = pairs_across Differ done (x ∷ later) apart

      pass_is : core'.pass ≡ with_view core.pass (see core.pass.view x.pass)
      pass_is = ap (λ (c : CoreState D). c.pass) step

  pub moved_more : (core core' : CoreState D) (now : List (CoreState D)) (i : ℕ) (a b : CoreState D) → i < length now → a ≡ get_or now i a → MovedTo core now i
      → core' ≡ stepped core a → b ≡ core_away away a → IsPeer core'.pass b.pass away → MovedTo core' (set now i b) (i + 1)
  moved_more core core' now i a b below is so_far step b_is met =
      let n = next so_far.done so_far.rest now i so_far.now_is so_far.count below in
      let a_is : a ≡ n.0 = is ∙ n.3 a in
      more core core' now i so_far.done n.1 n.0 b
      (so_far.split ∙ ap (λ (l : List (CoreState D)). so_far.done ++ l) n.2)
      so_far.count so_far.core_is
      (so_far.now_is ∙ ap (λ (l : List (CoreState D)). map (core_away away) so_far.done ++ l) n.2)
      so_far.behind
      (subst (All (λ (c : CoreState D). IsPeer core.pass c.pass (not away))) n.2 so_far.ahead)
      (subst (λ (l : List (CoreState D)). AllPairs Differ (so_far.done ++ l)) n.2 so_far.apart)
      (step ∙ ap (stepped core) a_is) (b_is ∙ ap (core_away away) a_is) met

  -- it stays of its cache on the way
  pub moved_of : (cache : CacheParameters) (core : CoreState D) (now : List (CoreState D)) (i : ℕ) → MovedTo core now i → IsOf cache first → IsOf cache core
  moved_of cache core now i so_far of = subst (IsOf cache) (sym so_far.core_is) (of_seen cache first (seen see first.pass.view (passes_of so_far.done)) of)

  -- all were moved
  pub record MovedAll (core : CoreState D) (now : List (CoreState D)) : Type 0 where
    pub core_is : core ≡ core_seen see first others
    pub now_is : now ≡ map (core_away away) others
    pub peers : ArePeers core.pass (passes_of now) away

  pub moved_all : (core : CoreState D) (now : List (CoreState D)) (i : ℕ) → length now ≤ i → MovedTo core now i → MovedAll core now
  moved_all core now i over so_far = by so_far.done so_far.rest so_far.split so_far.count so_far.core_is so_far.now_is so_far.behind so_far.apart
    where
      by : (done rest : List (CoreState D)) → others ≡ done ++ rest → length done ≡ i → core ≡ core_seen see first done → now ≡ map (core_away away) done ++ rest
          → All (λ c. IsPeer core.pass (with_away c.pass away) away) done → AllPairs Differ (done ++ rest) → MovedAll core now
      by done (x ∷ later) split count core_is now_is behind apart = absurd (omega (arith, ap length now_is, length-append (map (core_away away) done) (x ∷ later), length-map done (core_away away)))
      by done [] split count core_is now_is behind apart =
          let all : others ≡ done = split ∙ append-nil done in
          let moved : now ≡ map (core_away away) done = now_is ∙ append-nil (map (core_away away) done) in
          record {
            core_is = core_is ∙ ap (core_seen see first) (sym all);
            now_is = moved ∙ ap (map (core_away away)) (sym all);
            peers = subst (λ (l : List (CoreState D)). ArePeers core.pass (passes_of l) away) (sym moved)
                (record {
                  each = All-map (λ q. IsPeer core.pass q away) (λ (c : CoreState D). c.pass) (map (core_away away) done)
                      (All-map (λ (c : CoreState D). IsPeer core.pass c.pass away) (core_away away) done behind);
                  apart = pairs_mapped (λ (q r : PassState). q.core ≢ r.core) (λ (c : CoreState D). c.pass) (map (core_away away) done)
                      (pairs_mapped (λ (c d : CoreState D). c.pass.core ≢ d.pass.core) (core_away away) done (subst (AllPairs Differ) (append-nil done) apart));
                });
          }

-- peers, core by core
pub peers_each : {D : Type 0} (p : PassState) (cores : List (CoreState D)) (a : Bool) → ArePeers p (passes_of cores) a → All (λ c. IsPeer p c.pass a) cores
peers_each {D} p cores a peers = all_unmapped (λ q. IsPeer p q a) (λ (c : CoreState D). c.pass) cores peers.each

pub peers_apart : {D : Type 0} (p : PassState) (cores : List (CoreState D)) (a : Bool) → ArePeers p (passes_of cores) a → AllPairs Differ cores
peers_apart {D} p cores a peers = pairs_unmapped (λ (q r : PassState). q.core ≢ r.core) (λ (c : CoreState D). c.pass) cores peers.apart
