-- Views and passes that take in others and give them back: then they are alone again.
use Rattle.std.proofs.Common.{◌≡◌, ◌≢◌, ◌⊎◌, inl, inr, ℕ, Bool, true, false, true≢false, List, [], ◌∷◌, map, refl, sym, ap, ◌∙◌, subst, All, None}
use Rattle.std.specs.FinMap as finmap
use Rattle.std.specs.Ordering.{nat_cmp}
use Rattle.std.specs.Cmp.{nat_cmp_total}
use Rattle.std.proofs.lemmas.Bool.{cases_eq}
use Rattle.std.proofs.lemmas.List.Elements.{All-cons, All-head, All-map, All-nil, All-tail}
use Rattle.zj_turns.specs.Views.{Has, Known, View, alone, known_in, knowing, without}
use Rattle.zj_turns.specs.Passes.{PassState, with_away, with_view}
use Rattle.zj_turns.proofs.Maps.{get_else, get_gone, get_here, get_left}
use Rattle.zj_core.specs.Core.{CoreState}
use Rattle.zj_session.specs.Gathering.{ArePeers, core_away, passes_of}
use Rattle.zj_session.proofs.Seen.{joining, joining_aside, parting, parting_aside, seen, seen_aside}

-- ---- a view that takes in others and gives them back

-- the passes have views of their own cores
abbrev pub AreOwn : List PassState → Type 0
AreOwn qs = All (λ q. q.view.own ≡ q.core) qs

-- none is of the core
abbrev pub NoneOf : ℕ → List PassState → Type 0
NoneOf b qs = All (λ q. q.core ≢ b) qs

some_of : (b : ℕ) (qs : List PassState) → NoneOf b qs ⊎ (NoneOf b qs → ⊥)
some_of b [] = inl (All-nil (λ (q : PassState). q.core ≢ b))
some_of b (q ∷ qs) = elim (cases_eq q.core b) [
  | inl is ↦ inr (λ none. All-head (λ (r : PassState). r.core ≢ b) q qs none is)
  | inr differs ↦ elim (some_of b qs) [
    | inl none ↦ inl (All-cons (λ (r : PassState). r.core ≢ b) q qs differs none)
    | inr some ↦ inr (λ none. some (All-tail (λ (r : PassState). r.core ≢ b) q qs none))
  ]
]

-- what is gone stays gone
stays_gone : (v : View) (qs : List PassState) (b : ℕ) → finmap.get v.known b ≡ None → finmap.get (seen parting v qs).known b ≡ None
stays_gone v [] b gone = gone
stays_gone v (q ∷ qs) b gone = stays_gone (without v q.core) qs b
    (elim (cases_eq b q.core) [
      | inl is ↦ ap (finmap.get (finmap.remove v.known q.core)) is ∙ get_gone v.known q.core
      | inr differs ↦ get_left v.known q.core b differs ∙ gone
    ])

-- what was given back is gone
given_gone : (v : View) (qs : List PassState) (b : ℕ) → (NoneOf b qs → ⊥) → finmap.get (seen parting v qs).known b ≡ None
given_gone v [] b some = absurd (some (All-nil (λ (q : PassState). q.core ≢ b)))
given_gone v (q ∷ qs) b some =
    elim (cases_eq q.core b) [
      | inl is ↦ stays_gone (without v q.core) qs b (ap (finmap.get (finmap.remove v.known q.core)) (sym is) ∙ get_gone v.known q.core)
      | inr differs ↦ given_gone (without v q.core) qs b (λ none. some (All-cons (λ (r : PassState). r.core ≢ b) q qs differs none))
    ]

seen_own : (see : View → PassState → View) → ((v : View) (q : PassState) → (see v q).own ≡ v.own) → (v : View) (qs : List PassState) → (seen see v qs).own ≡ v.own
seen_own see keeps v [] = refl
seen_own see keeps v (q ∷ qs) = seen_own see keeps (see v q) qs ∙ keeps v q

seen_past : (see : View → PassState → View) → ((v : View) (q : PassState) → (see v q).past ≡ v.past) → (v : View) (qs : List PassState) → (seen see v qs).past ≡ v.past
seen_past see keeps v [] = refl
seen_past see keeps v (q ∷ qs) = seen_past see keeps (see v q) qs ∙ keeps v q

-- passes that are away
abbrev pub away_all : List PassState → List PassState
away_all ps = map (λ p. with_away p true) ps

none_away : (b : ℕ) (ps : List PassState) → NoneOf b (away_all ps) → NoneOf b ps
none_away b [] none = All-nil (λ (q : PassState). q.core ≢ b)
none_away b (p ∷ ps) none =
    All-cons (λ (q : PassState). q.core ≢ b) p ps
    (All-head (λ (q : PassState). q.core ≢ b) (with_away p true) (away_all ps) none)
    (none_away b ps (All-tail (λ (q : PassState). q.core ≢ b) (with_away p true) (away_all ps) none))

pub own_away : (ps : List PassState) → AreOwn ps → AreOwn (away_all ps)
own_away ps own = All-map (λ (q : PassState). q.view.own ≡ q.core) (λ p. with_away p true) ps own

pub none_of_away : (b : ℕ) (ps : List PassState) → NoneOf b ps → NoneOf b (away_all ps)
none_of_away b ps none = All-map (λ (q : PassState). q.core ≢ b) (λ p. with_away p true) ps none

-- a view of one core, after it met others and parted from them
pub alone_again : (v : View) (c : ℕ) (k : Known) (ps : List PassState) → v ≡ alone v c → AreOwn ps → NoneOf c ps → seen parting (knowing (seen joining v ps) c k) (away_all ps) ≡ knowing v c k
alone_again v c k ps lone own none = λ i. record { own = own_is i; known = known_is i; past = past_is i }
  where
    met : View
    met = seen joining v ps

    own_is : (seen parting (knowing met c k) (away_all ps)).own ≡ v.own
    own_is = seen_own parting (λ w q. refl) (knowing met c k) (away_all ps) ∙ seen_own joining (λ w q. refl) v ps

    past_is : (seen parting (knowing met c k) (away_all ps)).past ≡ v.past
    past_is = seen_past parting (λ w q. refl) (knowing met c k) (away_all ps) ∙ seen_past joining (λ w q. refl) v ps

    -- the view has its core alone
    else_none : (b : ℕ) → b ≢ c → finmap.get v.known b ≡ None
    else_none b differs = ap (λ (w : View). finmap.get w.known b) lone ∙ get_else finmap.empty c b (known_in v c) differs ∙ finmap.get-empty {X = Known} nat_cmp b

    at : (b : ℕ) → finmap.get (seen parting (knowing met c k) (away_all ps)).known b ≡ finmap.get (finmap.insert v.known c k) b
    at b = elim (some_of b (away_all ps)) [
      | inl aside ↦ seen_aside parting parting_aside (knowing met c k) (away_all ps) b (own_away ps own) aside
          ∙ elim (cases_eq b c) [
            | inl is ↦ ap (finmap.get (finmap.insert met.known c k)) is ∙ get_here met.known c k ∙ sym (get_here v.known c k) ∙ ap (finmap.get (finmap.insert v.known c k)) (sym is)
            | inr differs ↦ get_else met.known c b k differs ∙ seen_aside joining joining_aside v ps b own (none_away b ps aside) ∙ sym (get_else v.known c b k differs)
          ]
      | inr some ↦ elim (cases_eq b c) [
        | inl is ↦ absurd (some (subst (λ (n : ℕ). NoneOf n (away_all ps)) (sym is) (none_of_away c ps none)))
        | inr differs ↦ given_gone (knowing met c k) (away_all ps) b some ∙ sym (get_else v.known c b k differs ∙ else_none b differs)
      ]
    ]

    known_is : (seen parting (knowing met c k) (away_all ps)).known ≡ finmap.insert v.known c k
    known_is = finmap.same_map nat_cmp_total finmap.nat_cmp-IsAntisymmetric _ _ at

-- ---- a pass that meets others

-- a pass that knows its own core
pub knows_own : (p : PassState) → p.view ≡ alone p.view p.core → Has p.view p.core
knows_own p lone = (known_in p.view p.core, ap (λ (w : View). finmap.get w.known p.core) lone ∙ get_here finmap.empty p.core (known_in p.view p.core))

-- it is the peers' pass still where it knows other things of cores that aren't theirs
pub peers_stay : (p : PassState) (v : View) (qs : List PassState) (a : Bool) → All (λ q. finmap.get v.known q.core ≡ finmap.get p.view.known q.core) qs → ArePeers p qs a → ArePeers (with_view p v) qs a
peers_stay p v qs a same peers = record {
  each = λ k d below.
      let peer = peers.each k d below in
      record { table = peer.table; apart = peer.apart; alone = peer.alone; away_is = peer.away_is; known = λ is. same k d below ∙ peer.known is };
  apart = peers.apart;
}

-- and where none is away, whatever it knows
pub peers_at_hand : (p : PassState) (v : View) (qs : List PassState) → ArePeers p qs false → ArePeers (with_view p v) qs false
peers_at_hand p v qs peers = record {
  each = λ k d below.
      let peer = peers.each k d below in
      record { table = peer.table; apart = peer.apart; alone = peer.alone; away_is = peer.away_is; known = λ is. absurd (true≢false (sym is)) };
  apart = peers.apart;
}

pub passes_away : {D : Type 0} (a : Bool) (cores : List (CoreState D)) → passes_of (map (core_away a) cores) ≡ map (λ p. with_away p a) (passes_of cores)
passes_away a [] = refl
passes_away a (c ∷ cores) = ap (λ (l : List PassState). with_away c.pass a ∷ l) (passes_away a cores)

-- a core that is away and at hand again is as before
pub home_again : {D : Type 0} (cores : List (CoreState D)) → All (λ c. c.pass.away ≡ false) cores → map (core_away false) (map (core_away true) cores) ≡ cores
home_again [] here = refl
home_again {D} (c ∷ cores) here = λ i.
    record c { pass = with_away c.pass (sym (All-head (λ (x : CoreState D). x.pass.away ≡ false) c cores here) i) } ∷ home_again cores (All-tail (λ (x : CoreState D). x.pass.away ≡ false) c cores here) i
