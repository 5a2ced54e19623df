-- Passes that a pass takes in or gives back, one after the other.
use Rattle.std.proofs.Common.{◌≡◌, ◌≢◌, ℕ, zero, suc, ◌+◌, ◌<◌, Bool, List, [], ◌∷◌, ◌++◌, length, map, get_or, refl, sym, ◌∙◌, subst, arith, All, AllPairs, length-append, get_or-append-add}
use Rattle.std.specs.FinMap as finmap
use Rattle.std.proofs.lemmas.List.{get_or_append_left}
use Rattle.std.proofs.lemmas.List.Elements.{All-cons, All-head, All-map, All-nil, All-tail}
use Rattle.std.proofs.lemmas.List.Kept.{AllPairs-cons}
use Rattle.zj_turns.specs.Views.{View, joined, known_in, without}
use Rattle.zj_turns.specs.Passes.{IsPeer, PassState, with_view}
use Rattle.zj_turns.proofs.Maps.{get_else, get_left}
use Rattle.zj_session.specs.Gathering.{gathered, released}

-- ---- what holds of each element of a list, and of each two

module _ {X : Type 0} (P : X → Type 0) where
  pub all_front : (xs ys : List X) → All P (xs ++ ys) → All P xs
  all_front xs ys all k d below = subst P (get_or_append_left xs ys d k below) (all k d (omega (arith, length-append xs ys)))

  pub all_back : (xs ys : List X) → All P (xs ++ ys) → All P ys
  all_back xs ys all k d below = subst P (get_or-append-add xs ys k d) (all (length xs + k) d (omega (arith, length-append xs ys)))

pub all_unmapped : {X Y : Type 0} (P : Y → Type 0) (f : X → Y) (xs : List X) → All P (map f xs) → All (λ x. P (f x)) xs
all_unmapped P f [] all = All-nil (λ x. P (f x))
all_unmapped P f (x ∷ xs) all = All-cons (λ x. P (f x)) x xs (All-head P (f x) (map f xs) all) (all_unmapped P f xs (All-tail P (f x) (map f xs) all))

module _ {X : Type 0} (R : X → X → Type 0) where
  pub pairs_front : (xs ys : List X) → AllPairs R (xs ++ ys) → AllPairs R xs
  pairs_front xs ys pairs i j d before below =
      let h : i < length xs = omega arith in
      subst (R (get_or xs i d)) (get_or_append_left xs ys d j below)
      (subst (λ x. R x (get_or (xs ++ ys) j d)) (get_or_append_left xs ys d i h) (pairs i j d before (omega (arith, length-append xs ys))))

  pub pairs_back : (xs ys : List X) → AllPairs R (xs ++ ys) → AllPairs R ys
  pairs_back xs ys pairs i j d before below =
      subst (R (get_or ys i d)) (get_or-append-add xs ys j d)
      (subst (λ x. R x (get_or (xs ++ ys) (length xs + j) d)) (get_or-append-add xs ys i d) (pairs (length xs + i) (length xs + j) d (omega arith) (omega (arith, length-append xs ys))))

  pub pairs_across : (xs ys : List X) → AllPairs R (xs ++ ys) → All (λ x. All (R x) ys) xs
  pairs_across xs ys pairs i d before j e below =
      subst (R (get_or xs i d)) (get_or-append-add xs ys j e ∙ refl)
      (subst (λ x. R x (get_or (xs ++ ys) (length xs + j) e)) (get_or_append_left xs ys e i before ∙ same_read xs i e d before) (pairs i (length xs + j) e (omega arith) (omega (arith, length-append xs ys))))
    where
      same_read : (zs : List X) (k : ℕ) (a b : X) → k < length zs → get_or zs k a ≡ get_or zs k b
      same_read [] k a b below = absurd (omega arith)
      same_read (z ∷ zs) zero a b below = refl
      same_read (z ∷ zs) (suc k) a b below = same_read zs k a b (omega arith)

  pub pairs_head : (x : X) (xs : List X) → AllPairs R (x ∷ xs) → All (R x) xs
  pairs_head x xs pairs k d below = pairs 0 (suc k) d (omega arith) (omega arith)

  pub pairs_tail : (x : X) (xs : List X) → AllPairs R (x ∷ xs) → AllPairs R xs
  pairs_tail x xs pairs i j d before below = pairs (suc i) (suc j) d (omega arith) (omega arith)

module _ {X Y : Type 0} (R : Y → Y → Type 0) (f : X → Y) where
  pub pairs_mapped : (xs : List X) → AllPairs (λ x y. R (f x) (f y)) xs → AllPairs R (map f xs)
  pairs_mapped [] pairs = λ i j d before below. absurd (omega arith)
  pairs_mapped (x ∷ xs) pairs = AllPairs-cons R (f x) (map f xs) (All-map (R (f x)) f xs (pairs_head (λ a b. R (f a) (f b)) x xs pairs)) (pairs_mapped xs (pairs_tail (λ a b. R (f a) (f b)) x xs pairs))

  pub pairs_unmapped : (xs : List X) → AllPairs R (map f xs) → AllPairs (λ x y. R (f x) (f y)) xs
  pairs_unmapped [] pairs = λ i j d before below. absurd (omega arith)
  pairs_unmapped (x ∷ xs) pairs = AllPairs-cons (λ a b. R (f a) (f b)) x xs (all_unmapped (R (f x)) f xs (pairs_head R (f x) (map f xs) pairs)) (pairs_unmapped xs (pairs_tail R (f x) (map f xs) pairs))

-- ---- views

-- what a view becomes by one pass after the other
abbrev pub seen : (View → PassState → View) → View → List PassState → View
seen see v [] = v
seen see v (q ∷ later) = seen see (see v q) later

abbrev pub joining : View → PassState → View
joining v q = joined v q.view

abbrev pub parting : View → PassState → View
parting v q = without v q.core

pub gathered_is : (p : PassState) (qs : List PassState) → gathered p qs ≡ with_view p (seen joining p.view qs)
gathered_is p [] = refl
gathered_is p (q ∷ later) = gathered_is (with_view p (joined p.view q.view)) later

pub released_is : (p : PassState) (qs : List PassState) → released p qs ≡ with_view p (seen parting p.view qs)
released_is p [] = refl
released_is p (q ∷ later) = released_is (with_view p (without p.view q.core)) later

pub gathered_append : (p : PassState) (qs rs : List PassState) → gathered p (qs ++ rs) ≡ gathered (gathered p qs) rs
gathered_append p [] rs = refl
gathered_append p (q ∷ qs) rs = gathered_append (with_view p (joined p.view q.view)) qs rs

pub released_append : (p : PassState) (qs rs : List PassState) → released p (qs ++ rs) ≡ released (released p qs) rs
released_append p [] rs = refl
released_append p (q ∷ qs) rs = released_append (with_view p (without p.view q.core)) qs rs

pub seen_append : (see : View → PassState → View) (v : View) (qs rs : List PassState) → seen see v (qs ++ rs) ≡ seen see (seen see v qs) rs
seen_append see v [] rs = refl
seen_append see v (q ∷ qs) rs = seen_append see (see v q) qs rs

-- a step keeps what a view has of other cores
abbrev pub IsAside : (View → PassState → View) → Type 0
IsAside see = (v : View) (q : PassState) (b : ℕ) → q.view.own ≡ q.core → q.core ≢ b → finmap.get (see v q).known b ≡ finmap.get v.known b

pub joining_aside : IsAside joining
joining_aside v q b own apart = get_else v.known q.view.own b (known_in q.view q.view.own) (λ e. apart (sym own ∙ sym e))

pub parting_aside : IsAside parting
parting_aside v q b own apart = get_left v.known q.core b (λ e. apart (sym e))

module _ (see : View → PassState → View) (aside : IsAside see) where
  pub seen_aside : (v : View) (qs : List PassState) (b : ℕ) → All (λ q. q.view.own ≡ q.core) qs → All (λ q. q.core ≢ b) qs → finmap.get (seen see v qs).known b ≡ finmap.get v.known b
  seen_aside v [] b own apart = refl
  seen_aside v (q ∷ qs) b own apart =
      seen_aside (see v q) qs b (All-tail (λ r. r.view.own ≡ r.core) q qs own) (All-tail (λ r. r.core ≢ b) q qs apart)
      ∙ aside v q b (All-head (λ r. r.view.own ≡ r.core) q qs own) (All-head (λ r. r.core ≢ b) q qs apart)

  -- a peer stays one where another pass was seen
  pub peer_stays : (p : PassState) (q r : PassState) (a : Bool) → q.view.own ≡ q.core → q.core ≢ r.core → IsPeer p r a → IsPeer (with_view p (see p.view q)) r a
  peer_stays p q r a own apart peer = record {
    table = peer.table;
    apart = peer.apart;
    alone = peer.alone;
    away_is = peer.away_is;
    known = λ is. aside p.view q r.core own apart ∙ peer.known is;
  }
