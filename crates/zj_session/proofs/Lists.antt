-- Lists read at a place, and one place of them changed.
use Rattle.std.proofs.Common.{◌≡◌, ◌≢◌, ◌⊎◌, inl, inr, ⊎_elim, ℕ, zero, suc, ◌<◌, ◌≤◌, Bool, true, false, cond, List, [], ◌∷◌, ◌++◌, length, filter, get_or, map, set, take, drop, Option, Some, None, slice_get, slice_set, option_map, All, AllPairs, refl, sym, ap, subst, arith}
use Rattle.std.proofs.lemmas.Option.{get_or_from_slice_get, slice_get-get_or, slice_get_within}
use Rattle.zj_layout.proofs.Follow.{none_some, some_is}

module _ {X : Type 0} where
  -- what is so at each place is so of all, and the other way round
  pub all_at : (P : X → Type 0) (xs : List X) → ((i : ℕ) (x : X) → slice_get xs i ≡ Some x → P x) → All P xs
  all_at P xs each k d low = each k (get_or xs k d) (slice_get-get_or xs k d low)

  pub at_all : (P : X → Type 0) (xs : List X) → All P xs → (i : ℕ) (x : X) → slice_get xs i ≡ Some x → P x
  at_all P xs all i x at = subst P (get_or_from_slice_get xs i x x at) (all i x (slice_get_within xs i x at))

  pub pairs_at : (R : X → X → Type 0) (xs : List X) → ((i j : ℕ) (x y : X) → i < j → slice_get xs i ≡ Some x → slice_get xs j ≡ Some y → R x y) → AllPairs R xs
  pairs_at R xs each i j d lower low = each i j (get_or xs i d) (get_or xs j d) lower (slice_get-get_or xs i d (omega arith)) (slice_get-get_or xs j d low)

  -- one place changed
  pub set_here : (xs : List X) (i : ℕ) (x y : X) → slice_get xs i ≡ Some x → slice_get (slice_set xs i y) i ≡ Some y
  set_here [] i x y at = absurd (none_some at)
  set_here (z ∷ xs) zero x y at = refl
  set_here (z ∷ xs) (suc i) x y at = set_here xs i x y at

  pub set_else : (xs : List X) (i j : ℕ) (y : X) → j ≢ i → slice_get (slice_set xs i y) j ≡ slice_get xs j
  set_else [] i j y apart = refl
  set_else (z ∷ xs) zero zero y apart = absurd (apart refl)
  set_else (z ∷ xs) zero (suc j) y apart = refl
  set_else (z ∷ xs) (suc i) zero y apart = refl
  set_else (z ∷ xs) (suc i) (suc j) y apart = set_else xs i j y (λ same. apart (ap suc same))

  -- the list but for one place
  pub other_in : (xs : List X) (n i : ℕ) (x : X) → slice_get xs i ≡ Some x → i ≢ n → (j : ℕ) × (slice_get (take n xs ++ drop (suc n) xs) j ≡ Some x)
  other_in [] n i x at apart = absurd (none_some at)
  other_in (z ∷ xs) zero zero x at apart = absurd (apart refl)
  other_in (z ∷ xs) zero (suc i) x at apart = (i, at)
  other_in (z ∷ xs) (suc n) zero x at apart = (0, at)
  other_in (z ∷ xs) (suc n) (suc i) x at apart = let r = other_in xs n i x at (λ same. apart (ap suc same)) in (suc r.0, r.1)

  pub in_other : (xs : List X) (n j : ℕ) (x : X) → slice_get (take n xs ++ drop (suc n) xs) j ≡ Some x → (i : ℕ) × (slice_get xs i ≡ Some x)
  in_other [] zero j x at = absurd (none_some at)
  in_other [] (suc n) j x at = absurd (none_some at)
  in_other (z ∷ xs) zero j x at = (suc j, at)
  in_other (z ∷ xs) (suc n) zero x at = (0, at)
  in_other (z ∷ xs) (suc n) (suc j) x at = let r = in_other xs n j x at in (suc r.0, r.1)

  -- one more at the end
  pub at_end : (xs : List X) (y : X) (k : ℕ) (x : X) → slice_get (xs ++ y ∷ []) k ≡ Some x → ((k < length xs) × (slice_get xs k ≡ Some x)) ⊎ ((k ≡ length xs) × (y ≡ x))
  at_end [] y zero x at = inr (refl, some_is at)
  at_end [] y (suc k) x at = absurd (none_some at)
  at_end (z ∷ xs) y zero x at = inl (omega arith, at)
  at_end (z ∷ xs) y (suc k) x at = ⊎_elim (λ r. inl (let low = r.0 in omega arith, r.1)) (λ r. inr (ap suc r.0, r.1)) (at_end xs y k x at)

  pub kept_front : (xs ys : List X) (k : ℕ) (x : X) → slice_get xs k ≡ Some x → slice_get (xs ++ ys) k ≡ Some x
  kept_front [] ys k x at = absurd (none_some at)
  kept_front (z ∷ xs) ys zero x at = at
  kept_front (z ∷ xs) ys (suc k) x at = kept_front xs ys k x at

  pub at_seam : (xs : List X) (y : X) → slice_get (xs ++ y ∷ []) (length xs) ≡ Some y
  at_seam [] y = refl
  at_seam (z ∷ xs) y = at_seam xs y

  -- no more of a front pass a test than of the whole
  pub fewer : (p : X → Bool) (k : ℕ) (xs : List X) → length (filter p (take k xs)) ≤ length (filter p xs)
  fewer p zero xs = omega arith
  fewer p (suc k) [] = omega arith
  fewer p (suc k) (x ∷ xs) = by (p x) (fewer p k xs)
    where
      by : (t : Bool) → length (filter p (take k xs)) ≤ length (filter p xs) → length (cond t (x ∷ filter p (take k xs)) (filter p (take k xs))) ≤ length (cond t (x ∷ filter p xs) (filter p xs))
      by true rest = omega arith
      by false rest = rest

-- a list of which so many places are mapped: the next one is as it was, and is mapped then
module _ {X : Type 0} (f : X → X) where
  pub mapped_here : (xs : List X) (i : ℕ) (d : X) → i < length xs → get_or (map f (take i xs) ++ drop i xs) i d ≡ get_or xs i d
  mapped_here [] i d low = absurd (omega arith)
  mapped_here (x ∷ xs) zero d low = refl
  mapped_here (x ∷ xs) (suc i) d low = mapped_here xs i d (omega arith)

  pub mapped_next : (xs : List X) (i : ℕ) (d : X) → i < length xs → set (map f (take i xs) ++ drop i xs) i (f (get_or xs i d)) ≡ map f (take (suc i) xs) ++ drop (suc i) xs
  mapped_next [] i d low = absurd (omega arith)
  mapped_next (x ∷ xs) zero d low = refl
  mapped_next (x ∷ xs) (suc i) d low = ap (λ l. f x ∷ l) (mapped_next xs i d (omega arith))

-- what a mapped option was before
pub mapped_none : {X Y : Type 0} (f : X → Y) (o : Option X) → option_map f o ≡ None → o ≡ None
mapped_none f None is = refl
mapped_none f (Some x) is = absurd (none_some (sym is))

pub mapped_some : {X Y : Type 0} (f : X → Y) (o : Option X) (y : Y) → option_map f o ≡ Some y → (x : X) × (o ≡ Some x) × (f x ≡ y)
mapped_some f None y is = absurd (none_some is)
mapped_some f (Some x) y is = (x, refl, some_is is)
