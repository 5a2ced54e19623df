-- Paths, nodes and names that are the same, and that paths lead to nodes that are not free.
use Rattle.std.proofs.Common.{◌≡◌, ◌≢◌, ◌⊎◌, inl, inr, ℕ, zero, suc, Bool, true, false, List, [], ◌∷◌, ◌++◌, length, Some, IsSome, refl, sym, ap, ◌∙◌, subst, arith, slice_get}
use Rattle.std.specs.Cmp.{IsTotalOrder, nat_cmp_total}
use Rattle.std.specs.Cmp.Lexicographic.{lists_total}
use Rattle.std.specs.Ordering.{eq_by_cmp, is_eq}
use Rattle.std.specs.declared.cmp.Ordering.{Ordering}
use Rattle.std.specs.declared.cmp.Ordering.TheVariants.{Less, Equal, Greater}
use Rattle.std.specs.FinMap.{IsAntisymmetric, slice_cmp-IsAntisymmetric, nat_cmp-IsAntisymmetric}
use Rattle.std.proofs.lemmas.Cmp.{tied_itself}
use Rattle.std.proofs.lemmas.List.{length-append}
use native.Mathlib.Decide.{ℕ_discrete}
use Rattle.zj_tree.specs.Tree.{path_cmp}
use Rattle.zj_layout.specs.Graph.{Nothing, Graph, follow, IsLive, IsRooted}
use Rattle.zj_layout.proofs.Follow.{Name', Path', some_is, none_some, Ends, ends, last_step}

-- ---- paths that are the same

pub paths_total : IsTotalOrder path_cmp
paths_total = lists_total (lists_total nat_cmp_total)

pub paths_exact : IsAntisymmetric path_cmp
paths_exact = slice_cmp-IsAntisymmetric (slice_cmp-IsAntisymmetric nat_cmp-IsAntisymmetric)

pub tie : (p q : Path') → eq_by_cmp path_cmp p q ≡ true → p ≡ q
tie p q h = paths_exact p q (equal (path_cmp p q) h)
  where
    equal : (r : Ordering) → is_eq r ≡ true → r ≡ Equal
    equal Less h = absurd cc
    equal Equal h = refl
    equal Greater h = absurd cc

pub no_tie : (p q : Path') → eq_by_cmp path_cmp p q ≡ false → p ≢ q
no_tie p q h e =
    let itself : eq_by_cmp path_cmp p p ≡ true = ap is_eq (tied_itself paths_total p) in
    let other : eq_by_cmp path_cmp p p ≡ false = subst (λ x. eq_by_cmp path_cmp p x ≡ false) (sym e) h in
    cc

pub same_path : (p q : Path') → (p ≡ q) ⊎ (p ≢ q)
same_path p q = by (eq_by_cmp path_cmp p q) refl
  where
    by : (b : Bool) → eq_by_cmp path_cmp p q ≡ b → (p ≡ q) ⊎ (p ≢ q)
    by true e = inl (tie p q e)
    by false e = inr (no_tie p q e)

pub same_node : (a b : ℕ) → (a ≡ b) ⊎ (a ≢ b)
same_node a b = elim (ℕ_discrete a b) [ yes e ↦ inl e | no n ↦ inr n ]

pub same_name : (a b : Name') → (a ≡ b) ⊎ (a ≢ b)
same_name a b = by (same_path (a ∷ []) (b ∷ []))
  where
    by : (a ∷ [] ≡ b ∷ []) ⊎ (a ∷ [] ≢ b ∷ []) → (a ≡ b) ⊎ (a ≢ b)
    by (inl e) = inl (cc)
    by (inr n) = inr (λ e. n (ap (λ (x : Name'). x ∷ []) e))

not_empty : (p : Path') (a : Name') → p ++ a ∷ [] ≢ []
not_empty p a e = omega (arith, length-append p (a ∷ []), ap length e)

pub not_live : IsLive Nothing → ⊥
not_live h = cc

-- ---- an element of a list with one more
pub at_more : {A : Type 0} (xs : List A) (x y : A) (k : ℕ) → slice_get (xs ++ x ∷ []) k ≡ Some y → (slice_get xs k ≡ Some y) ⊎ ((k ≡ length xs) × (y ≡ x))
at_more [] x y zero h = inr (refl, sym (some_is h))
at_more [] x y (suc k) h = absurd (none_some h)
at_more (z ∷ xs) x y zero h = inl h
at_more (z ∷ xs) x y (suc k) h = by (at_more xs x y k h)
  where
    by : (slice_get xs k ≡ Some y) ⊎ ((k ≡ length xs) × (y ≡ x)) → (slice_get xs k ≡ Some y) ⊎ ((suc k ≡ suc (length xs)) × (y ≡ x))
    by (inl e) = inl e
    by (inr e) = inr (ap suc e.0, e.1)

pub at_old : {A : Type 0} (xs : List A) (x y : A) (k : ℕ) → slice_get xs k ≡ Some y → slice_get (xs ++ x ∷ []) k ≡ Some y
at_old [] x y k h = absurd (none_some h)
at_old (z ∷ xs) x y zero h = h
at_old (z ∷ xs) x y (suc k) h = at_old xs x y k h

-- a path leads to nodes that are not free
pub led_live : (n : ℕ) (g : Graph) → IsRooted n g → (q : Path') (i : ℕ) → follow g 0 q ≡ Some i → IsLive (g i)
led_live n g r q i h = by (ends q)
  where
    by : (q ≡ []) ⊎ Ends q → IsLive (g i)
    by (inl e) = subst (λ x. IsLive (g x)) (some_is (sym (ap (follow g 0) e) ∙ h)) (subst IsSome (sym r.root) refl)
    by (inr e) = let s = last_step g e.front e.name i (sym (ap (follow g 0) e.is) ∙ h) in (r.target s.dir i e.name s.last).1
