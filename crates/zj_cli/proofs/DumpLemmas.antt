-- The entries of a tree, counted and told one after the other.
use Rattle.std.proofs.Common.{◌≡◌, ◌∙◌, ℕ, ◌+◌, ◌<◌, ◌≤◌, Bool, true, false, cond, List, [], ◌∷◌, ◌++◌, length, take, refl, sym, ap, arith, append-nil, take_all}
use Rattle.std.specs.Prelude.{Option, Some, None, IfSome, count_by, slice_get}
use Rattle.std.specs.List.{flat_map}
use Rattle.std.proofs.lemmas.Grind.{flat_map-append}
use Rattle.std.proofs.lemmas.List.Sums.{count_by_more_no, count_by_more_yes}
use Rattle.std.proofs.lemmas.Option.{get_or_from_slice_get}
use Rattle.zj_cli.proofs.AskedLemmas.{take_next}
use Rattle.zj_cli.proofs.SpellLemmas.{none_there}

pub one_counted : {X : Type 0} (p : X → Bool) (xs : List X) (i n more : ℕ) → i < length xs → n ≡ count_by p (take i xs) → IfSome (slice_get xs i) (λ x. more ≡ cond (p x) 1 0) → n + more ≡ count_by p (take (i + 1) xs)
one_counted p xs i n more below is here = at (slice_get xs i) refl here
  where
    by : (x : _) (b : Bool) → slice_get xs i ≡ Some x → p x ≡ b → more ≡ cond b 1 0 → n + more ≡ count_by p (take (i + 1) xs)
    by x true e e' h = let next = count_by_more_yes p xs i x below (ap p (get_or_from_slice_get xs i x x e) ∙ e') in omega (arith, h, is, next)
    by x false e e' h = let next = count_by_more_no p xs i x below (ap p (get_or_from_slice_get xs i x x e) ∙ e') in omega (arith, h, is, next)

    at : (o : Option _) → slice_get xs i ≡ o → IfSome o (λ x. more ≡ cond (p x) 1 0) → n + more ≡ count_by p (take (i + 1) xs)
    at None e h = absurd (none_there xs i below e)
    at (Some x) e h = by x (p x) e refl h

pub one_told : {X : Type 0} (f : X → List ℕ) (xs : List X) (i : ℕ) (text later : List ℕ) → i < length xs → text ≡ flat_map f (take i xs) → IfSome (slice_get xs i) (λ x. later ≡ text ++ f x) → later ≡ flat_map f (take (i + 1) xs)
one_told f xs i text later below told here = at (slice_get xs i) refl here
  where
    at : (o : Option _) → slice_get xs i ≡ o → IfSome o (λ x. later ≡ text ++ f x) → later ≡ flat_map f (take (i + 1) xs)
    at None e h = absurd (none_there xs i below e)
    at (Some x) e h =
        h ∙ ap (λ (front : List ℕ). front ++ f x) told ∙ sym (ap (λ (t : List ℕ). flat_map f (take i xs) ++ t) (append-nil (f x)))
        ∙ sym (flat_map-append f (take i xs) (x ∷ [])) ∙ sym (ap (flat_map f) (take_next xs i x e))
