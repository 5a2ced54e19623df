-- Pieces read and written one after the other.
use Rattle.std.proofs.Common.{◌≡◌, ℕ, ◌-◌, List, ◌++◌, length, take, drop, Option, Some, None, Result, Ok, Err, OnErr, option_map, refl, sym, ap, ◌∙◌, arith, append_assoc, take_all, take-append-drop, length-drop}
use Rattle.zj_dev.specs.Stream.{Gave, Took}

pub took_more : (a b c : Option (List ℕ)) (x y : List ℕ) → Took a b x → Took b c y → Took a c (x ++ y)
took_more a b c x y e f = f ∙ ap (option_map (λ held. held ++ y)) e ∙ both a
  where
    both : (a : Option (List ℕ)) → option_map (λ held. held ++ y) (option_map (λ held. held ++ x) a) ≡ option_map (λ held. held ++ (x ++ y)) a
    both None = refl
    both (Some held) = ap (λ l. Some l) (append_assoc held x y)

pub gave_more : (a b c : Option (List ℕ)) (x y : List ℕ) → Gave a b x → Gave b c y → Gave a c (x ++ y)
gave_more a b c x y e f = e ∙ ap (option_map (λ rest. x ++ rest)) f ∙ both c
  where
    both : (c : Option (List ℕ)) → option_map (λ rest. x ++ rest) (option_map (λ rest. y ++ rest) c) ≡ option_map (λ rest. (x ++ y) ++ rest) c
    both None = refl
    both (Some rest) = ap (λ l. Some l) (sym (append_assoc x y rest))

-- what is behind a front is all that is left
pub all_behind : (front rest all : List ℕ) (n : ℕ) → front ++ rest ≡ all → (front ++ take n rest) ++ take (length rest - n) (drop n rest) ≡ all
all_behind front rest all n e = rw (take_all (length rest - n) (drop n rest) (omega (arith, length-drop n rest)), append_assoc front (take n rest) (drop n rest), take-append-drop n rest) e

pub on_err : {A B : Type 0} (r : Result A B) (P : Type 0) → P → OnErr r P
on_err (Ok v) P p = tt
on_err (Err e) P p = p
