-- Lists of faults, and tails with no fault.
use Rattle.std.proofs.Common.{◌≡◌, ℕ, ◌+◌, ◌<◌, List, [], ◌∷◌, ◌++◌, take, drop, Option, Some, None, refl, sym, ap, ◌∙◌, arith}
use Rattle.std.specs.Prelude.{map}
use Rattle.std.specs.List.{range_with_len}
use Rattle.std.proofs.lemmas.Grind.{common_steps}
use Rattle.std.proofs.lemmas.Bool.Decides.{nat_tests}
use Rattle.std.proofs.lemmas.List.{take-append-drop}
use Rattle.std.proofs.lemmas.List.FromFn.{map-range_with_len_more, take-map-range_with_len}
use Rattle.zj_block.specs.Faults.{first_fault}
use Rattle.zj_block.specs.Sizes.{Numbers}
use Rattle.zj_block.specs.declared.numbers.Tail.{Tail}
use Rattle.zj_home.specs.Super.{IsTail, tail_fault}
use Rattle.zj_home.specs.declared.fault.HomeFault.{HomeFault}

-- no fault, and then more
later : (xs ys : List (Option HomeFault)) → first_fault xs ≡ None → first_fault (xs ++ ys) ≡ first_fault ys
later [] ys h = refl
later (None ∷ xs) ys h = later xs ys h
later (Some fault ∷ xs) ys h = cc

-- a fault, and then more
earlier : (xs ys : List (Option HomeFault)) (fault : HomeFault) → first_fault xs ≡ Some fault → first_fault (xs ++ ys) ≡ Some fault
earlier [] ys fault h = cc
earlier (None ∷ xs) ys fault h = earlier xs ys fault h
earlier (Some other ∷ xs) ys fault h = h

-- one more place without a fault
pub none_more : (f : ℕ → Option HomeFault) (n : ℕ) → first_fault (map f (range_with_len 0 n)) ≡ None → f n ≡ None → first_fault (map f (range_with_len 0 (n + 1))) ≡ None
none_more f n before here =
    ap first_fault (map-range_with_len_more f 0 n n (omega arith)) ∙ later (map f (range_with_len 0 n)) (f n ∷ []) before ∙ ap (λ (o : Option HomeFault). first_fault (o ∷ [])) here

-- the first place with a fault
pub some_first : (f : ℕ → Option HomeFault) (n k : ℕ) (fault : HomeFault) → k < n → first_fault (map f (range_with_len 0 k)) ≡ None → f k ≡ Some fault → first_fault (map f (range_with_len 0 n)) ≡ Some fault
some_first f n k fault below before here =
    let all = map f (range_with_len 0 n) in
    let front : take (k + 1) all ≡ map f (range_with_len 0 (k + 1)) = take-map-range_with_len f 0 n (k + 1) (omega arith) in
    let found : first_fault (take (k + 1) all) ≡ Some fault =
    ap first_fault front ∙ ap first_fault (map-range_with_len_more f 0 k k (omega arith)) ∙ later (map f (range_with_len 0 k)) (f k ∷ []) before ∙ ap (λ (o : Option HomeFault). first_fault (o ∷ [])) here in
    ap first_fault (sym (take-append-drop (k + 1) all)) ∙ earlier (take (k + 1) all) (drop (k + 1) all) fault found

-- a tail with no fault is sound
pub tail_sound : (slot core : ℕ) (n : Numbers) (tail : Tail) → tail_fault slot n core tail ≡ None → IsTail n tail
tail_sound slot core n tail h = (grind (arith, common_steps, nat_tests), grind (arith, common_steps, nat_tests))
