-- Contents under numbers: what is absent, and what is found.
use Rattle.std.proofs.Common.{◌≡◌, ◌≢◌, ℕ, zero, suc, ◌<◌, List, [], ◌∷◌, ◌++◌, length, get_or, None, arith}
use Rattle.std.proofs.lemmas.Bool.Decides.{nat_tests}
use Rattle.std.proofs.lemmas.List.Quantifiers.{all_pairs_push}
use Rattle.zj_block.specs.Lists.{AreApart, content_under}

-- where a number is absent, no entry has it
pub absent_number : (entries : List (ℕ × List ℕ)) (number : ℕ) → content_under entries number ≡ None → (k : ℕ) (d : ℕ × List ℕ) → k < length entries → (get_or entries k d).0 ≢ number
absent_number [] number absent k d below same = omega arith
absent_number (entry ∷ entries) number absent zero d below same = grind (arith, nat_tests)
absent_number (entry ∷ entries) number absent (suc k) d below same = grind (arith, nat_tests, absent_number entries number)

-- an entry with a number that is absent keeps the numbers apart
pub apart_push : (entries : List (ℕ × List ℕ)) (number : ℕ) (content : List ℕ) → AreApart entries → content_under entries number ≡ None → AreApart (entries ++ (number, content) ∷ [])
apart_push entries number content apart absent =
    all_pairs_push (λ a b. a.0 ≢ b.0) entries (number, content) apart (absent_number entries number absent)
