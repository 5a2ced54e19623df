-- The first part of a text, and those behind it.
use Rattle.std.proofs.Common.{◌≡◌, ℕ, ◌+◌, ◌-◌, ◌<◌, ◌≤◌, ◌==◌, List, [], ◌∷◌, length, take, drop, Option, Some, None, Bor, option_copied, position, sym, ap, ◌∙◌, arith, take_all, length-drop}
use Rattle.std.specs.List.{join_with_byte, position_or_len}
use Rattle.std.proofs.lemmas.List.Splits.{join_with_byte-slice_split, slice_split_first, slice_split_none, length-slice_split}
use Rattle.std.proofs.lemmas.List.Sums.{fails_before_first}
use Rattle.std.proofs.lemmas.Bool.Decides.{nat_tests}
use Rattle.zj_script.specs.Parts.{parts_of, parts_of_any}

-- a separator that was found ends the first part
pub part_ends : (separator : ℕ) (text : List ℕ) (i : ℕ) → position (λ b. b == separator) text ≡ Some i
    → parts_of separator text ≡ take i text ∷ parts_of separator (take (length text - (i + 1)) (drop (i + 1) text))
part_ends separator text i found =
    let at : (i ≡ position_or_len (λ b. b == separator) text) × (position_or_len (λ b. b == separator) text < length text) = grind (arith, nat_tests) in
    let rest : length (drop (i + 1) text) ≤ length text - (i + 1) = omega (arith, length-drop (i + 1) text) in
    rw (take_all (length text - (i + 1)) (drop (i + 1) text) rest, at.0) (slice_split_first (λ b. b == separator) text 0 at.1)

-- a text without the separator is one part
pub part_is_all : (separator : ℕ) (text : List ℕ) → position (λ b. b == separator) text ≡ None → parts_of separator text ≡ text ∷ []
part_is_all separator text none =
    let to_the_end : length text ≤ position_or_len (λ b. b == separator) text = grind (arith, nat_tests) in
    slice_split_none (λ b. b == separator) text (λ k d below. fails_before_first (λ b. b == separator) text k d (omega (arith, below, to_the_end)))

-- there is a part
pub some_part : (separator : ℕ) (text : List ℕ) → parts_of separator text ≡ [] → ⊥
some_part separator text none = absurd (omega (arith, length-slice_split (λ b. b == separator) text, ap (λ (parts : List (List ℕ)). length parts) none))

-- the words that are left spell the text that is left
pub left_text : (rest : Option (Bor (List ℕ))) (text : Bor (List ℕ)) → rest ≡ Some text → join_with_byte 32 (parts_of_any 32 (option_copied rest)) ≡ text.now
left_text rest text is = ap (λ (r : Option (Bor (List ℕ))). join_with_byte 32 (parts_of_any 32 (option_copied r))) is ∙ join_with_byte-slice_split 32 text.now

-- where a text is left, there is a part
pub left_part : (rest : Option (Bor (List ℕ))) (text : Bor (List ℕ)) → rest ≡ Some text → parts_of_any 32 (option_copied rest) ≡ [] → ⊥
left_part rest text is none = some_part 32 text.now (sym (ap (λ (r : Option (Bor (List ℕ))). parts_of_any 32 (option_copied r)) is) ∙ none)
