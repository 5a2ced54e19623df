-- The words of a text are the words that it was spelled from.
use Rattle.std.proofs.Common.{◌≡◌, ℕ, ◌+◌, ◌<◌, ◌^◌, ◌%◌, ◌==◌, Bool, true, false, ◌&&◌, not, List, [], ◌∷◌, ◌++◌, IsTrue, decimal, refl, sym, ap, ◌∙◌, subst, arith, eqb-true, append-nil}
use Rattle.std.specs.List.{All, flat_map, list_all}
use Rattle.std.proofs.lemmas.Bool.Decides.{nat_tests}
use Rattle.std.proofs.lemmas.Fmt.{decimal_by_steps}
use Rattle.std.proofs.lemmas.List.Folds.{list_all-append}
use Rattle.std.proofs.lemmas.List.Splits.{slice_split_at, slice_split_none}
use Rattle.std.proofs.lemmas.List.Sums.{AllPass-from_list_all}
use Rattle.zj_tree.specs.Name.{is_name, is_name_byte}
use Rattle.zj_tree.specs.Path.{is_path, path_text, step_text}
use Rattle.zj_script.specs.Parts.{parts_of}
use Rattle.zj_script.specs.Words.{spaced, spelled}

abbrev pub no_space : ℕ → Bool
no_space b = not (b == 32)

-- a word has no space
abbrev pub IsWord : List ℕ → Type 0
IsWord word = list_all no_space word ≡ true

-- ---- all bytes of a text

not_space : (b : Bool) → not b ≡ true → b ≡ false
not_space true e = sym e
not_space false e = refl

pub all_words : (word : List ℕ) → IsWord word → All (λ b. (b == 32) ≡ false) word
all_words word is k d below = not_space _ (AllPass-from_list_all no_space word is k d below)

pub both : (a b : Bool) → a ≡ true → b ≡ true → (a && b) ≡ true
both true b p q = q
both false b p q = p

pub first : (a b : Bool) → (a && b) ≡ true → a ≡ true
first true b p = refl
first false b p = p

pub second : (a b : Bool) → (a && b) ≡ true → b ≡ true
second true b p = p
second false b p = absurd (cc)

pub word_append : (a b : List ℕ) → IsWord a → IsWord b → IsWord (a ++ b)
word_append a b p q = list_all-append no_space a b ∙ both _ _ p q

weaker : (p : ℕ → Bool) → ((b : ℕ) → p b ≡ true → no_space b ≡ true) → (text : List ℕ) → list_all p text ≡ true → IsWord text
weaker p to [] all = refl
weaker p to (b ∷ text) all = both _ _ (to b (first _ _ all)) (weaker p to text (second _ _ all))

-- ---- which texts are words

pub decimal_is_word : (n : ℕ) → n < 2 ^ 64 → IsWord (decimal n)
decimal_is_word = decimal_by_steps (λ n digits. IsWord digits) (λ n low. digit n low) (λ n digits high is. word_append digits ((48 + n % 10) ∷ []) is (digit (n % 10) (omega arith)))
  where
    digit : (n : ℕ) → n < 10 → IsWord ((48 + n) ∷ [])
    digit n low = grind (arith, nat_tests)

name_byte : (b : ℕ) → is_name_byte b ≡ true → no_space b ≡ true
name_byte b is = by (b == 32) refl
  where
    by : (t : Bool) → (b == 32) ≡ t → not t ≡ true
    by false e = refl
    by true e = absurd (subst (λ n. is_name_byte n ≡ true → ⊥) (sym (eqb-true b 32 e)) (λ t. cc) is)

name_is_word : (name : List ℕ) → is_name name ≡ true → IsWord name
name_is_word name is = weaker is_name_byte name_byte name (second _ _ (first _ _ is))

steps_are_word : (path : List (List ℕ)) → list_all is_name path ≡ true → IsWord (flat_map step_text path)
steps_are_word [] all = refl
steps_are_word (name ∷ path) all = word_append name (flat_map step_text path) (name_is_word name (first _ _ all)) (steps_are_word path (second _ _ all))

pub path_is_word : (path : List (List ℕ)) → IsTrue (is_path path) → IsWord (path_text path)
path_is_word [] is = refl
path_is_word (name ∷ path) is = steps_are_word (name ∷ path) (second _ _ is)

-- ---- from words to their text, and back

-- all words of a list
abbrev pub AreWords : List (List ℕ) → Type 0
AreWords [] = Unit {0}
AreWords (word ∷ words) = IsWord word × AreWords words

pub words_back : (word : List ℕ) (words : List (List ℕ)) → AreWords (word ∷ words) → parts_of 32 (spelled (word ∷ words)) ≡ word ∷ words
words_back word [] are = slice_split_none (λ b. b == 32) word (all_words word are.0)
words_back word (next ∷ words) are =
    slice_split_at (λ b. b == 32) word 32 (spelled (next ∷ words)) (all_words word are.0) refl ∙ ap (λ (rest : List (List ℕ)). word ∷ rest) (words_back next words are.1)

-- the text of words, word by word
pub spelled-cons : (word : List ℕ) (words : List (List ℕ)) → spelled (word ∷ words) ≡ word ++ flat_map spaced words
spelled-cons word [] = sym (append-nil word)
spelled-cons word (next ∷ words) = ap (λ (rest : List ℕ). word ++ 32 ∷ rest) (spelled-cons next words)
