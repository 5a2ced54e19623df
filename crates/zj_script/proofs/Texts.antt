-- The text of bytes tells the bytes.
use Rattle.std.proofs.Common.{◌≡◌, ◌≢◌, ℕ, ◌/◌, ◌%◌, ◌<◌, Bool, true, false, cond, nat_lt, List, [], ◌∷◌, ◌++◌, length, IsTrue, refl, sym, ap, ◌∙◌, subst, arith, append_assoc}
use Rattle.std.specs.Char.{digit_char}
use Rattle.std.specs.List.{list_all}
use Rattle.std.proofs.lemmas.Bool.Decides.{nat_tests}
use Rattle.zj_script.specs.Text.{byte_text, bytes_text, has_text, is_plain}
use Rattle.zj_script.proofs.Spelling.{IsWord, first, second, word_append}

-- a digit tells its number
pub one_digit : (a b : ℕ) → a < 16 → b < 16 → digit_char a ≡ digit_char b → a ≡ b
one_digit a b small others_small e = grind (arith, nat_tests)

-- a percent sign doesn't stand for itself
not_plain : (b : ℕ) → is_plain b ≡ true → b ≢ 37
not_plain b plain e = absurd (subst (λ n. is_plain n ≡ true → ⊥) (sym e) (λ t. cc) plain)

escaped : ℕ → List ℕ
escaped b = 37 ∷ digit_char (b / 16) ∷ digit_char (b % 16) ∷ []

-- where the text of a byte ends is no choice
pub one_byte : (a b : ℕ) (x y : List ℕ) → a < 256 → b < 256 → byte_text a ++ x ≡ byte_text b ++ y → (a ≡ b) × (x ≡ y)
one_byte a b x y small others_small e = by (is_plain a) (is_plain b) refl refl e
  where
    by : (p q : Bool) → is_plain a ≡ p → is_plain b ≡ q → cond p (a ∷ []) (37 ∷ digit_char (a / 16) ∷ digit_char (a % 16) ∷ []) ++ x ≡ cond q (b ∷ []) (37 ∷ digit_char (b / 16) ∷ digit_char (b % 16) ∷ []) ++ y → (a ≡ b) × (x ≡ y)
    by true true p q e =
        let heads : a ≡ b = cc in
        let tails : x ≡ y = cc in
        (heads, tails)
    by true false p q e =
        let head : a ≡ 37 = cc in
        absurd (not_plain a p head)
    by false true p q e =
        let head : b ≡ 37 = cc in
        absurd (not_plain b q head)
    by false false p q e =
        let high : digit_char (a / 16) ≡ digit_char (b / 16) = cc in
        let low : digit_char (a % 16) ≡ digit_char (b % 16) = cc in
        let tails : x ≡ y = cc in
        let highs = one_digit (a / 16) (b / 16) (omega arith) (omega arith) high in
        let lows = one_digit (a % 16) (b % 16) (omega arith) (omega arith) low in
        (omega (arith, highs, lows), tails)

-- the text of a byte is not empty
pub some_text : (b : ℕ) (x : List ℕ) → byte_text b ++ x ≡ [] → ⊥
some_text b x e = by (is_plain b) e
  where
    by : (p : Bool) → cond p (b ∷ []) (37 ∷ digit_char (b / 16) ∷ digit_char (b % 16) ∷ []) ++ x ≡ [] → ⊥
    by true e = cc
    by false e = cc

-- all are bytes
abbrev pub AreAllBytes : List ℕ → Type 0
AreAllBytes bytes = list_all (λ b. nat_lt b 256) bytes ≡ true

is_small : (b : ℕ) → nat_lt b 256 ≡ true → b < 256
is_small b e = grind (arith, nat_tests)

-- what is behind a front of the text is the text of more bytes
pub behind : (out bytes : List ℕ) (rest : List ℕ) → AreAllBytes out → AreAllBytes bytes → bytes_text out ++ rest ≡ bytes_text bytes → (more : List ℕ) × AreAllBytes more × (rest ≡ bytes_text more)
behind [] bytes rest small others_small e = (bytes, others_small, e)
behind (a ∷ out) [] rest small others_small e = absurd (some_text a (bytes_text out ++ rest) (sym (append_assoc (byte_text a) (bytes_text out) rest) ∙ e))
behind (a ∷ out) (b ∷ bytes) rest small others_small e =
    let both = one_byte a b (bytes_text out ++ rest) (bytes_text bytes) (is_small a (first _ _ small)) (is_small b (first _ _ others_small)) (sym (append_assoc (byte_text a) (bytes_text out) rest) ∙ e) in
    behind out bytes rest (second _ _ small) (second _ _ others_small) both.1

-- some bytes have some text
pub some_bytes : (bytes : List ℕ) → IsTrue (has_text bytes) → bytes_text bytes ≡ [] → ⊥
some_bytes [] good e = absurd (cc)
some_bytes (b ∷ bytes) good e = some_text b (bytes_text bytes) e

-- where no byte's text is next, the text is none of bytes
pub no_more_bytes : (rest : List ℕ) → 0 < length rest → ((b : ℕ) (more : List ℕ) → b < 256 → rest ≡ byte_text b ++ more → ⊥) → (more : List ℕ) → AreAllBytes more → rest ≡ bytes_text more → ⊥
no_more_bytes rest some none [] small e = absurd (omega (arith, some, ap (λ (text : List ℕ). length text) e))
no_more_bytes rest some none (b ∷ more) small e = none b (bytes_text more) (is_small b (first _ _ small)) e

pub no_items : (text : List ℕ) → length text ≡ 0 → text ≡ []
no_items [] e = refl
no_items (b ∷ text) e = absurd (omega (arith, e))

-- a text is of one list of bytes
pub one_text : (a b : List ℕ) → AreAllBytes a → AreAllBytes b → bytes_text a ≡ bytes_text b → a ≡ b
one_text [] [] small others_small e = refl
one_text [] (y ∷ b) small others_small e = absurd (some_text y (bytes_text b) (sym e))
one_text (x ∷ a) [] small others_small e = absurd (some_text x (bytes_text a) e)
one_text (x ∷ a) (y ∷ b) small others_small e =
    let both = one_byte x y (bytes_text a) (bytes_text b) (is_small x (first _ _ small)) (is_small y (first _ _ others_small)) e in
    let tails = one_text a b (second _ _ small) (second _ _ others_small) both.1 in
    λ i. both.0 i ∷ tails i

-- it has no space
byte_is_word : (b : ℕ) → b < 256 → IsWord (byte_text b)
byte_is_word b small = by (is_plain b) refl
  where
    by : (p : Bool) → is_plain b ≡ p → IsWord (cond p (b ∷ []) (37 ∷ digit_char (b / 16) ∷ digit_char (b % 16) ∷ []))
    by true e = grind (arith, nat_tests)
    by false e = grind (arith, nat_tests)

pub text_is_word : (bytes : List ℕ) → AreAllBytes bytes → IsWord (bytes_text bytes)
text_is_word [] small = refl
text_is_word (b ∷ bytes) small = word_append (byte_text b) (bytes_text bytes) (byte_is_word b (is_small b (first _ _ small))) (text_is_word bytes (second _ _ small))
