-- Texts added one behind the other.
use Rattle.std.proofs.Common.{◌≡◌, ℕ, List, [], ◌∷◌, ◌++◌, Result, Ok, Err, OnOk, OnErr, sym, ap, ◌∙◌, append-nil, append_assoc}
use Rattle.std.specs.List.{flat_map}
use Rattle.zj_script.specs.Words.{spaced, spelled}
use Rattle.zj_script.specs.Writing.{Adds}
use Rattle.zj_script.proofs.Spelling.{spelled-cons}

-- a last text is added behind a first one
pub adds_behind : {T E : Type 0} (result : Result T E) (old middle new first last : List ℕ) (whole : List ℕ) → middle ≡ old ++ first → whole ≡ first ++ last
    → OnOk result (new ≡ middle ++ last) → OnErr result (new ≡ middle) → Adds result old new whole
adds_behind (Ok x) old middle new first last whole e w ok err =
    let all : new ≡ old ++ whole = ok ∙ ap (λ (text : List ℕ). text ++ last) e ∙ append_assoc old first last ∙ ap (λ (text : List ℕ). old ++ text) (sym w) in
    record { all = all; some = (whole, all) }
adds_behind (Err x) old middle new first last whole e w ok err = record { all = tt; some = (first, err ∙ e) }

-- a text is added
pub adds_one : {T E : Type 0} (result : Result T E) (old new text whole : List ℕ) → whole ≡ text → OnOk result (new ≡ old ++ text) → OnErr result (new ≡ old) → Adds result old new whole
adds_one result old new text whole w ok err = adds_behind result old old new [] text whole (sym (append-nil old)) w ok err

-- a line is added: its first word, the words behind it, each behind a space, and a line feed
pub adds_line : {T E : Type 0} (result : Result T E) (old one two new word : List ℕ) (words : List (List ℕ)) → one ≡ old ++ word → two ≡ one ++ flat_map spaced words
    → OnOk result (new ≡ two ++ 10 ∷ []) → OnErr result (new ≡ two) → Adds result old new (spelled (word ∷ words) ++ 10 ∷ [])
adds_line result old one two new word words a b ok err =
    let both : two ≡ old ++ spelled (word ∷ words) = b ∙ ap (λ (text : List ℕ). text ++ flat_map spaced words) a ∙ append_assoc old word (flat_map spaced words) ∙ ap (λ (text : List ℕ). old ++ text) (sym (spelled-cons word words)) in
    adds_behind result old two new (spelled (word ∷ words)) (10 ∷ []) (spelled (word ∷ words) ++ 10 ∷ []) both (λ i. spelled (word ∷ words) ++ 10 ∷ []) ok err

-- a line of an answer is added: its number, its core and its form
pub adds_answer : {T E : Type 0} (result : Result T E) (old one two three new line core : List ℕ) (words : List (List ℕ)) → one ≡ old ++ line → two ≡ one ++ spaced core → three ≡ two ++ flat_map spaced words
    → OnOk result (new ≡ three ++ 10 ∷ []) → OnErr result (new ≡ three) → Adds result old new (spelled (line ∷ core ∷ words) ++ 10 ∷ [])
adds_answer result old one two three new line core words a b c ok err =
    adds_line result old one three new line (core ∷ words) a (c ∙ ap (λ (text : List ℕ). text ++ flat_map spaced words) b ∙ append_assoc one (spaced core) (flat_map spaced words)) ok err
