-- Answers spelled one after the other.
use Rattle.std.proofs.Common.{◌≡◌, ◌∙◌, ℕ, ◌+◌, ◌<◌, ◌≤◌, List, [], ◌∷◌, ◌++◌, length, take, zero, suc, sym, ap, arith, append-nil, take_all}
use Rattle.std.specs.Prelude.{Some, None, slice_get}
use Rattle.std.specs.List.{flat_map}
use Rattle.std.proofs.lemmas.Grind.{flat_map-append}
use Rattle.zj_script.specs.declared.answer.Answer.{Answer}
use Rattle.zj_script.specs.Answers.{answer_text}
use Rattle.zj_cli.proofs.AskedLemmas.{take_next}

pub none_spelled : (answers : List Answer) (text : List ℕ) → text ≡ [] → text ≡ flat_map answer_text (take 0 answers)
none_spelled [] text e = e
none_spelled (a ∷ answers) text e = e

pub all_spelled : (answers : List Answer) (i : ℕ) (text : List ℕ) → text ≡ flat_map answer_text (take i answers) → length answers ≤ i → text ≡ flat_map answer_text answers
all_spelled answers i text spelled past = spelled ∙ ap (flat_map answer_text) (take_all i answers past)

pub one_more_spelled : (answers : List Answer) (i : ℕ) (a : Answer) (text later : List ℕ) → text ≡ flat_map answer_text (take i answers) → slice_get answers i ≡ Some a → later ≡ text ++ answer_text a → later ≡ flat_map answer_text (take (i + 1) answers)
one_more_spelled answers i a text later spelled at adds =
    adds ∙ ap (λ (front : List ℕ). front ++ answer_text a) spelled ∙ sym (ap (λ (t : List ℕ). flat_map answer_text (take i answers) ++ t) (append-nil (answer_text a)))
    ∙ sym (flat_map-append answer_text (take i answers) (a ∷ [])) ∙ sym (ap (flat_map answer_text) (take_next answers i a at))

-- there is one at each place within
pub none_there : {X : Type 0} (xs : List X) (i : ℕ) → i < length xs → slice_get xs i ≡ None → ⊥
none_there [] i below e = omega (arith, below)
none_there (x ∷ xs) zero below e = cc
none_there (x ∷ xs) (suc i) below e = none_there xs i (omega (arith, below)) e
