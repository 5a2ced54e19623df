-- Putting contents in, from the last one on.
use Rattle.std.proofs.Common.{◌≡◌, ℕ, zero, suc, ◌-◌, ◌<◌, ◌≤◌, List, [], ◌∷◌, length, drop, Option, Some, None, refl, sym, ap, ◌∙◌, arith}
use Rattle.std.specs.Prelude.{slice_get, slice_set, IsSome, IfNone, OnSome, ◌↔◌}
use Rattle.std.proofs.lemmas.Option.{get_or_from_slice_get, slice_get_within}
use Rattle.std.proofs.Math.Seq.{drop-cons}
use Rattle.zj_block.specs.Lists.{Entries}
use Rattle.zj_history.specs.State.{put_all}
use Rattle.zj_layout.specs.Image.{State}
use Rattle.zj_dirs.proofs.Seen.{some_differs}
use native.Mathlib.Decide.{dec_lt}

pub puts_none : (state : State) (entries : Entries) → state ≡ put_all state (drop (length entries) entries)
puts_none state [] = refl
puts_none state (e ∷ entries) = puts_none state entries

-- behind the last place nothing is set
set_past : {A : Type 0} (xs : List A) (i : ℕ) (x : A) → length xs ≤ i → slice_set xs i x ≡ xs
set_past [] i x le = refl
set_past (y ∷ xs) zero x le = absurd (omega arith)
set_past {A} (y ∷ xs) (suc i) x le = ap (λ (ys : List A). y ∷ ys) (set_past xs i x (omega arith))

-- what a put answers is that the content is set, also where there is no such block
pub set_either : (old new : State) (i : ℕ) (c : List ℕ) (o : Option (Unit {0})) → IsSome o ↔ (i < length old) → OnSome o (new ≡ slice_set old i c) → IfNone o (new ≡ old) → new ≡ slice_set old i c
set_either old new i c None some put none = none ∙ sym (set_past old i c (past None refl some))
  where
    past : (o : Option (Unit {0})) → o ≡ None → IsSome o ↔ (i < length old) → length old ≤ i
    past o e s = by (dec_lt i (length old))
      where
        by : Dec (i < length old) → length old ≤ i
        by (yes lt) = absurd (some_differs (s.1 lt) e)
        by (no ge) = omega arith
set_either old new i c (Some u) some put none = put

-- one more content is put
pub puts_one : (start old new : State) (entries : Entries) (i b : ℕ) (c : List ℕ) → old ≡ put_all start (drop i entries) → 0 < i → slice_get entries (i - 1) ≡ Some (b, c) → new ≡ slice_set old b c → new ≡ put_all start (drop (i - 1) entries)
puts_one start old new entries i b c is some at set =
    let within : i - 1 < length entries = slice_get_within entries (i - 1) (b, c) at in
    let next : suc (i - 1) ≡ i = omega arith in
    set ∙ ap (λ s. slice_set s b c) is
    ∙ sym (ap (put_all start) (drop-cons entries (i - 1) (b, c) within ∙ ap (λ (e : ℕ × List ℕ). e ∷ drop (suc (i - 1)) entries) (get_or_from_slice_get entries (i - 1) (b, c) (b, c) at) ∙ ap (λ n. (b, c) ∷ drop n entries) next))
