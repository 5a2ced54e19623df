-- What a shelf in memory has under a name, after a change of the first place of that name, and after one more place.
use Rattle.std.proofs.Common.{◌≡◌, ◌≢◌, ℕ, zero, suc, ◌+◌, ◌<◌, true, false, cond, List, [], ◌∷◌, ◌++◌, length, get_or, set, Some, None, refl, sym, ap, subst, ◌∙◌, arith, inl, inr, string_bytes}
use Rattle.std.specs.Prelude.{Option, IsSome, IsTrue}
use Rattle.std.proofs.Common.{rules}
use Rattle.std.specs.List.{position_from}
use Rattle.std.specs.Str.{bytes_eq}
use Rattle.std.proofs.lemmas.Bool.{false≢true, cond-true, cond-false, cases_Bool, false_from_ne_true}
use Rattle.std.proofs.lemmas.List.{append-nil}
use Rattle.std.proofs.lemmas.Slice.Eq.{bytes_eq-Decides}
use Rattle.zj_dev.specs.MemShelf.{is_named, is_taken, held_at}
use Rattle.zj_dev.specs.declared.mem_shelf.Held.{Held}
use Rattle.zj_dev.specs.declared.mem_shelf.Held.TheVariants.{Absent}
use Rattle.zj_dev.specs.declared.mem_shelf.ShelfPlace.{ShelfPlace}

-- what a place has
abbrev pub held_of : ShelfPlace → Held
held_of place = place.held

-- the first place of the name is at this index
abbrev FirstAt : List ℕ → List ShelfPlace → ℕ → Type 0
FirstAt name [] i = ⊥
FirstAt name (place ∷ rest) zero = is_named name place ≡ true
FirstAt name (place ∷ rest) (suc i) = (is_named name place ≡ false) × FirstAt name rest i

first_from : (name : List ℕ) (places : List ShelfPlace) (k i : ℕ) → position_from (is_named name) k places ≡ Some i → (j : ℕ) × (i ≡ k + j) × FirstAt name places j
first_from name [] k i h = absurd (cc)
first_from name (place ∷ rest) k i h = elim (cases_Bool (is_named name place)) [
  | inl is ↦
      let e : Some k ≡ Some i = sym (cond-true (is_named name place) (Some k) (position_from (is_named name) (k + 1) rest) is) ∙ h in
      let n : k ≡ i = cc in
      (0, omega arith, is)
  | inr is_not ↦
      let e : position_from (is_named name) (k + 1) rest ≡ Some i = sym (cond-false (is_named name place) (Some k) (position_from (is_named name) (k + 1) rest) is_not) ∙ h in
      let later = first_from name rest (k + 1) i e in
      (suc later.0, omega (arith, later.1), (is_not, later.2))
]

first_at : (name : List ℕ) (places : List ShelfPlace) (i : ℕ) → position_from (is_named name) 0 places ≡ Some i → FirstAt name places i
first_at name places i h =
    let first = first_from name places 0 i h in
    let e : first.0 ≡ i = omega (arith, first.1) in
    subst (λ (n : ℕ). FirstAt name places n) e first.2

within : (name : List ℕ) (places : List ShelfPlace) (i : ℕ) → FirstAt name places i → i < length places
within name [] i h = absurd h
within name (place ∷ rest) zero h = omega arith
within name (place ∷ rest) (suc i) h = let l = within name rest i h.1 in omega arith

held_first : (name : List ℕ) (places : List ShelfPlace) (i : ℕ) (d : ShelfPlace) → FirstAt name places i → held_at places name ≡ held_of (get_or places i d)
held_first name [] i d h = absurd h
held_first name (place ∷ rest) zero d h = cond-true (is_named name place) (held_of place) (held_at rest name) h
held_first name (place ∷ rest) (suc i) d h = cond-false (is_named name place) (held_of place) (held_at rest name) h.0 ∙ held_first name rest i d h.1

named_first : (name : List ℕ) (places : List ShelfPlace) (i : ℕ) (d : ShelfPlace) → FirstAt name places i → is_named name (get_or places i d) ≡ true
named_first name [] i d h = absurd h
named_first name (place ∷ rest) zero d h = h
named_first name (place ∷ rest) (suc i) d h = named_first name rest i d h.1

held_set : (name : List ℕ) (places : List ShelfPlace) (i : ℕ) (new : ShelfPlace) → FirstAt name places i → is_named name new ≡ true → held_at (set places i new) name ≡ held_of new
held_set name [] i new h named = absurd h
held_set name (place ∷ rest) zero new h named = cond-true (is_named name new) (held_of new) (held_at rest name) named
held_set name (place ∷ rest) (suc i) new h named = cond-false (is_named name place) (held_of place) (held_at (set rest i new) name) h.0 ∙ held_set name rest i new h.1 named

-- a place of one name isn't of another
named_once : (name other : List ℕ) (place : ShelfPlace) → is_named name place ≡ true → other ≢ name → is_named other place ≡ false
named_once name other place is differ = false_from_ne_true (is_named other place)
    (λ also. differ (sym ((bytes_eq-Decides (string_bytes place.name) other).0 also) ∙ (bytes_eq-Decides (string_bytes place.name) name).0 is))

held_set_other : (name other : List ℕ) (places : List ShelfPlace) (i : ℕ) (new : ShelfPlace) → FirstAt name places i → is_named name new ≡ true → other ≢ name →
    held_at (set places i new) other ≡ held_at places other
held_set_other name other [] i new h named differ = absurd h
held_set_other name other (place ∷ rest) zero new h named differ =
    cond-false (is_named other new) (held_of new) (held_at rest other) (named_once name other new named differ) ∙
    sym (cond-false (is_named other place) (held_of place) (held_at rest other) (named_once name other place h differ))
held_set_other name other (place ∷ rest) (suc i) new h named differ =
    ap (λ (held : Held). cond (is_named other place) (held_of place) held) (held_set_other name other rest i new h.1 named differ)

named_like : (name : List ℕ) (place new : ShelfPlace) → new.name ≡ place.name → is_named name place ≡ true → is_named name new ≡ true
named_like name place new e is = ap (λ s. bytes_eq (string_bytes s) name) e ∙ is

-- The first place of the name is found, and changed.
pub found_within : (name : List ℕ) (places : List ShelfPlace) (i : ℕ) → position_from (is_named name) 0 places ≡ Some i → i < length places
found_within name places i h = within name places i (first_at name places i h)

pub found_held : (name : List ℕ) (places : List ShelfPlace) (i : ℕ) (here : ShelfPlace) → position_from (is_named name) 0 places ≡ Some i → here ≡ get_or places i here → held_at places name ≡ held_of here
found_held name places i here h e = held_first name places i here (first_at name places i h) ∙ ap (λ (p : ShelfPlace). held_of p) (sym e)

pub found_set : (name : List ℕ) (places : List ShelfPlace) (i : ℕ) (here new : ShelfPlace) → position_from (is_named name) 0 places ≡ Some i → here ≡ get_or places i here → new.name ≡ here.name →
    held_at (set places i new) name ≡ held_of new
found_set name places i here new h e same =
    let first = first_at name places i h in
    let named : is_named name here ≡ true = ap (λ (p : ShelfPlace). is_named name p) e ∙ named_first name places i here first in
    held_set name places i new first (named_like name here new same named)

pub found_others : (name other : List ℕ) (places : List ShelfPlace) (i : ℕ) (here new : ShelfPlace) → position_from (is_named name) 0 places ≡ Some i → here ≡ get_or places i here → new.name ≡ here.name →
    other ≢ name → held_at (set places i new) other ≡ held_at places other
found_others name other places i here new h e same differ =
    let first = first_at name places i h in
    let named : is_named name here ≡ true = ap (λ (p : ShelfPlace). is_named name p) e ∙ named_first name places i here first in
    held_set_other name other places i new first (named_like name here new same named) differ

-- No place has the name.
none_from : (name : List ℕ) (places : List ShelfPlace) (k : ℕ) (tail : List ShelfPlace) → position_from (is_named name) k places ≡ None → held_at (places ++ tail) name ≡ held_at tail name
none_from name [] k tail h = refl
none_from name (place ∷ rest) k tail h = elim (cases_Bool (is_named name place)) [
  | inl is ↦
      let e : Some k ≡ None = sym (cond-true (is_named name place) (Some k) (position_from (is_named name) (k + 1) rest) is) ∙ h in
      absurd (cc)
  | inr is_not ↦
      let e : position_from (is_named name) (k + 1) rest ≡ None = sym (cond-false (is_named name place) (Some k) (position_from (is_named name) (k + 1) rest) is_not) ∙ h in
      cond-false (is_named name place) (held_of place) (held_at (rest ++ tail) name) is_not ∙ none_from name rest (k + 1) tail e
]

pub none_held : (name : List ℕ) (places : List ShelfPlace) → position_from (is_named name) 0 places ≡ None → held_at places name ≡ Absent
none_held name places h = ap (λ (ps : List ShelfPlace). held_at ps name) (sym (append-nil places)) ∙ none_from name places 0 [] h

named_itself : (name : List ℕ) (new : ShelfPlace) → string_bytes new.name ≡ name → is_named name new ≡ true
named_itself name new e = (bytes_eq-Decides (string_bytes new.name) name).1 e

pub none_push : (name : List ℕ) (places : List ShelfPlace) (new : ShelfPlace) → position_from (is_named name) 0 places ≡ None → string_bytes new.name ≡ name → held_at (places ++ new ∷ []) name ≡ held_of new
none_push name places new h e = none_from name places 0 (new ∷ []) h ∙ cond-true (is_named name new) (held_of new) (Absent) (named_itself name new e)

pub others_push : (name other : List ℕ) (places : List ShelfPlace) (new : ShelfPlace) → string_bytes new.name ≡ name → other ≢ name → held_at (places ++ new ∷ []) other ≡ held_at places other
others_push name other [] new e differ = cond-false (is_named other new) (held_of new) (Absent) (named_once name other new (named_itself name new e) differ)
others_push name other (place ∷ rest) new e differ = ap (λ (held : Held). cond (is_named other place) (held_of place) held) (others_push name other rest new e differ)

pub pushed_held : (name : List ℕ) (places next : List ShelfPlace) (new : ShelfPlace) → position_from (is_named name) 0 places ≡ None → string_bytes new.name ≡ name → next ≡ places ++ new ∷ [] → held_at next name ≡ held_of new
pushed_held name places next new h e is = ap (λ (ps : List ShelfPlace). held_at ps name) is ∙ none_push name places new h e

pub pushed_others : (name other : List ℕ) (places next : List ShelfPlace) (new : ShelfPlace) → string_bytes new.name ≡ name → next ≡ places ++ new ∷ [] → other ≢ name → held_at next other ≡ held_at places other
pushed_others name other places next new e is differ = ap (λ (ps : List ShelfPlace). held_at ps other) is ∙ others_push name other places new e differ

-- A name that no place has isn't taken.
pub not_taken : (name : List ℕ) (places : List ShelfPlace) → position_from (is_named name) 0 places ≡ None → is_taken (held_at places name) ≡ true → ⊥
not_taken name places h is = false≢true (ap (λ (held : Held). is_taken held) (sym (none_held name places h)) ∙ is)

-- One that is taken has a place.
pub some_found : (name : List ℕ) (places : List ShelfPlace) (found : Option ℕ) → position_from (is_named name) 0 places ≡ found → IsTrue (is_taken (held_at places name)) → IsSome found
some_found name places None e is = absurd (not_taken name places e is)
some_found name places (Some i) e is = search rules
