-- Entries that get new paths, one by one.
use Rattle.std.proofs.Common.{◌≡◌, ℕ, zero, suc, ◌+◌, ◌<◌, Bool, true, false, cond, List, [], ◌∷◌, ◌++◌, map, filter, length, get_or, set, take, drop, refl, sym, ap, ◌∙◌, arith, append_assoc, length-take}
use Rattle.std.proofs.lemmas.List.{take_more, map_push, length-map}
use Rattle.zj_tree.specs.Path.{begins_with}
use Rattle.zj_tree.specs.Changed.{moved}
use Rattle.zj_tree.specs.Moved.{moved_paths}
use Rattle.zj_tree.proofs.OrderLemmas.{Entries}
use Rattle.zj_tree.proofs.EntryLemmas.{Path'}
use Rattle.zj_tree.proofs.EditLemmas.{Entry'}
use Rattle.zj_tree.proofs.MovedLemmas.{moved_entry}

set_middle : (front : Entries) (y v : Entry') (ys : Entries) (i : ℕ) → i ≡ length front → set (front ++ y ∷ ys) i v ≡ front ++ v ∷ ys
set_middle [] y v ys zero e = refl
set_middle [] y v ys (suc i) e = absurd (omega arith)
set_middle (x ∷ front) y v ys zero e = absurd (omega arith)
set_middle (x ∷ front) y v ys (suc i) e = ap (λ xs. x ∷ xs) (set_middle front y v ys i (omega arith))

get_middle : (front : Entries) (y d : Entry') (ys : Entries) (i : ℕ) → i ≡ length front → get_or (front ++ y ∷ ys) i d ≡ y
get_middle [] y d ys zero e = refl
get_middle [] y d ys (suc i) e = absurd (omega arith)
get_middle (x ∷ front) y d ys zero e = absurd (omega arith)
get_middle (x ∷ front) y d ys (suc i) e = get_middle front y d ys i (omega arith)

first_of : (es : Entries) (i : ℕ) (d : Entry') → i < length es → drop i es ≡ get_or es i d ∷ drop (i + 1) es
first_of [] i d lt = absurd (omega arith)
first_of (e ∷ es) zero d lt = refl
first_of (e ∷ es) (suc i) d lt = first_of es i d (omega arith) ∙ ap (λ n. get_or es i d ∷ drop n (e ∷ es)) (suc_plus i)
  where
    suc_plus : (i : ℕ) → suc (i + 1) ≡ suc i + 1
    suc_plus i = omega arith

-- the new paths, of the first of some paths and of the others
pub moved_paths-cons : (from to p : Path') (ps : List Path') → moved_paths from to (p ∷ ps) ≡ moved_paths from to (p ∷ []) ++ moved_paths from to ps
moved_paths-cons from to p ps = by (begins_with p from)
  where
    by : (b : Bool) → map (moved from to) (cond b (p ∷ filter (λ path. begins_with path from) ps) (filter (λ path. begins_with path from) ps)) ≡ map (moved from to) (cond b (p ∷ []) []) ++ map (moved from to) (filter (λ path. begins_with path from) ps)
    by true = refl
    by false = refl

-- what is kept as entries get new paths
pub record HasSet (from to : Path') (es items : Entries) (paths : List Path') (i : ℕ) : Type 0 where
  pub done : items ≡ map (moved_entry from to) (take i es) ++ drop i es
  pub left : paths ≡ moved_paths from to (map (λ (e : Entry'). e.0) (drop i es))

pub has_set_more : (from to : Path') (es items : Entries) (paths after : List Path') (i : ℕ) (x new : Entry') → HasSet from to es items paths i → i < length es
    → ((rest : List Path') → paths ≡ moved_paths from to ((get_or items i x).0 ∷ []) ++ rest → (new ≡ moved_entry from to (get_or items i x)) × (after ≡ rest))
    → HasSet from to es (set items i new) after (i + 1)
has_set_more from to es items paths after i x new h within step =
    let front = map (moved_entry from to) (take i es) in
    let front_long : i ≡ length front = omega (arith, length-map (take i es) (moved_entry from to), length-take i es) in
    let tail = drop (i + 1) es in
    let split = first_of es i x within in
    let parts : items ≡ front ++ get_or es i x ∷ tail = h.done ∙ ap (λ ys. front ++ ys) split in
    let same : get_or items i x ≡ get_or es i x = ap (λ ys. get_or ys i x) parts ∙ get_middle front (get_or es i x) x tail i front_long in
    let given = step (moved_paths from to (map (λ (e : Entry'). e.0) tail))
    (h.left ∙ ap (λ ys. moved_paths from to (map (λ (e : Entry'). e.0) ys)) split ∙ moved_paths-cons from to (get_or es i x).0 (map (λ (e : Entry'). e.0) tail)
    ∙ ap (λ (e : Entry'). moved_paths from to (e.0 ∷ []) ++ moved_paths from to (map (λ (e : Entry'). e.0) tail)) (sym same)) in
    record {
      done =
          ap (λ ys. set ys i new) parts
          ∙ set_middle front (get_or es i x) new tail i front_long
          ∙ ap (λ (e : Entry'). front ++ e ∷ tail) (given.0 ∙ ap (moved_entry from to) same)
          ∙ sym (append_assoc front (moved_entry from to (get_or es i x) ∷ []) tail)
          ∙ ap (λ ys. ys ++ tail) (sym (ap (map (moved_entry from to)) (take_more es i x within) ∙ map_push (moved_entry from to) (take i es) (get_or es i x)));
      left = given.1;
    }
