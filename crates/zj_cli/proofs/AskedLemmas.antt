-- The first line that asks for an act that isn't built.
use Rattle.std.proofs.Common.{◌≡◌, inl, inr, ℕ, ◌+◌, ◌<◌, ◌≤◌, zero, suc, List, [], ◌∷◌, ◌++◌, length, take, drop, get_or, Option, Some, false, true, refl, sym, ap, subst, arith, take_all}
use Rattle.std.specs.Prelude.{IsTrue, slice_get}
use Rattle.std.proofs.lemmas.List.Elements.{All-append, All-cons, All-nil}
use Rattle.zj_script.specs.declared.line.Line.{Line}
use Rattle.zj_script.specs.declared.fault.ScriptFault.{ScriptFault}
use Rattle.zj_script.specs.declared.fault.ScriptFault.TheVariants as refusals
use Rattle.zj_script.specs.Script.{EndsFrontOfSchedule, IsNoSchedule}
use Rattle.zj_cli.specs.declared.status.Fault.{Fault}
use Rattle.zj_cli.specs.declared.status.Fault.TheVariants as faults
use Rattle.zj_cli.specs.Asked.{AreBuilt, IsUnbuiltAt, IsUnbuiltFault, RefusesInput, act_column, is_built}
use Rattle.zj_cli.specs.Faults.{fault_of_script}

-- a list round one of its elements
round : {X : Type 0} (xs : List X) (i : ℕ) (x : X) → slice_get xs i ≡ Some x → xs ≡ take i xs ++ x ∷ drop (i + 1) xs
round {X = X} xs i x at = let one : suc i ≡ i + 1 = omega arith in subst (λ (n : ℕ). xs ≡ take i xs ++ x ∷ drop n xs) one (by xs i at)
  where
    by : (ys : List X) (k : ℕ) → slice_get ys k ≡ Some x → ys ≡ take k ys ++ x ∷ drop (suc k) ys
    by [] k e = absurd (cc (e))
    by (y ∷ ys) zero e = ap (λ (z : X). z ∷ ys) (cc (e))
    by (y ∷ ys) (suc k) e = ap (λ (zs : List X). y ∷ zs) (by ys k e)

pub take_next : {X : Type 0} (xs : List X) (i : ℕ) (x : X) → slice_get xs i ≡ Some x → take (i + 1) xs ≡ take i xs ++ x ∷ []
take_next {X = X} xs i x at = let one : suc i ≡ i + 1 = omega arith in subst (λ (n : ℕ). take n xs ≡ take i xs ++ x ∷ []) one (by xs i at)
  where
    by : (ys : List X) (k : ℕ) → slice_get ys k ≡ Some x → take (suc k) ys ≡ take k ys ++ x ∷ []
    by [] k e = absurd (cc (e))
    by (y ∷ ys) zero e = ap (λ (z : X). z ∷ []) (cc (e))
    by (y ∷ ys) (suc k) e = ap (λ (zs : List X). y ∷ zs) (by ys k e)

pub got : {X : Type 0} (xs : List X) (i : ℕ) (x : X) → i < length xs → x ≡ get_or xs i x → slice_get xs i ≡ Some x
got [] i x lt e = absurd (omega (arith, lt))
got (y ∷ xs) zero x lt e = ap Some (sym e)
got (y ∷ xs) (suc i) x lt e = got xs i x (omega (arith, lt)) e

pub one_more_built : (lines : List Line) (i : ℕ) (line : Line) → AreBuilt (take i lines) → slice_get lines i ≡ Some line → is_built line.act ≡ true → AreBuilt (take (i + 1) lines)
one_more_built lines i line built at is =
    subst AreBuilt (sym (take_next lines i line at)) (All-append (λ l. IsTrue (is_built l.act)) (take i lines) (line ∷ []) built (All-cons (λ l. IsTrue (is_built l.act)) line [] is (All-nil (λ l. IsTrue (is_built l.act)))))

pub all_built : (lines : List Line) (i : ℕ) → AreBuilt (take i lines) → length lines ≤ i → AreBuilt lines
all_built lines i built past = subst AreBuilt (take_all i lines past) built

pub unbuilt_at : (lines : List Line) (i : ℕ) (line : Line) → AreBuilt (take i lines) → slice_get lines i ≡ Some line → is_built line.act ≡ false → IsUnbuiltAt lines 2 line.number (act_column line.core)
unbuilt_at lines i line built at is = record {
  before = take i lines;
  first = line;
  later = drop (i + 1) lines;
  lines_are = round lines i line at;
  built = built;
  unbuilt = is;
  kind_is = refl;
  line_is = refl;
  column_is = refl;
}

-- ---- an input that is refused

pub refuses_unbuilt : (cores : ℕ) (input : List ℕ) (lines : List Line) (told : Option ScriptFault) (fault : Fault) → EndsFrontOfSchedule cores input lines told → IsUnbuiltFault lines fault → RefusesInput cores input fault
refuses_unbuilt cores input lines told (faults.Script kind line column) front is = inr (record { front = front.front; lines = lines; is_front = front.is_front; place = is })
refuses_unbuilt cores input lines told faults.Words front is = absurd is
refuses_unbuilt cores input lines told (faults.Image fault) front is = absurd is
refuses_unbuilt cores input lines told (faults.Device device) front is = absurd is
refuses_unbuilt cores input lines told faults.Memory front is = absurd is
refuses_unbuilt cores input lines told faults.Input front is = absurd is
refuses_unbuilt cores input lines told faults.Output front is = absurd is

pub refuses_grammar : (cores : ℕ) (input : List ℕ) (lines : List Line) (told : ScriptFault) (fault : Fault) → EndsFrontOfSchedule cores input lines (Some told) → IsNoSchedule cores input told → AreBuilt lines → fault ≡ fault_of_script told
    → RefusesInput cores input fault
refuses_grammar cores input lines told fault front none built is = subst (RefusesInput cores input) (sym is) (by told front none)
  where
    by : (told : ScriptFault) → EndsFrontOfSchedule cores input lines (Some told) → IsNoSchedule cores input told → RefusesInput cores input (fault_of_script told)
    by (refusals.Refused kind line column) front none = inl (record { front = front.front; lines = lines; is_front = front.is_front; built = built; line_is = front.behind; refused = none })
    by refusals.NoMemory front none = refl
