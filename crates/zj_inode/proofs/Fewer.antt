-- New contents that are among others are no more than those.
use Rattle.std.proofs.Common.{◌≡◌, ℕ, zero, suc, ◌+◌, ◌-◌, ◌<◌, ◌≤◌, Bool, true, false, cond, List, [], ◌∷◌, length, Some, None, is_some, refl, sym, ap, ◌∙◌, arith}
use Rattle.std.specs.FinMap as map_of
use Rattle.std.specs.FinMap.{empty_of_len, find, get-entries, get-remove, len-entries, len-remove}
use Rattle.std.specs.Cmp.{nat_cmp_total}
use Rattle.std.specs.Ordering.{nat_cmp, eq_by_cmp}
use native.Mathlib.Decide.{dec_lt}
use Rattle.zj_block.specs.Lists.{Entries}
use Rattle.zj_layout.specs.Shows.{Changes}
use Rattle.zj_layout.proofs.Follow.{none_some}
use Rattle.zj_dirs.specs.Trimming.{IsTrimmed}
use Rattle.zj_dirs.proofs.Put.{same_key}
use Rattle.zj_dirs.proofs.Trimmed.{nothing_put}

-- each content of the first is one of the second
abbrev IsAmong : Changes → Changes → Type 0
IsAmong some all = (k : ℕ) (c : List ℕ) → map_of.get some k ≡ Some c → map_of.get all k ≡ Some c

first_key : (m : Changes) → 0 < map_of.len m → (k : ℕ) × (c : List ℕ) × (map_of.get m k ≡ Some c)
first_key m lt = by (map_of.entries m) refl
  where
    by : (es : Entries) → map_of.entries m ≡ es → (k : ℕ) × (c : List ℕ) × (map_of.get m k ≡ Some c)
    by [] e = absurd (omega (arith, len-entries m, ap length e))
    by (x ∷ es) e = (x.0, x.1, get-entries m x.0 ∙ ap (find nat_cmp x.0) e ∙ ap (λ t. cond t (Some x.1) (find nat_cmp x.0 es)) (same_key x.0 x.0 refl))

one_less : (m : Changes) (k : ℕ) → map_of.len m ≤ map_of.len (map_of.remove m k) + 1
one_less m k = by (is_some (map_of.get m k)) (len-remove nat_cmp_total m k)
  where
    by : (b : Bool) → map_of.len (map_of.remove m k) ≡ cond b (map_of.len m - 1) (map_of.len m) → map_of.len m ≤ map_of.len (map_of.remove m k) + 1
    by true e = omega (arith, e)
    by false e = omega (arith, e)

still_among : (some all : Changes) (k : ℕ) → IsAmong some all → IsAmong (map_of.remove some k) (map_of.remove all k)
still_among some all k among q c h = get-remove nat_cmp_total all k q ∙ by (eq_by_cmp nat_cmp q k) (sym (get-remove nat_cmp_total some k q) ∙ h)
  where
    by : (b : Bool) → cond b None (map_of.get some q) ≡ Some c → cond b None (map_of.get all q) ≡ Some c
    by true e = absurd (none_some e)
    by false e = among q c e

fewer : (n : ℕ) (some all : Changes) → map_of.len all ≡ n → IsAmong some all → map_of.len some ≤ n
fewer zero some all none among = by (dec_lt 0 (map_of.len some))
  where
    by : Dec (0 < map_of.len some) → map_of.len some ≤ 0
    by (no few) = omega arith
    by (yes lt) = let f = first_key some lt in absurd (nothing_put all f.0 f.1 (empty_of_len all none) (among f.0 f.1 f.2))
fewer (suc n) some all many among =
    let f = first_key all (omega (arith, many)) in
    let less : map_of.len (map_of.remove all f.0) ≡ n = omega (arith, len-remove nat_cmp_total all f.0 ∙ ap (λ o. cond (is_some o) (map_of.len all - 1) (map_of.len all)) f.2, many) in
    let rest : map_of.len (map_of.remove some f.0) ≤ n = fewer n (map_of.remove some f.0) (map_of.remove all f.0) less (still_among some all f.0 among) in
    omega (arith, rest, one_less some f.0)

pub fewer_trimmed : (found : Entries) (built after : Changes) → IsTrimmed found built after → map_of.len after ≤ map_of.len built
fewer_trimmed found built after t = fewer (map_of.len built) after built refl (λ k c h. (t.only k c h).0)
