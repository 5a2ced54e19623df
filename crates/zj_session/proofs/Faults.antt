-- The lowest core of which a commit failed, by answers.
use Rattle.std.proofs.Common.{◌≡◌, ◌↔◌, ⊎_elim, ◌⊎◌, inl, inr, ℕ, zero, suc, ◌+◌, ◌-◌, ◌<◌, ◌≤◌, ◌&&◌, ◌||◌, Bool, true, false, true≢false, min, List, [], ◌∷◌, ◌++◌, length, take, drop, unwrap_or, Option, Some, None, slice_get, refl, sym, ap, ◌∙◌, subst, arith}
use Rattle.std.proofs.lemmas.List.{length-drop, take_all}
use Rattle.std.proofs.lemmas.List.Folds.{list_any-append}
use Rattle.zj_layout.proofs.Follow.{none_some, some_is}
use Rattle.zj_script.specs.declared.answer.Answer.{Answer}
use Rattle.zj_session.specs.Logging.{is_fault}
use Rattle.zj_session.specs.Played.{is_on}
use Rattle.zj_session.specs.Playing.{fault_told}
use Rattle.zj_session.proofs.Roots.{not_true}
use Rattle.zj_session.proofs.Running.{front_more}

-- none is told, or the lowest
abbrev pub IsLowestCore : List Answer → Option ℕ → Type 0
IsLowestCore answers None = (core : ℕ) → fault_told answers core ≡ false
IsLowestCore answers (Some core) = (fault_told answers core ≡ true) × ((lower : ℕ) → lower < core → fault_told answers lower ≡ false)

-- an answer tells that a commit of a core has failed
abbrev pub tells : Answer → ℕ → Bool
tells a core = is_on core a.core && is_fault a.form

either_true : (one other : Bool) → (one ≡ true) ⊎ (other ≡ true) → (one || (other || false)) ≡ true
either_true true other is = refl
either_true false true is = refl
either_true false false is = absurd (⊎_elim (λ e. true≢false (sym e)) (λ e. true≢false (sym e)) is)

neither_true : (one other : Bool) → one ≡ false → other ≡ false → (one || (other || false)) ≡ false
neither_true one other none neither = λ i. none i || (neither i || false)

module _ (answers : List Answer) (a : Answer) where
  more : (core : ℕ) → fault_told (answers ++ a ∷ []) core ≡ (fault_told answers core || (tells a core || false))
  more core = list_any-append (λ (x : Answer). tells x core) answers (a ∷ [])

  told : (core : ℕ) → (fault_told answers core ≡ true) ⊎ (tells a core ≡ true) → fault_told (answers ++ a ∷ []) core ≡ true
  told core is = more core ∙ either_true (fault_told answers core) (tells a core) is

  untold : (core : ℕ) → fault_told answers core ≡ false → tells a core ≡ false → fault_told (answers ++ a ∷ []) core ≡ false
  untold core none neither = more core ∙ neither_true (fault_told answers core) (tells a core) none neither

  -- one answer more that tells of none
  pub lowest_same : (lowest : Option ℕ) → ((core : ℕ) → tells a core ≡ false) → IsLowestCore answers lowest → IsLowestCore (answers ++ a ∷ []) lowest
  lowest_same None none was = λ core. untold core (was core) (none core)
  lowest_same (Some n) none was = (told n (inl was.0), λ lower low. untold lower (was.1 lower low) (none lower))

  -- and one that tells of a core
  module _ (c : ℕ) (is : (core : ℕ) → (Some c ≡ Some core) ↔ (tells a core ≡ true)) where
    own : tells a c ≡ true
    own = (is c).0 refl

    others : (core : ℕ) → core < c → tells a core ≡ false
    others core low = not_true (tells a core) (λ tells. let same = some_is ((is core).1 tells) in absurd (omega arith))

    pub lowest_next : (lowest : Option ℕ) (n : ℕ) → n ≡ min (unwrap_or lowest c) c → IsLowestCore answers lowest → IsLowestCore (answers ++ a ∷ []) (Some n)
    lowest_next None n least was = subst (λ m. IsLowestCore (answers ++ a ∷ []) (Some m)) (let e : c ≡ n = omega (arith, least) in e)
        (told c (inr own), λ lower low. untold lower (was lower) (others lower low))
    lowest_next (Some l) n least was = (
      told n (by (cases_le l c)),
      λ lower low. untold lower (was.1 lower (omega (arith, least))) (others lower (omega (arith, least))),
    )
      where
        cases_le : (x y : ℕ) → (x ≤ y) ⊎ (y < x)
        cases_le zero y = inl (omega arith)
        cases_le (suc x) zero = inr (omega arith)
        cases_le (suc x) (suc y) = ⊎_elim (λ le. inl (omega arith)) (λ lt. inr (omega arith)) (cases_le x y)

        by : (l ≤ c) ⊎ (c < l) → (fault_told answers n ≡ true) ⊎ (tells a n ≡ true)
        by (inl le) = inl (subst (λ m. fault_told answers m ≡ true) (let e : l ≡ n = omega (arith, least) in e) was.0)
        by (inr lt) = inr (subst (λ m. tells a m ≡ true) (let e : c ≡ n = omega (arith, least) in e) own)

-- ---- answers from a place on

get_behind : {X : Type 0} (xs : List X) (from i : ℕ) → from ≤ i → slice_get (drop from xs) (i - from) ≡ slice_get xs i
get_behind xs zero i low = ap (slice_get xs) (let e : i - 0 ≡ i = omega arith in e)
get_behind [] (suc from) i low = refl
get_behind (x ∷ xs) (suc from) zero low = absurd (omega arith)
get_behind (x ∷ xs) (suc from) (suc i) low = ap (slice_get (drop from xs)) (let e : suc i - suc from ≡ i - from = omega arith in e) ∙ get_behind xs from i (omega arith)

-- those up to a place
abbrev pub between : {X : Type 0} → List X → ℕ → ℕ → List X
between xs from to = take (to - from) (drop from xs)

pub between_none : {X : Type 0} (xs : List X) (from : ℕ) → between xs from from ≡ []
between_none xs from = ap (λ n. take n (drop from xs)) (let e : from - from ≡ 0 = omega arith in e)

pub between_more : {X : Type 0} (xs : List X) (from to : ℕ) (x : X) → from ≤ to → slice_get xs to ≡ Some x → between xs from (to + 1) ≡ between xs from to ++ x ∷ []
between_more xs from to x low at =
    ap (λ n. take n (drop from xs)) (let e : (to + 1) - from ≡ suc (to - from) = omega arith in e)
    ∙ front_more (drop from xs) (to - from) x (get_behind xs from to low ∙ at)

pub between_all : {X : Type 0} (xs : List X) (from to : ℕ) → length xs ≤ to → between xs from to ≡ drop from xs
between_all xs from to far = take_all (to - from) (drop from xs) (let long = length-drop from xs in omega arith)
