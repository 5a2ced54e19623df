-- The least number of tickets that one of several cores may still draw.
use Rattle.std.proofs.Common.{◌≡◌, ◌⊎◌, inl, inr, ⊎_elim, ℕ, ◌+◌, ◌<◌, ◌≤◌, min, List, [], length, get_or, Some, slice_get, All, sym, ap, ◌∙◌, subst, arith}
use mathlib.Core.Logic.{dite}
use native.Mathlib.Decide.{ℕ_discrete}
use Rattle.std.proofs.lemmas.Option.{slice_get-get_or, slice_get_within}
use Rattle.zj_layout.proofs.Follow.{some_is}
use Rattle.zj_turns.specs.Passes.{left_of}
use Rattle.zj_core.specs.Core.{CoreState}
use Rattle.zj_session.proofs.Cores.{none_long}
use Rattle.zj_session.proofs.Lists.{all_at}

-- it is no more than that of the first n cores
abbrev pub IsAtMost : {D : Type 0} → List (CoreState D) → ℕ → ℕ → Type 0
IsAtMost {D} cores n least = (i : ℕ) (c : CoreState D) → i < n → slice_get cores i ≡ Some c → least ≤ left_of c.pass

-- it is that of one of them, or there is none yet
abbrev pub IsOfOne : {D : Type 0} → List (CoreState D) → ℕ → ℕ → Type 0
IsOfOne {D} cores n least = ((n ≡ 0) × (least ≡ 4294967295)) ⊎ ((i : ℕ) × (c : CoreState D) × (slice_get cores i ≡ Some c) × (left_of c.pass ≡ least))

module _ {D : Type 0} (cores items : List (CoreState D)) (same : items ≡ cores) (n : ℕ) (low : n < length items) (c : CoreState D) (is : c ≡ get_or items n c) (least left now : ℕ) (left_is : left ≡ left_of c.pass) (now_is : now ≡ min least left) where
  there : slice_get cores n ≡ Some c
  there = ap (λ (l : List (CoreState D)). slice_get l n) (sym same) ∙ slice_get-get_or items n c low ∙ ap Some (sym is)

  pub at_most_more : IsAtMost cores n least → IsAtMost cores (n + 1) now
  at_most_more each i d below at = dite (ℕ_discrete i n)
      (λ here.
      let at_n : slice_get cores n ≡ Some d = ap (slice_get cores) (sym here) ∙ at in
      let own : c ≡ d = some_is (sym there ∙ at_n) in
      subst (λ (e : CoreState D). now ≤ left_of e.pass) own (omega (arith, now_is, left_is)))
      (λ apart.
      let under : i < n = omega arith in
      let before = each i d under at in
      omega (arith, before, now_is))

  pub of_one_more : IsOfOne cores n least → IsOfOne cores (n + 1) now
  of_one_more one = dite (ℕ_discrete now left)
      (λ here. inr (n, c, there, sym left_is ∙ sym here))
      (λ apart.
      let kept : now ≡ least = omega (arith, now_is, apart) in
      ⊎_elim
      (λ r. absurd (let none = r.1 in omega (arith, none, left_is, now_is, apart)))
      (λ (r : (i : ℕ) × (e : CoreState D) × (slice_get cores i ≡ Some e) × (left_of e.pass ≡ least)). inr (r.0, r.1, r.2, r.3 ∙ sym kept))
      one)

pub at_most_all : {D : Type 0} (cores items : List (CoreState D)) → items ≡ cores → (n least : ℕ) → length items ≤ n → IsAtMost cores n least → All (λ c. least ≤ left_of c.pass) cores
at_most_all {D} cores items same n least over each =
    let long = ap length same in
    all_at (λ (c : CoreState D). least ≤ left_of c.pass) cores (λ i c at. let within = slice_get_within cores i c at in each i c (omega arith) at)

pub of_one_all : {D : Type 0} (cores items : List (CoreState D)) → items ≡ cores → (n least : ℕ) → length items ≤ n → IsOfOne cores n least → (cores ≡ []) ⊎ ((i : ℕ) × (c : CoreState D) × (slice_get cores i ≡ Some c) × (left_of c.pass ≡ least))
of_one_all cores items same n least over one = ⊎_elim (λ r. inl (none_long cores (let long = ap length same in let none = r.0 in omega arith))) (λ r. inr r) one
