-- Paths that begin with a path, and walks whose steps are as they were.
use Rattle.std.proofs.Common.{◌≡◌, ◌≢◌, ◌⊎◌, inl, inr, ℕ, zero, suc, ◌≤◌, [], ◌∷◌, ◌++◌, length, Option, Some, None, refl, sym, ap, ◌∙◌, arith, append_assoc}
use Rattle.std.specs.Option.{option_and_then}
use Rattle.std.proofs.lemmas.List.{length-append}
use native.Mathlib.Decide.{ℕ_discrete}
use Rattle.zj_layout.specs.Graph.{Graph, links_of, named, step, follow}
use Rattle.zj_changes.specs.Moved.{Begins}
use Rattle.zj_layout.proofs.Follow.{Path', Name', some_is, none_some, Ends, ends, follow_join, follow_more}
use Rattle.zj_layout.proofs.Live.{same_name}

-- a path begins with another, or not
pub begins : (x p : Path') → Begins x p ⊎ (Begins x p → ⊥)
begins x [] = inl (x, refl)
begins [] (b ∷ p) = inr (λ h. cc)
begins (a ∷ x) (b ∷ p) = by (same_name a b) (begins x p)
  where
    by : (a ≡ b) ⊎ (a ≢ b) → Begins x p ⊎ (Begins x p → ⊥) → Begins (a ∷ x) (b ∷ p) ⊎ (Begins (a ∷ x) (b ∷ p) → ⊥)
    by (inl e) (inl h) = inl (h.0, λ i. e i ∷ h.1 i)
    by (inl e) (inr away) = inr (λ h. let t : x ≡ p ++ h.0 = cc in away (h.0, t))
    by (inr ne) d = inr (λ h. let t : a ≡ b = cc in ne t)

pub nil_right : (y : Path') → y ++ [] ≡ y
nil_right [] = refl
nil_right (z ∷ y) = ap (λ (w : Path'). z ∷ w) (nil_right y)

pub begins_itself : (x y : Path') → x ≡ y → Begins x y
begins_itself x y e = ([], e ∙ sym (nil_right y))

-- a step is the one of this name in this directory, or not
pub same_step : (d e : ℕ) (a b : Name') → ((d ≡ e) × (a ≡ b)) ⊎ (d ≡ e → a ≢ b)
same_step d e a b = by (ℕ_discrete d e) (same_name a b)
  where
    by : Dec (d ≡ e) → (a ≡ b) ⊎ (a ≢ b) → ((d ≡ e) × (a ≡ b)) ⊎ (d ≡ e → a ≢ b)
    by (yes p) (inl q) = inl (p, q)
    by (yes p) (inr n) = inr (λ _. n)
    by (no n) q = inr (λ e. absurd (n e))

-- it leads to this node, or not
pub leads_or : (o : Option ℕ) (k : ℕ) → (o ≡ Some k) ⊎ (o ≢ Some k)
leads_or None k = inr none_some
leads_or (Some j) k = by (ℕ_discrete j k)
  where
    by : Dec (j ≡ k) → (◌≡◌ {A = Option ℕ} (Some j) (Some k)) ⊎ (◌≢◌ {A = Option ℕ} (Some j) (Some k))
    by (yes e) = inl (ap (λ (x : ℕ). Some x) e)
    by (no n) = inr (λ e. n (some_is e))

-- a path past a node without entries leads nowhere
pub past_leaf : (g : Graph) (x rest : Path') (k : ℕ) → follow g 0 x ≡ Some k → links_of (g k) ≡ [] → (rest ≡ []) ⊎ (follow g 0 (x ++ rest) ≡ None)
past_leaf g x [] k h e = inl refl
past_leaf g x (c ∷ rest) k h e = inr (follow_join g 0 x (c ∷ rest) ∙ ap (option_and_then (λ j. follow g j (c ∷ rest))) h ∙ ap (λ l. option_and_then (λ j. follow g j rest) (named c l)) e)

-- a path past one that leads nowhere leads nowhere
pub past_none : (g : Graph) (x rest : Path') → follow g 0 x ≡ None → follow g 0 (x ++ rest) ≡ None
past_none g x rest h = follow_join g 0 x rest ∙ ap (option_and_then (λ j. follow g j rest)) h

-- where each step of a walk from a node is as it was, the walk is
module _ (g g' : Graph) (i : ℕ) where
  pub same_walk : (m : ℕ) (x : Path') → length x ≤ m → ((x' : Path') (c : Name') (rest : Path') (d : ℕ) → x ≡ (x' ++ c ∷ []) ++ rest → follow g i x' ≡ Some d → step g' d c ≡ step g d c) → follow g' i x ≡ follow g i x
  same_walk zero x le h = by (ends x)
    where
      by : (x ≡ []) ⊎ Ends x → follow g' i x ≡ follow g i x
      by (inl e) = ap (follow g' i) e ∙ ap (follow g i) (sym e)
      by (inr e) = absurd (omega (arith, ap length e.is, length-append e.front (e.name ∷ [])))
  same_walk (suc m) x le h = by (same_walk m) (ends x)
    where
      by : ((x : Path') → length x ≤ m → ((x' : Path') (c : Name') (rest : Path') (d : ℕ) → x ≡ (x' ++ c ∷ []) ++ rest → follow g i x' ≡ Some d → step g' d c ≡ step g d c) → follow g' i x ≡ follow g i x) → (x ≡ []) ⊎ Ends x → follow g' i x ≡ follow g i x
      by go (inl e) = ap (follow g' i) e ∙ ap (follow g i) (sym e)
      by go (inr e) =
          let front = go e.front (omega (arith, ap length e.is, length-append e.front (e.name ∷ []))) (λ x' c rest d q w. h x' c (rest ++ e.name ∷ []) d (e.is ∙ ap (λ y. y ++ e.name ∷ []) q ∙ append_assoc (x' ++ c ∷ []) rest (e.name ∷ [])) w) in
          ap (follow g' i) e.is ∙ follow_more g' i e.front e.name ∙ ap (option_and_then (λ d. step g' d e.name)) front
          ∙ last (follow g i e.front) refl ∙ sym (follow_more g i e.front e.name) ∙ sym (ap (follow g i) e.is)
        where
          last : (o : Option ℕ) → follow g i e.front ≡ o → option_and_then (λ d. step g' d e.name) o ≡ option_and_then (λ d. step g d e.name) o
          last None w = refl
          last (Some d) w = h e.front e.name [] d (e.is ∙ sym (nil_right (e.front ++ e.name ∷ []))) w
