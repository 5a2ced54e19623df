-- One block more that was taken: what stands under each number then, and that one fewer is left.
use Rattle.std.proofs.Common.{◌≡◌, ℕ, zero, suc, ◌+◌, ◌<◌, ◌≤◌, Bool, true, false, cond, not, eqb, eqb-true, eq-eqb, List, [], ◌∷◌, ◌++◌, Option, Some, None, refl, sym, ap, ◌∙◌, arith}
use Rattle.std.specs.Prelude.{find, is_some}
use Rattle.std.specs.List.{range_with_len, count_by, fold}
use Rattle.std.specs.Option.{option_map, option_or}
use native.Mathlib.Decide.{ℕ_discrete}
use Rattle.zj_block.specs.Lists.{Entries, content_under, count_left}

module _ (p q : ℕ → Bool) (fewer : (k : ℕ) → q k ≡ true → p k ≡ true) where
  abbrev one : Bool → ℕ
  one b = cond b 1 0

  one_fewer : (k : ℕ) → one (q k) ≤ one (p k)
  one_fewer k = by (q k) (p k) (fewer k)
    where
      by : (x y : Bool) → (x ≡ true → y ≡ true) → one x ≤ one y
      by true true h = omega arith
      by true false h = absurd (let e : false ≡ true = h refl in cc)
      by false y h = omega arith

  stays_below : (a n m m' : ℕ) → m < m' → fold (λ m k. m + one (q k)) m (range_with_len a n) < fold (λ m k. m + one (p k)) m' (range_with_len a n)
  stays_below a zero m m' lt = lt
  stays_below a (suc n) m m' lt = stays_below (a + 1) n (m + one (q a)) (m' + one (p a)) (omega (arith, one_fewer a))

  falls_at : (b : ℕ) → p b ≡ true → q b ≡ false → (a n m m' : ℕ) → a ≤ b → b < a + n → m ≤ m' → fold (λ m k. m + one (q k)) m (range_with_len a n) < fold (λ m k. m + one (p k)) m' (range_with_len a n)
  falls_at b passes fails a zero m m' le lt more = absurd (omega arith)
  falls_at b passes fails a (suc n) m m' le lt more = by (λ low high few. falls_at b passes fails (a + 1) n (m + one (q a)) (m' + one (p a)) low high few) (ℕ_discrete a b)
    where
      by : (a + 1 ≤ b → b < a + 1 + n → m + one (q a) ≤ m' + one (p a) → fold (λ m k. m + one (q k)) (m + one (q a)) (range_with_len (a + 1) n) < fold (λ m k. m + one (p k)) (m' + one (p a)) (range_with_len (a + 1) n))
          → Dec (a ≡ b) → fold (λ m k. m + one (q k)) (m + one (q a)) (range_with_len (a + 1) n) < fold (λ m k. m + one (p k)) (m' + one (p a)) (range_with_len (a + 1) n)
      by rest (yes same) =
          let none : one (q a) ≡ 0 = ap (λ k. one (q k)) same ∙ ap one fails in
          let some : one (p a) ≡ 1 = ap (λ k. one (p k)) same ∙ ap one passes in
          stays_below (a + 1) n (m + one (q a)) (m' + one (p a)) (omega arith)
      by rest (no other) = rest (omega arith) (omega arith) (omega (arith, one_fewer a))

  count_falls : (b n : ℕ) → b < n → p b ≡ true → q b ≡ false → count_by q (range_with_len 0 n) < count_by p (range_with_len 0 n)
  count_falls b n lt passes fails = falls_at b passes fails 0 n 0 0 (omega arith) (omega arith) (omega arith)

-- what stands under a number where one entry more stands behind the others
abbrev at_end : ℕ → List ℕ → ℕ → Option (List ℕ)
at_end b c k = cond (eqb b k) (Some c) None

under-push : (entries : Entries) (b : ℕ) (c : List ℕ) (k : ℕ) → content_under (entries ++ (b, c) ∷ []) k ≡ option_or (content_under entries k) (at_end b c k)
under-push [] b c k = by (eqb b k)
  where
    by : (t : Bool) → option_map (λ (e : ℕ × List ℕ). e.1) (cond t (Some (b, c)) None) ≡ cond t (Some c) None
    by true = refl
    by false = refl
under-push (x ∷ entries) b c k = by (eqb x.0 k) (under-push entries b c k)
  where
    by : (t : Bool) → content_under (entries ++ (b, c) ∷ []) k ≡ option_or (content_under entries k) (at_end b c k)
        → option_map (λ (e : ℕ × List ℕ). e.1) (cond t (Some x) (find (λ e. eqb e.0 k) (entries ++ (b, c) ∷ []))) ≡ option_or (option_map (λ (e : ℕ × List ℕ). e.1) (cond t (Some x) (find (λ e. eqb e.0 k) entries))) (at_end b c k)
    by true rest = refl
    by false rest = rest

module _ (entries : Entries) (b : ℕ) (c : List ℕ) (fresh : content_under entries b ≡ None) where
  pub under_more : (k : ℕ) → content_under (entries ++ (b, c) ∷ []) k ≡ cond (eqb b k) (Some c) (content_under entries k)
  under_more k = under-push entries b c k ∙ by (eqb b k) refl
    where
      by : (t : Bool) → eqb b k ≡ t → option_or (content_under entries k) (cond t (Some c) None) ≡ cond t (Some c) (content_under entries k)
      by true e = ap (λ o. option_or o (Some c)) (ap (content_under entries) (sym (eqb-true b k e)) ∙ fresh)
      by false e = none (content_under entries k)
        where
          none : (o : Option (List ℕ)) → option_or o None ≡ o
          none None = refl
          none (Some x) = refl

  pub fewer_left : (blocks : ℕ) → b < blocks → count_left (entries ++ (b, c) ∷ []) blocks < count_left entries blocks
  fewer_left blocks lt = count_falls (λ k. not (is_some (content_under entries k))) (λ k. not (is_some (content_under (entries ++ (b, c) ∷ []) k))) fewer b blocks lt passes fails
    where
      passes : not (is_some (content_under entries b)) ≡ true
      passes = ap (λ o. not (is_some o)) fresh

      fails : not (is_some (content_under (entries ++ (b, c) ∷ []) b)) ≡ false
      fails = ap (λ o. not (is_some o)) (under_more b ∙ ap (λ t. cond t (Some c) (content_under entries b)) (eq-eqb b b refl))

      fewer : (k : ℕ) → not (is_some (content_under (entries ++ (b, c) ∷ []) k)) ≡ true → not (is_some (content_under entries k)) ≡ true
      fewer k h = by (content_under entries k) (ap (λ o. not (is_some o)) (sym (under-push entries b c k)) ∙ h)
        where
          by : (o : Option (List ℕ)) → not (is_some (option_or o (at_end b c k))) ≡ true → not (is_some o) ≡ true
          by None h = refl
          by (Some x) h = h
