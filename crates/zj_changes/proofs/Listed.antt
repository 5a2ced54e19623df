-- Names that ascend are determined by which they are.
use Rattle.std.proofs.Common.{◌≡◌, ◌⊎◌, inl, inr, zero, suc, List, [], ◌∷◌, Contains, AllPairs, refl, sym, ◌∙◌, subst, arith}
use Rattle.std.specs.declared.cmp.Ordering.TheVariants.{Less, Equal}
use Rattle.std.specs.Ordering.{nat_cmp}
use Rattle.std.specs.Cmp.{IsTotalOrder, nat_cmp_total}
use Rattle.std.specs.Cmp.Lexicographic.{slice_cmp, lists_total}
use Rattle.std.proofs.lemmas.Cmp.{tied_itself}
use Rattle.zj_layout.proofs.Follow.{Name'}

abbrev pub IsBelow : Name' → Name' → Type 0
IsBelow less more = slice_cmp nat_cmp less more ≡ Less

pub names_total : IsTotalOrder (slice_cmp nat_cmp)
names_total = lists_total nat_cmp_total

-- a name isn't below itself
not_below : (name : Name') → IsBelow name name → ⊥
not_below name less = clash (sym (tied_itself names_total name) ∙ less)
  where
    clash : Equal ≡ Less → ⊥
    clash e = cc

tail : (x : Name') (xs : List Name') → AllPairs IsBelow (x ∷ xs) → AllPairs IsBelow xs
tail x xs ascend i j d lt within = ascend (suc i) (suc j) d (omega arith) (omega arith)

-- what stands behind the first is above it
above_first : (x : Name') (xs : List Name') (name : Name') → AllPairs IsBelow (x ∷ xs) → Contains xs name → IsBelow x name
above_first x xs name ascend (k, lt, e) = subst (IsBelow x) e (ascend 0 (suc k) name (omega arith) (omega arith))

-- what stands among some is the first or stands behind it
first_or : (x : Name') (xs : List Name') (name : Name') → Contains (x ∷ xs) name → (x ≡ name) ⊎ Contains xs name
first_or x xs name (zero, lt, e) = inl e
first_or x xs name (suc k, lt, e) = inr (k, omega arith, e)

behind : (x : Name') (xs : List Name') (name : Name') → Contains xs name → Contains (x ∷ xs) name
behind x xs name (k, lt, e) = (suc k, omega arith, e)

-- what is above the first stands behind it
elsewhere : (zs : List Name') (name z w : Name') → IsBelow w name → (z ≡ name) ⊎ Contains zs name → w ≡ z → Contains zs name
elsewhere zs name z w less (inl e) same = absurd (not_below w (subst (IsBelow w) (sym (same ∙ e)) less))
elsewhere zs name z w less (inr h) same = h

pub same_ascending : (xs ys : List Name') → AllPairs IsBelow xs → AllPairs IsBelow ys → ((name : Name') → Contains xs name → Contains ys name) → ((name : Name') → Contains ys name → Contains xs name) → xs ≡ ys
same_ascending [] [] up up' there back = refl
same_ascending [] (y ∷ ys) up up' there back = absurd (none (back y (0, omega arith, refl)))
  where
    none : Contains [] y → ⊥
    none (k, lt, e) = omega arith
same_ascending (x ∷ xs) [] up up' there back = absurd (none (there x (0, omega arith, refl)))
  where
    none : Contains [] x → ⊥
    none (k, lt, e) = omega arith
same_ascending (x ∷ xs) (y ∷ ys) up up' there back =
    let rest : xs ≡ ys = same_ascending xs ys (tail x xs up) (tail y ys up')
    (λ name h. elsewhere ys name y x (above_first x xs name up h) (first_or y ys name (there name (behind x xs name h))) first)
    (λ name h. elsewhere xs name x y (above_first y ys name up' h) (first_or x xs name (back name (behind y ys name h))) (sym first)) in
    λ i. first i ∷ rest i
  where
    first : x ≡ y
    first = cases (first_or y ys x (there x (0, omega arith, refl))) (first_or x xs y (back y (0, omega arith, refl)))
      where
        cases : (y ≡ x) ⊎ Contains ys x → (x ≡ y) ⊎ Contains xs y → x ≡ y
        cases (inl e) f = sym e
        cases (inr h) (inl e) = e
        cases (inr h) (inr k) = absurd (not_below x (names_total.trans x y x (above_first x xs y up k) (above_first y ys x up' h)))
