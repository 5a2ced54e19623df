-- The names of a directory's entries, once they are sorted.
use Rattle.std.proofs.Common.{◌≡◌, ◌≢◌, ℕ, zero, suc, ◌+◌, Bool, false, true, List, [], ◌∷◌, map, slice_get, slice_index_or, Contains, AllPairs, IsPermutation, IsSorted, Option, Some, None, IsSome, refl, sym, ap, ◌∙◌, subst, arith}
use Rattle.std.specs.List.{IsDistinct, AllByRecursion}
use Rattle.std.specs.declared.cmp.Ordering.{Ordering}
use Rattle.std.specs.declared.cmp.Ordering.TheVariants.{Less, Equal, Greater}
use Rattle.std.specs.Ordering.{nat_cmp, is_eq, is_lt, eq_by_cmp, ordering_reverse}
use Rattle.std.specs.Cmp.Lexicographic.{slice_cmp}
use Rattle.std.specs.FinMap.{slice_cmp-IsAntisymmetric, nat_cmp-IsAntisymmetric}
use Rattle.std.proofs.lemmas.List.Sorted.{Contains-permutation, IsPermutation-sym}
use Rattle.std.proofs.lemmas.Map.Keys.{IsDistinct-IsPermutation}
use Rattle.zj_layout.specs.declared.fields.Link.{Link}
use Rattle.zj_layout.specs.Graph.{Graph, links_of, named, AreApart}
use Rattle.zj_layout.proofs.Follow.{Name', none_some, named_stands, named_none}
use Rattle.zj_changes.specs.Walk.{ListsEntries}
use Rattle.zj_changes.proofs.Listed.{IsBelow, names_total}

abbrev alike : Name' → Name' → Bool
alike = eq_by_cmp (slice_cmp nat_cmp)

-- names that are alike are the same
alike_same : (a b : Name') → a ≢ b → alike a b ≡ false
alike_same a b ne = by (slice_cmp nat_cmp a b) refl
  where
    by : (r : Ordering) → slice_cmp nat_cmp a b ≡ r → is_eq (slice_cmp nat_cmp a b) ≡ false
    by Less e = ap is_eq e
    by Equal e = absurd (ne (slice_cmp-IsAntisymmetric nat_cmp-IsAntisymmetric a b e))
    by Greater e = ap is_eq e

alike_flips : (a b : Name') → alike a b ≡ alike b a
alike_flips a b = ap is_eq (names_total.antisymm a b) ∙ by (slice_cmp nat_cmp b a)
  where
    by : (r : Ordering) → is_eq (ordering_reverse r) ≡ is_eq r
    by Less = refl
    by Equal = refl
    by Greater = refl

abbrev names_of : List Link → List Name'
names_of links = map (λ (l : Link). l.name) links

-- entries that are apart have distinct names
names_distinct : (links : List Link) → AreApart links → IsDistinct alike (names_of links)
unfolding IsDistinct
names_distinct [] apart = tt
names_distinct (x ∷ xs) apart = (others xs (λ k l at. first k l at), names_distinct xs (record { each = λ j k l m hj hk e. pred_same j k (apart.each (suc j) (suc k) l m hj hk e) }))
  where
    pred_same : (j k : ℕ) → suc j ≡ suc k → j ≡ k
    pred_same j k e = omega arith

    first : (k : ℕ) (l : Link) → slice_get xs k ≡ Some l → x.name ≢ l.name
    first k l at e = omega (arith, apart.each zero (suc k) x l refl at e)

    others : (ys : List Link) → ((k : ℕ) (l : Link) → slice_get ys k ≡ Some l → x.name ≢ l.name) → AllByRecursion (λ y. alike x.name y ≡ false) (names_of ys)
    others [] h = tt
    others (y ∷ ys) h = (alike_same x.name y.name (h 0 y refl), others ys (λ k l at. h (suc k) l at))

-- distinct names that are sorted ascend
ascends : (xs : List Name') → IsSorted (slice_cmp nat_cmp) xs → IsDistinct alike xs → AllPairs IsBelow xs
unfolding IsDistinct
ascends [] sorted distinct = λ i j d lt within. absurd (omega arith)
ascends (x ∷ []) sorted distinct = λ i j d lt within. absurd (omega arith)
ascends (x ∷ y ∷ ys) sorted distinct =
    let rest = ascends (y ∷ ys) (λ k d le within. subst (λ n. is_lt (slice_cmp nat_cmp (at (x ∷ y ∷ ys) n d) (at (y ∷ ys) k d)) ≡ false) (suc_one k) (sorted (suc k) d (omega arith) (omega arith))) distinct.1 in
    all (next (slice_cmp nat_cmp x y) refl) rest
  where
    at : List Name' → ℕ → Name' → Name'
    at names k d = slice_index_or names k d

    suc_one : (k : ℕ) → suc k + 1 ≡ suc (k + 1)
    suc_one k = omega arith

    next : (r : Ordering) → slice_cmp nat_cmp x y ≡ r → IsBelow x y
    next Less e = e
    next Equal e = absurd (clash (sym (ap is_eq e) ∙ distinct.0.0))
      where
        clash : true ≡ false → ⊥
        clash z = cc
    next Greater e = absurd (clash (sym (ap is_lt (names_total.antisymm y x ∙ ap ordering_reverse e)) ∙ sorted 0 x (omega arith) (omega arith)))
      where
        clash : true ≡ false → ⊥
        clash z = cc

    all : IsBelow x y → AllPairs IsBelow (y ∷ ys) → AllPairs IsBelow (x ∷ y ∷ ys)
    all less rest i zero d lt within = absurd (omega arith)
    all less rest zero (suc zero) d lt within = less
    all less rest zero (suc (suc j)) d lt within = names_total.trans x y (slice_index_or ys j d) less (rest 0 (suc j) d (omega arith) (omega arith))
    all less rest (suc i) (suc j) d lt within = rest i j d (omega arith) (omega arith)

-- what has a name among some entries
names_contain : (links : List Link) (k : ℕ) (l : Link) → slice_get links k ≡ Some l → Contains (names_of links) l.name
names_contain [] k l at = absurd (none_some at)
names_contain (x ∷ xs) zero l at = (0, omega arith, ap (λ (o : Option Link). name_or o) at)
  where
    name_or : Option Link → Name'
    name_or (Some m) = m.name
    name_or None = []
names_contain (x ∷ xs) (suc k) l at = let rest = names_contain xs k l at in (suc rest.0, omega (arith, rest.1), rest.2)

contained : (links : List Link) (name : Name') → Contains (names_of links) name → (k : ℕ) × (l : Link) × (slice_get links k ≡ Some l) × (l.name ≡ name)
contained [] name (k, lt, e) = absurd (omega arith)
contained (x ∷ xs) name (zero, lt, e) = (0, x, refl, e)
contained (x ∷ xs) name (suc k, lt, e) = let rest = contained xs name (k, omega arith, e) in (suc rest.0, rest.1, rest.2, rest.3)

-- The names of a directory's entries, sorted, are its listing.
pub sorted_lists : (graph : Graph) (dir : ℕ) (listed : List Name') → AreApart (links_of (graph dir)) → IsPermutation (names_of (links_of (graph dir))) listed → IsSorted (slice_cmp nat_cmp) listed → ListsEntries graph dir listed
sorted_lists graph dir listed apart same sorted = record {
  names = λ name. (λ c. has name (named name links) refl (contained links name (Contains-permutation listed (names_of links) name (IsPermutation-sym (names_of links) listed same) c)), λ some. is name (named name links) refl some);
  ascending = ascends listed sorted (IsDistinct-IsPermutation alike alike_flips (names_of links) listed same (names_distinct links apart));
}
  where
    links : List Link
    links = links_of (graph dir)

    has : (name : Name') (o : Option ℕ) → named name links ≡ o → (k : ℕ) × (l : Link) × (slice_get links k ≡ Some l) × (l.name ≡ name) → IsSome o
    has name None e c = absurd (named_none links name c.0 c.1 e c.2 c.3)
    has name (Some node) e c = refl

    is : (name : Name') (o : Option ℕ) → named name links ≡ o → IsSome o → Contains listed name
    is name None e some = absurd cc
    is name (Some node) e some =
        let stands = named_stands links name node e in
        subst (Contains listed) stands.name_is (Contains-permutation (names_of links) listed stands.link.name same (names_contain links stands.place stands.link stands.at))
