-- Parts in order, one of which is put in.
use Rattle.std.proofs.Common.{◌≡◌, ◌≢◌, ◌⊎◌, inl, inr, ℕ, zero, suc, ◌+◌, ◌<◌, ◌≤◌, Bool, true, false, cond, ◌&&◌, T, add-one, add-zero, take, eqb, eq-eqb, ne_eqb, List, [], ◌∷◌, length, get_or, set, insert, Option, Some, None, refl, sym, ap, ◌∙◌, subst, arith}
use Rattle.std.specs.Prelude.{find, slice_get, IfSome, is_none}
use Rattle.std.specs.Ordering.{nat_cmp, eq_by_cmp, is_lt}
use Rattle.std.specs.FinMap.{find as find_key, is_sorted}
use Rattle.std.specs.FinMap.Entries.{below_all}
use Rattle.std.proofs.lemmas.Bool.Decides.{nat_tests}
use Rattle.zj_block.specs.declared.numbers.Stamp.{Stamp}
use Rattle.zj_history.proofs.Writes.{same_key, other_key}
use Rattle.std.specs.Option.{option_map, option_or}
use Rattle.std.proofs.lemmas.Bool.{cases_eq, cases_order}
use Rattle.std.proofs.lemmas.Option.{same_Some, slice_get_within, get_or_from_slice_get}
use Rattle.std.proofs.lemmas.List.Sums.{count_by_more_yes, count_by_more_no, sum_by-take-le}
use Rattle.zj_tx.specs.declared.part.Part.{Part}
use Rattle.std.specs.List.{AllByRecursion, count_by}
use Rattle.std.proofs.lemmas.List.{length-set}
use Rattle.std.proofs.lemmas.List.Edits.{length-insert}
use Rattle.zj_tx.specs.Record.{Ascends, IsPart}
use Rattle.zj_tx.specs.Frozen.{Image, image_in}
use Rattle.zj_tx.specs.Running.{stamped}
use Rattle.zj_tx.specs.Parts.{part_image, IsPut, IsPartPlace}

-- the image of a longer list
pub image_in-cons : (q : Part) (parts : List Part) (block : ℕ) → image_in (q ∷ parts) block ≡ cond (eqb q.block.0 block) (Some (part_image q)) (image_in parts block)
image_in-cons q parts block = by (eqb q.block.0 block)
  where
    by : (b : Bool) → option_map part_image (cond b (Some q) (find (λ p. eqb p.block.0 block) parts)) ≡ cond b (Some (part_image q)) (option_map part_image (find (λ p. eqb p.block.0 block) parts))
    by true = refl
    by false = refl

-- of two tests for different numbers, one may be made first
swapped : (a b block : ℕ) (x y z : Option Image) → (a ≡ b → ⊥) → cond (eqb a block) x (cond (eqb b block) y z) ≡ cond (eqb b block) y (cond (eqb a block) x z)
swapped a b block x y z other = by (cases_eq a block) (cases_eq b block)
  where
    by : (a ≡ block) ⊎ (a ≡ block → ⊥) → (b ≡ block) ⊎ (b ≡ block → ⊥) → cond (eqb a block) x (cond (eqb b block) y z) ≡ cond (eqb b block) y (cond (eqb a block) x z)
    by (inl e) (inl f) = absurd (other (e ∙ sym f))
    by (inl e) (inr f) = ap (λ t. cond t x (cond (eqb b block) y z)) (eq-eqb a block e) ∙ sym (ap (λ t. cond t y (cond (eqb a block) x z)) (ne_eqb b block f) ∙ ap (λ t. cond t x z) (eq-eqb a block e))
    by (inr e) f = ap (λ t. cond t x (cond (eqb b block) y z)) (ne_eqb a block e) ∙ sym (ap (λ t. cond (eqb b block) y (cond t x z)) (ne_eqb a block e))

-- the test of the same number that comes first counts
hidden : (a b block : ℕ) (x y z : Option Image) → a ≡ b → cond (eqb a block) x (cond (eqb b block) y z) ≡ cond (eqb a block) x z
hidden a b block x y z same = by (cases_eq a block)
  where
    by : (a ≡ block) ⊎ (a ≡ block → ⊥) → cond (eqb a block) x (cond (eqb b block) y z) ≡ cond (eqb a block) x z
    by (inl e) = ap (λ t. cond t x (cond (eqb b block) y z)) (eq-eqb a block e) ∙ sym (ap (λ t. cond t x z) (eq-eqb a block e))
    by (inr e) = ap (λ t. cond (eqb a block) x (cond t y z)) (ne_eqb b block (λ f. e (same ∙ f)))

pub image_in-insert : (parts : List Part) (p : Part) (at : ℕ) (block : ℕ) → at ≤ length parts → ((k : ℕ) (d : Part) → k < at → (get_or parts k d).block.0 < p.block.0)
    → image_in (insert parts at p) block ≡ cond (eqb p.block.0 block) (Some (part_image p)) (image_in parts block)
image_in-insert parts p zero block le smaller = image_in-cons p parts block
image_in-insert [] p (suc at) block le smaller = absurd (omega (arith, le))
image_in-insert (q ∷ parts) p (suc at) block le smaller =
    let rest = image_in-insert parts p at block (omega (arith, le)) (λ k d lt. smaller (suc k) d (omega (arith, lt))) in
    let less = smaller 0 p (omega arith) in
    image_in-cons q (insert parts at p) block ∙ ap (λ x. cond (eqb q.block.0 block) (Some (part_image q)) x) rest
    ∙ swapped q.block.0 p.block.0 block (Some (part_image q)) (Some (part_image p)) (image_in parts block) (λ e. omega (arith, e, less))
    ∙ sym (ap (λ x. cond (eqb p.block.0 block) (Some (part_image p)) x) (image_in-cons q parts block))

pub image_in-set : (parts : List Part) (p : Part) (at : ℕ) (block : ℕ) → at < length parts → ((k : ℕ) (d : Part) → k < at → (get_or parts k d).block.0 < p.block.0) → (get_or parts at p).block.0 ≡ p.block.0
    → image_in (set parts at p) block ≡ cond (eqb p.block.0 block) (Some (part_image p)) (image_in parts block)
image_in-set [] p at block lt smaller same = absurd (omega (arith, lt))
image_in-set (q ∷ parts) p zero block lt smaller same =
    image_in-cons p parts block ∙ sym (hidden p.block.0 q.block.0 block (Some (part_image p)) (Some (part_image q)) (image_in parts block) (sym same))
    ∙ sym (ap (λ x. cond (eqb p.block.0 block) (Some (part_image p)) x) (image_in-cons q parts block))
image_in-set (q ∷ parts) p (suc at) block lt smaller same =
    let rest = image_in-set parts p at block (omega (arith, lt)) (λ k d less. smaller (suc k) d (omega (arith, less))) same in
    let less = smaller 0 p (omega arith) in
    image_in-cons q (set parts at p) block ∙ ap (λ x. cond (eqb q.block.0 block) (Some (part_image q)) x) rest
    ∙ swapped q.block.0 p.block.0 block (Some (part_image q)) (Some (part_image p)) (image_in parts block) (λ e. omega (arith, e, less))
    ∙ sym (ap (λ x. cond (eqb p.block.0 block) (Some (part_image p)) x) (image_in-cons q parts block))

-- a first block that is not below another may be asked to be above a smaller one
ascends_from : (least more : ℕ) (parts : List Part) → Ascends least parts → ((d : Part) → 0 < length parts → more ≤ (get_or parts 0 d).block.0) → Ascends more parts
ascends_from least more [] a first = tt
ascends_from least more (q ∷ parts) a first = (first q (omega arith), a.1)

pub ascends-insert : (least : ℕ) (parts : List Part) (p : Part) (at : ℕ) → Ascends least parts → least ≤ p.block.0 → at ≤ length parts → ((k : ℕ) (d : Part) → k < at → (get_or parts k d).block.0 < p.block.0)
    → ((d : Part) → at < length parts → p.block.0 < (get_or parts at d).block.0) → Ascends least (insert parts at p)
ascends-insert least parts p zero a low le smaller above = (low, ascends_from least (p.block.0 + 1) parts a (λ d some. let up = above d some in omega (arith, up)))
ascends-insert least [] p (suc at) a low le smaller above = absurd (omega (arith, le))
ascends-insert least (q ∷ parts) p (suc at) a low le smaller above =
    let less = smaller 0 p (omega arith) in
    (a.0, ascends-insert (q.block.0 + 1) parts p at a.1 (omega (arith, less)) (omega (arith, le)) (λ k d lt. smaller (suc k) d (omega (arith, lt))) (λ d lt. above d (omega (arith, lt))))

pub ascends-set : (least : ℕ) (parts : List Part) (p : Part) (at : ℕ) → Ascends least parts → at < length parts → (get_or parts at p).block.0 ≡ p.block.0 → Ascends least (set parts at p)
ascends-set least [] p at a lt same = absurd (omega (arith, lt))
ascends-set least (q ∷ parts) p zero a lt same = (subst (λ n. least ≤ n) same a.0, subst (λ n. Ascends (n + 1) parts) same a.1)
ascends-set least (q ∷ parts) p (suc at) a lt same = (a.0, ascends-set (q.block.0 + 1) parts p at a.1 (omega (arith, lt)) same)

-- blocks that ascend from a least one on have no smaller one
pub none_below : (least : ℕ) (parts : List Part) (block : ℕ) → Ascends least parts → block < least → image_in parts block ≡ None
none_below least [] block a lt = refl
none_below least (q ∷ parts) block a lt =
    let up = a.0 in
    image_in-cons q parts block ∙ ap (λ b. cond b (Some (part_image q)) (image_in parts block)) (ne_eqb q.block.0 block (λ e. omega (arith, e, up, lt))) ∙ none_below (q.block.0 + 1) parts block a.1 (omega (arith, up, lt))

-- a block that stands at a place, behind smaller ones, has an image
some_at : (parts : List Part) (block at : ℕ) → at < length parts → ((k : ℕ) (d : Part) → k < at → (get_or parts k d).block.0 < block) → ((d : Part) → (get_or parts at d).block.0 ≡ block) → is_none (image_in parts block) ≡ false
some_at [] block at lt smaller same = absurd (omega (arith, lt))
some_at (q ∷ parts) block zero lt smaller same = ap is_none (image_in-cons q parts block ∙ ap (λ b. cond b (Some (part_image q)) (image_in parts block)) (eq-eqb q.block.0 block (same q)))
some_at (q ∷ parts) block (suc at) lt smaller same =
    let less = smaller 0 q (omega arith) in
    ap is_none (image_in-cons q parts block ∙ ap (λ b. cond b (Some (part_image q)) (image_in parts block)) (ne_eqb q.block.0 block (λ e. omega (arith, e, less))))
    ∙ some_at parts block at (omega (arith, lt)) (λ k d less_k. smaller (suc k) d (omega (arith, less_k))) same

-- a block between smaller and greater ones has none
none_at : (least : ℕ) (parts : List Part) (block at : ℕ) → Ascends least parts → at ≤ length parts → ((k : ℕ) (d : Part) → k < at → (get_or parts k d).block.0 < block) → ((d : Part) → at < length parts → block < (get_or parts at d).block.0) → image_in parts block ≡ None
none_at least [] block at a le smaller above = refl
none_at least (q ∷ parts) block zero a le smaller above = none_below q.block.0 (q ∷ parts) block (omega arith, a.1) (above q (omega arith))
none_at least (q ∷ parts) block (suc at) a le smaller above =
    let less = smaller 0 q (omega arith) in
    image_in-cons q parts block ∙ ap (λ b. cond b (Some (part_image q)) (image_in parts block)) (ne_eqb q.block.0 block (λ e. omega (arith, e, less)))
    ∙ none_at (q.block.0 + 1) parts block at a.1 (omega (arith, le)) (λ k d lt. smaller (suc k) d (omega (arith, lt))) (λ d lt. above d (omega (arith, lt)))

pub put_over : (parts : List Part) (p : Part) (at : ℕ) → Ascends 0 parts → IsPartPlace parts p.block.0 at → at < length parts → ((d : Part) → (get_or parts at d).block.0 ≡ p.block.0) → IsPut parts (set parts at p) p
put_over parts p at a place lt same = record {
  images = λ block. image_in-set parts p at block lt place.smaller (same p);
  ascending = ascends-set 0 parts p at a lt (same p);
  many = length-set parts at p ∙ sym (ap (λ b. cond b (length parts + 1) (length parts)) (some_at parts p.block.0 at lt place.smaller same));
}

pub put_between : (parts : List Part) (p : Part) (at : ℕ) → Ascends 0 parts → IsPartPlace parts p.block.0 at → ((d : Part) → at < length parts → (get_or parts at d).block.0 ≢ p.block.0) → IsPut parts (insert parts at p) p
put_between parts p at a place other = record {
  images = λ block. image_in-insert parts p at block place.within place.smaller;
  ascending = ascends-insert 0 parts p at a (omega arith) place.within place.smaller above;
  many = length-insert parts at p place.within ∙ sym (ap (λ x. cond (is_none x) (length parts + 1) (length parts)) (none_at 0 parts p.block.0 at a place.within place.smaller above));
}
  where
    above : (d : Part) → at < length parts → p.block.0 < (get_or parts at d).block.0
    above d lt = let le = place.not_smaller d lt in let ne = other d lt in omega (arith, le, ne)

-- parts stay parts
pub parts-insert : (parts : List Part) (p : Part) (at : ℕ) → AllByRecursion IsPart parts → IsPart p → AllByRecursion IsPart (insert parts at p)
parts-insert parts p zero all is = (is, all)
parts-insert [] p (suc at) all is = (is, tt)
parts-insert (q ∷ parts) p (suc at) all is = (all.0, parts-insert parts p at all.1 is)

pub parts-set : (parts : List Part) (p : Part) (at : ℕ) → AllByRecursion IsPart parts → IsPart p → AllByRecursion IsPart (set parts at p)
parts-set [] p at all is = tt
parts-set (q ∷ parts) p zero all is = (is, all.1)
parts-set (q ∷ parts) p (suc at) all is = (all.0, parts-set parts p at all.1 is)

-- the first one is found
first_image : (p : Part) (parts : List Part) → image_in (p ∷ parts) p.block.0 ≡ Some (part_image p)
first_image p parts = image_in-cons p parts p.block.0 ∙ ap (λ b. cond b (Some (part_image p)) (image_in parts p.block.0)) (eq-eqb p.block.0 p.block.0 refl)

-- a smaller first block isn't in the other list
not_smaller : (p q : Part) (parts others : List Part) → Ascends (q.block.0 + 1) others → image_in (p ∷ parts) p.block.0 ≡ image_in (q ∷ others) p.block.0 → p.block.0 < q.block.0 → ⊥
not_smaller p q parts others a same lt =
    let no : Some (part_image p) ≡ None = sym (first_image p parts) ∙ same ∙ none_below q.block.0 (q ∷ others) p.block.0 (omega arith, a) lt in cc

-- parts in order are told by their images
pub same_parts : (least : ℕ) (parts others : List Part) → Ascends least parts → Ascends least others → ((block : ℕ) → image_in parts block ≡ image_in others block) → parts ≡ others
same_parts least [] [] a b same = refl
same_parts least [] (q ∷ others) a b same = absurd (let no : None ≡ Some (part_image q) = same q.block.0 ∙ first_image q others in cc)
same_parts least (p ∷ parts) [] a b same = absurd (let no : None ≡ Some (part_image p) = sym (same p.block.0) ∙ first_image p parts in cc)
same_parts least (p ∷ parts) (q ∷ others) a b same = together (λ c each. same_parts (p.block.0 + 1) parts others a.1 c each)
  where
    block_is : p.block.0 ≡ q.block.0
    block_is = elim (cases_order p.block.0 q.block.0) [
      | inl e ↦ e
      | inr order ↦ elim order [
        | inl lt ↦ absurd (not_smaller p q parts others b.1 (same p.block.0) lt)
        | inr lt ↦ absurd (not_smaller q p others parts a.1 (sym (same q.block.0)) lt)
      ]
    ]

    image_is : part_image p ≡ part_image q
    image_is = same_Some (part_image p) (part_image q) (sym (first_image p parts) ∙ same p.block.0 ∙ ap (image_in (q ∷ others)) block_is ∙ first_image q others)

    head : p ≡ q
    head = λ i. record { block = record { 0 = block_is i }; stamp = record { 0 = (image_is i).stamp }; image = (image_is i).content }

    tails : (block : ℕ) → (p.block.0 ≡ block) ⊎ (p.block.0 ≡ block → ⊥) → image_in parts block ≡ image_in others block
    tails block (inl e) = none_below (p.block.0 + 1) parts block a.1 (omega (arith, e)) ∙ sym (none_below (q.block.0 + 1) others block b.1 (omega (arith, e, block_is)))
    tails block (inr other) =
        sym (image_in-cons p parts block ∙ ap (λ t. cond t (Some (part_image p)) (image_in parts block)) (ne_eqb p.block.0 block other)) ∙ same block
        ∙ image_in-cons q others block ∙ ap (λ t. cond t (Some (part_image q)) (image_in others block)) (ne_eqb q.block.0 block (λ e. other (block_is ∙ e)))

    together : (Ascends (p.block.0 + 1) others → ((block : ℕ) → image_in parts block ≡ image_in others block) → parts ≡ others) → p ∷ parts ≡ q ∷ others
    together again = let rest = again (subst (λ n. Ascends (n + 1) others) (sym block_is) b.1) (λ block. tails block (cases_eq p.block.0 block)) in λ i. head i ∷ rest i

-- ---- contents put in

-- keys in order: those before a place are of smaller keys
none_before : (es : List (ℕ × List ℕ)) (i : ℕ) (e : ℕ × List ℕ) → T (is_sorted nat_cmp es) → slice_get es i ≡ Some e → find_key nat_cmp e.0 (take i es) ≡ None
none_before es zero e s is = refl
none_before [] (suc i) e s is = refl
none_before (x ∷ es) (suc i) e s is =
    let less : x.0 < e.0 = below_key x.0 es i e (T_first (below_all nat_cmp x.0 es) (is_sorted nat_cmp es) s) is in
    ap (λ b. cond b (Some x.1) (find_key nat_cmp e.0 (take i es))) (other_key x.0 e.0 (λ same. omega (arith, less, same)))
    ∙ none_before es i e (T_second (below_all nat_cmp x.0 es) (is_sorted nat_cmp es) s) is
  where
    T_first : (a b : Bool) → T (a && b) → T a
    T_first true b h = tt
    T_first false b h = h

    T_second : (a b : Bool) → T (a && b) → T b
    T_second true b h = h
    T_second false b h = absurd h

    less_of : (a b : ℕ) → T (is_lt (nat_cmp a b)) → a < b
    less_of a b h = grind (arith, nat_tests, h)

    below_key : (k : ℕ) (xs : List (ℕ × List ℕ)) (n : ℕ) (y : ℕ × List ℕ) → T (below_all nat_cmp k xs) → slice_get xs n ≡ Some y → k < y.0
    below_key k [] n y h at = absurd cc
    below_key k (z ∷ xs) zero y h at = let same : z ≡ y = same_Some z y at in subst (λ (w : ℕ × List ℕ). k < w.0) same (less_of k z.0 (T_first (is_lt (nat_cmp k z.0)) (below_all nat_cmp k xs) h))
    below_key k (z ∷ xs) (suc n) y h at = below_key k xs n y (T_second (is_lt (nat_cmp k z.0)) (below_all nat_cmp k xs) h) at

-- one more key
find_next : (es : List (ℕ × List ℕ)) (i : ℕ) (e : ℕ × List ℕ) → slice_get es i ≡ Some e → (block : ℕ) → find_key nat_cmp block (take (suc i) es) ≡ option_or (find_key nat_cmp block (take i es)) (cond (eq_by_cmp nat_cmp block e.0) (Some e.1) None)
find_next [] i e is block = absurd cc
find_next (x ∷ es) zero e is block = let same : x ≡ e = same_Some x e is in ap (λ (w : ℕ × List ℕ). cond (eq_by_cmp nat_cmp block w.0) (Some w.1) None) same
find_next (x ∷ es) (suc i) e is block = ap (λ r. cond (eq_by_cmp nat_cmp block x.0) (Some x.1) r) (find_next es i e is block) ∙ by (eq_by_cmp nat_cmp block x.0)
  where
    by : (b : Bool) → cond b (Some x.1) (option_or (find_key nat_cmp block (take i es)) (cond (eq_by_cmp nat_cmp block e.0) (Some e.1) None)) ≡ option_or (cond b (Some x.1) (find_key nat_cmp block (take i es))) (cond (eq_by_cmp nat_cmp block e.0) (Some e.1) None)
    by true = refl
    by false = refl

pub put_next : (old mid new : List Part) (es : List (ℕ × List ℕ)) (i : ℕ) (e : ℕ × List ℕ) (stamp : Stamp) → T (is_sorted nat_cmp es) → slice_get es i ≡ Some e → IsPut mid new (record { block = record { 0 = e.0 }; stamp = stamp; image = e.1 })
    → ((block : ℕ) → image_in mid block ≡ option_or (stamped stamp.0 (find_key nat_cmp block (take i es))) (image_in old block))
    → (block : ℕ) → image_in new block ≡ option_or (stamped stamp.0 (find_key nat_cmp block (take (i + 1) es))) (image_in old block)
put_next old mid new es i e stamp s is put before block =
    put.images block ∙ by (cases_eq e.0 block) ∙ sym (ap (λ n. option_or (stamped stamp.0 (find_key nat_cmp block (take n es))) (image_in old block)) (add-one i))
  where
    made : Option Image
    made = Some (record { stamp = stamp.0; content = e.1 })

    by : (e.0 ≡ block) ⊎ (e.0 ≡ block → ⊥) → cond (eqb e.0 block) made (image_in mid block) ≡ option_or (stamped stamp.0 (find_key nat_cmp block (take (suc i) es))) (image_in old block)
    by (inl same) = ap (λ t. cond t made (image_in mid block)) (eq-eqb e.0 block same)
        ∙ sym (ap (λ x. option_or (stamped stamp.0 x) (image_in old block)) (find_next es i e is block
        ∙ ap (λ x. option_or x (cond (eq_by_cmp nat_cmp block e.0) (Some e.1) None)) (subst (λ k. find_key nat_cmp k (take i es) ≡ None) same (none_before es i e s is))
        ∙ ap (λ t. cond t (Some e.1) None) (same_key e.0 block same)))
    by (inr other) = ap (λ t. cond t made (image_in mid block)) (ne_eqb e.0 block other) ∙ before block
        ∙ sym (ap (λ x. option_or (stamped stamp.0 x) (image_in old block)) (find_next es i e is block ∙ ap (λ t. option_or (find_key nat_cmp block (take i es)) (cond t (Some e.1) None)) (other_key e.0 block other) ∙ or_none (find_key nat_cmp block (take i es))))
      where
        or_none : (x : Option (List ℕ)) → option_or x None ≡ x
        or_none None = refl
        or_none (Some y) = refl

-- ---- an element within a list

pub within_some : {X : Type 0} (xs : List X) (i : ℕ) → i < length xs → (x : X) × (slice_get xs i ≡ Some x)
within_some [] i lt = absurd (omega (arith, lt))
within_some (x ∷ xs) zero lt = (x, refl)
within_some (x ∷ xs) (suc i) lt = within_some xs i (omega (arith, lt))

pub at_some : {X : Type 0} (o : Option X) (P : X → Type 0) (x : X) → o ≡ Some x → IfSome o P → P x
at_some None P x e h = absurd cc
at_some (Some y) P x e h = subst P (same_Some y x e) h

pub whole_front : {X : Type 0} (xs : List X) (i : ℕ) → length xs ≤ i → take i xs ≡ xs
whole_front [] zero le = refl
whole_front [] (suc i) le = refl
whole_front (x ∷ xs) zero le = absurd (omega (arith, le))
whole_front (x ∷ xs) (suc i) le = ap (λ ys. x ∷ ys) (whole_front xs i (omega (arith, le)))

-- ---- places

-- what each block of parts in order has is not below the least
from_least : (least : ℕ) (parts : List Part) (k : ℕ) (d : Part) → Ascends least parts → k < length parts → least ≤ (get_or parts k d).block.0
from_least least [] k d a lt = absurd (omega (arith, lt))
from_least least (q ∷ parts) zero d a lt = a.0
from_least least (q ∷ parts) (suc k) d a lt = let up = from_least (q.block.0 + 1) parts k d a.1 (omega (arith, lt)) in let low = a.0 in omega (arith, up, low)

pub ascending_order : (least : ℕ) (parts : List Part) → Ascends least parts → (i j : ℕ) (d : Part) → i ≤ j → j < length parts → (get_or parts i d).block.0 ≤ (get_or parts j d).block.0
ascending_order least [] a i j d le lt = absurd (omega (arith, lt))
ascending_order least (q ∷ parts) a zero zero d le lt = omega arith
ascending_order least (q ∷ parts) a zero (suc j) d le lt = let up = from_least (q.block.0 + 1) parts j d a.1 (omega (arith, lt)) in omega (arith, up)
ascending_order least (q ∷ parts) a (suc i) zero d le lt = absurd (omega (arith, le))
ascending_order least (q ∷ parts) a (suc i) (suc j) d le lt = ascending_order (q.block.0 + 1) parts a.1 i j d (omega (arith, le)) (omega (arith, lt))

-- the part at its block's place is the one that is found, and there is none elsewhere
pub found_at : (parts : List Part) (block at : ℕ) (p : Part) → Ascends 0 parts → IsPartPlace parts block at → slice_get parts at ≡ Some p → p.block.0 ≡ block → image_in parts block ≡ Some (part_image p)
found_at parts block at p a place is same = go parts at place.smaller is
  where
    go : (parts : List Part) (at : ℕ) → ((k : ℕ) (d : Part) → k < at → (get_or parts k d).block.0 < block) → slice_get parts at ≡ Some p → image_in parts block ≡ Some (part_image p)
    go [] at smaller is = absurd (let no : None ≡ Some p = is in cc)
    go (q ∷ parts) zero smaller is =
        let q_is : q ≡ p = same_Some q p is in
        image_in-cons q parts block ∙ ap (λ b. cond b (Some (part_image q)) (image_in parts block)) (eq-eqb q.block.0 block (ap (λ (x : Part). x.block.0) q_is ∙ same)) ∙ ap (λ x. Some (part_image x)) q_is
    go (q ∷ parts) (suc at) smaller is =
        let less = smaller 0 q (omega arith) in
        image_in-cons q parts block ∙ ap (λ b. cond b (Some (part_image q)) (image_in parts block)) (ne_eqb q.block.0 block (λ e. omega (arith, e, less)))
        ∙ go parts at (λ k d lt. smaller (suc k) d (omega (arith, lt))) is

pub missing_at : (parts : List Part) (block at : ℕ) → Ascends 0 parts → IsPartPlace parts block at → ((d : Part) → at < length parts → (get_or parts at d).block.0 ≢ block) → image_in parts block ≡ None
missing_at parts block at a place other = none_at 0 parts block at a place.within place.smaller (λ d lt. let le = place.not_smaller d lt in let ne = other d lt in omega (arith, le, ne))

-- ---- how many blocks are new

-- of the first keys none is the next one
pub still_new : (old mid : List Part) (es : List (ℕ × List ℕ)) (i : ℕ) (e : ℕ × List ℕ) (stamp : ℕ) → T (is_sorted nat_cmp es) → slice_get es i ≡ Some e
    → ((block : ℕ) → image_in mid block ≡ option_or (stamped stamp (find_key nat_cmp block (take i es))) (image_in old block))
    → is_none (image_in mid e.0) ≡ is_none (image_in old e.0)
still_new old mid es i e stamp s is before = ap is_none (before e.0 ∙ ap (λ x. option_or (stamped stamp x) (image_in old e.0)) (none_before es i e s is))

-- one more element of a list may count
pub count_next : {X : Type 0} (p : X → Bool) (xs : List X) (i : ℕ) (x : X) → slice_get xs i ≡ Some x → count_by p (take (i + 1) xs) ≡ count_by p (take i xs) + cond (p x) 1 0
count_next {X} p xs i x is = by (p x) refl
  where
    at : get_or xs i x ≡ x
    at = get_or_from_slice_get xs i x x is

    by : (b : Bool) → p x ≡ b → count_by p (take (i + 1) xs) ≡ count_by p (take i xs) + cond (p x) 1 0
    by true passes = count_by_more_yes p xs i x (slice_get_within xs i x is) (ap p at ∙ passes) ∙ ap (λ (b : Bool). count_by p (take i xs) + cond b 1 0) (sym passes)
    by false other = count_by_more_no p xs i x (slice_get_within xs i x is) (ap p at ∙ other) ∙ sym (add-zero (count_by p (take i xs))) ∙ ap (λ (b : Bool). count_by p (take i xs) + cond b 1 0) (sym other)

-- parts of which one more content was put in
pub put_many : (old mid new : List Part) (es : List (ℕ × List ℕ)) (i : ℕ) (e : ℕ × List ℕ) (stamp : ℕ) → T (is_sorted nat_cmp es) → slice_get es i ≡ Some e
    → length new ≡ cond (is_none (image_in mid e.0)) (length mid + 1) (length mid)
    → ((block : ℕ) → image_in mid block ≡ option_or (stamped stamp (find_key nat_cmp block (take i es))) (image_in old block))
    → length mid ≡ length old + count_by (λ (x : ℕ × List ℕ). is_none (image_in old x.0)) (take i es)
    → length new ≡ length old + count_by (λ (x : ℕ × List ℕ). is_none (image_in old x.0)) (take (i + 1) es)
put_many old mid new es i e stamp s is many before so_far =
    many ∙ ap (λ b. cond b (length mid + 1) (length mid)) (still_new old mid es i e stamp s is before) ∙ by (is_none (image_in old e.0)) (count_next (λ (x : ℕ × List ℕ). is_none (image_in old x.0)) es i e is)
  where
    by : (b : Bool) → count_by (λ (x : ℕ × List ℕ). is_none (image_in old x.0)) (take (i + 1) es) ≡ count_by (λ (x : ℕ × List ℕ). is_none (image_in old x.0)) (take i es) + cond b 1 0
        → cond b (length mid + 1) (length mid) ≡ length old + count_by (λ (x : ℕ × List ℕ). is_none (image_in old x.0)) (take (i + 1) es)
    by true next = omega (arith, next, so_far)
    by false next = omega (arith, next, so_far)

-- the front of a list counts no more than the whole
pub count_front : {X : Type 0} (p : X → Bool) (xs : List X) (i : ℕ) → count_by p (take i xs) ≤ count_by p xs
count_front p xs i = sum_by-take-le (λ x. cond (p x) 1 0) xs i

-- where there was no room for the next content, there was none for all
pub no_room : (old mid : List Part) (es : List (ℕ × List ℕ)) (i : ℕ) (e : ℕ × List ℕ) (stamp capacity : ℕ) → T (is_sorted nat_cmp es) → slice_get es i ≡ Some e
    → ((block : ℕ) → image_in mid block ≡ option_or (stamped stamp (find_key nat_cmp block (take i es))) (image_in old block))
    → length mid ≡ length old + count_by (λ (x : ℕ × List ℕ). is_none (image_in old x.0)) (take i es)
    → (length mid + cond (is_none (image_in mid e.0)) 1 0 ≤ capacity → ⊥) → length old + count_by (λ (x : ℕ × List ℕ). is_none (image_in old x.0)) es ≤ capacity → ⊥
no_room old mid es i e stamp capacity s is before so_far refused enough = by (is_none (image_in old e.0)) (still_new old mid es i e stamp s is before) (count_next (λ (x : ℕ × List ℕ). is_none (image_in old x.0)) es i e is)
  where
    front : count_by (λ (x : ℕ × List ℕ). is_none (image_in old x.0)) (take (i + 1) es) ≤ count_by (λ (x : ℕ × List ℕ). is_none (image_in old x.0)) es
    front = count_front (λ (x : ℕ × List ℕ). is_none (image_in old x.0)) es (i + 1)

    by : (b : Bool) → is_none (image_in mid e.0) ≡ b → count_by (λ (x : ℕ × List ℕ). is_none (image_in old x.0)) (take (i + 1) es) ≡ count_by (λ (x : ℕ × List ℕ). is_none (image_in old x.0)) (take i es) + cond b 1 0 → ⊥
    by true same next = refused (subst (λ b. length mid + cond b 1 0 ≤ capacity) (sym same) (omega (arith, next, so_far, front, enough)))
    by false same next = refused (subst (λ b. length mid + cond b 1 0 ≤ capacity) (sym same) (omega (arith, next, so_far, front, enough)))

-- ---- limits

pub parts_within : (least : ℕ) (parts : List Part) (limit : ℕ) → Ascends least parts → ((block : ℕ) → is_none (image_in parts block) ≡ false → block < limit) → AllByRecursion (λ p. p.block.0 < limit) parts
parts_within least [] limit a inside = tt
parts_within least (q ∷ parts) limit a inside = (inside q.block.0 (ap is_none (first_image q parts)), parts_within (q.block.0 + 1) parts limit a.1 (λ block some. later block some (cases_eq q.block.0 block)))
  where
    later : (block : ℕ) → is_none (image_in parts block) ≡ false → (q.block.0 ≡ block) ⊎ (q.block.0 ≡ block → ⊥) → block < limit
    later block some (inl e) = absurd (let no : true ≡ false = sym (ap is_none (none_below (q.block.0 + 1) parts block a.1 (omega (arith, e)))) ∙ some in cc)
    later block some (inr other) = inside block (ap is_none (image_in-cons q parts block ∙ ap (λ b. cond b (Some (part_image q)) (image_in parts block)) (ne_eqb q.block.0 block other)) ∙ some)
