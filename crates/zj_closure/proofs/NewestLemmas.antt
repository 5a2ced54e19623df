-- The newest images of more and more records.
use Rattle.std.proofs.Common.{◌≡◌, ◌⊎◌, inl, inr, ℕ, zero, suc, ◌+◌, ◌<◌, ◌≤◌, Bool, true, false, cond, eqb, eq-eqb, ne_eqb, List, [], ◌∷◌, ◌++◌, length, take, Option, Some, None, refl, sym, ap, ◌∙◌, subst, arith, append-nil, append_assoc, add-one}
use Rattle.std.specs.Prelude.{find, slice_get, IfSome}
use Rattle.std.specs.List.{fold, flat_map, range_with_len}
use Rattle.std.specs.Option.{option_map}
use Rattle.std.proofs.lemmas.Bool.{cases_eq, le-ltb}
use Rattle.std.proofs.lemmas.Option.{same_Some}
use Rattle.std.proofs.lemmas.List.Sums.{fold-append}
use Rattle.std.proofs.lemmas.List.Elements.{filter-append}
use Rattle.zj_tx.specs.declared.part.Part.{Part}
use Rattle.zj_tx.specs.Record.{Record, Ascends}
use Rattle.zj_tx.specs.Frozen.{Image, image_in}
use Rattle.zj_tx.specs.Parts.{part_image}
use Rattle.zj_closure.specs.Recovered.{newer, records_below}
use Rattle.zj_closure.specs.Newest.{HasNewer, HasNewestOf}

-- the image of a longer list
image_in-cons : (q : Part) (parts : List Part) (block : ℕ) → image_in (q ∷ parts) block ≡ cond (eqb q.block.0 block) (Some (part_image q)) (image_in parts block)
image_in-cons q parts block = by (eqb q.block.0 block)
  where
    by : (b : Bool) → option_map part_image (cond b (Some q) (find (λ p. eqb p.block.0 block) parts)) ≡ cond b (Some (part_image q)) (option_map part_image (find (λ p. eqb p.block.0 block) parts))
    by true = refl
    by false = refl

-- ---- fronts of lists

pub take_next : {X : Type 0} (xs : List X) (i : ℕ) (x : X) → slice_get xs i ≡ Some x → take (i + 1) xs ≡ take i xs ++ x ∷ []
take_next {X = X} xs i x e = ap (λ n. take n xs) (add-one i) ∙ by xs i e
  where
    by : (ys : List X) (n : ℕ) → slice_get ys n ≡ Some x → take (suc n) ys ≡ take n ys ++ x ∷ []
    by [] n is = absurd cc
    by (y ∷ ys) zero is = let same : y ≡ x = same_Some y x is in ap (λ z. z ∷ []) same
    by (y ∷ ys) (suc n) is = ap (λ zs. y ∷ zs) (by ys n is)

pub range_next : (a n : ℕ) → range_with_len a (suc n) ≡ range_with_len a n ++ (a + n) ∷ []
range_next a zero = let e : a ≡ a + 0 = omega arith in ap (λ x. x ∷ []) e
range_next a (suc n) = let e : (a + 1) + n ≡ a + suc n = omega arith in ap (λ xs. a ∷ xs) (range_next (a + 1) n ∙ ap (λ x. range_with_len (a + 1) n ++ x ∷ []) e)

pub flat_map-append : {X Y : Type 0} (f : X → List Y) (xs ys : List X) → flat_map f (xs ++ ys) ≡ flat_map f xs ++ flat_map f ys
flat_map-append f [] ys = refl
flat_map-append f (x ∷ xs) ys = ap (λ l. f x ++ l) (flat_map-append f xs ys) ∙ sym (append_assoc (f x) (flat_map f xs) (flat_map f ys))

pub cores_next : {Y : Type 0} (f : ℕ → List Y) (n : ℕ) → flat_map f (range_with_len 0 (n + 1)) ≡ flat_map f (range_with_len 0 n) ++ f n
cores_next f n =
    let e : 0 + n ≡ n = omega arith in
    ap (λ m. flat_map f (range_with_len 0 m)) (add-one n) ∙ ap (flat_map f) (range_next 0 n) ∙ flat_map-append f (range_with_len 0 n) ((0 + n) ∷ [])
    ∙ ap (λ l. flat_map f (range_with_len 0 n) ++ l) (append-nil (f (0 + n)) ∙ ap f e)

-- ---- one record

pub newer-none : (x : Option Image) → newer x None ≡ x
newer-none None = refl
newer-none (Some x) = refl

-- blocks that ascend from a least one on have no smaller one
none_below : (least : ℕ) (parts : List Part) (block : ℕ) → Ascends least parts → block < least → image_in parts block ≡ None
none_below least [] block a lt = refl
none_below least (q ∷ parts) block a lt =
    let up = a.0 in
    image_in-cons q parts block ∙ ap (λ b. cond b (Some (part_image q)) (image_in parts block)) (ne_eqb q.block.0 block (λ e. omega (arith, e, up, lt))) ∙ none_below (q.block.0 + 1) parts block a.1 (omega (arith, up, lt))

-- the front of a record with one block more
pub image_in-next : (least : ℕ) (parts : List Part) (i : ℕ) (p : Part) → Ascends least parts → slice_get parts i ≡ Some p → (block : ℕ)
    → (image_in (take (suc i) parts) block ≡ cond (eqb p.block.0 block) (Some (part_image p)) (image_in (take i parts) block)) × (p.block.0 ≡ block → image_in (take i parts) block ≡ None) × (least ≤ p.block.0)
image_in-next least [] i p a e block = absurd cc
image_in-next least (q ∷ parts) zero p a e block =
    let same : q ≡ p = same_Some q p e in
    (image_in-cons q [] block ∙ ap (λ (x : Part). cond (eqb x.block.0 block) (Some (part_image x)) None) same, λ is. refl, subst (λ (x : Part). least ≤ x.block.0) same a.0)
image_in-next least (q ∷ parts) (suc i) p a e block =
    let rest = image_in-next (q.block.0 + 1) parts i p a.1 e block in
    let above = rest.2 in
    let low = a.0 in (
      image_in-cons q (take (suc i) parts) block ∙ ap (λ x. cond (eqb q.block.0 block) (Some (part_image q)) x) rest.0
          ∙ swap (λ same. omega (arith, same, above)) (cases_eq p.block.0 block) (cases_eq q.block.0 block)
          ∙ sym (ap (λ x. cond (eqb p.block.0 block) (Some (part_image p)) x) (image_in-cons q (take i parts) block)),
      λ is. image_in-cons q (take i parts) block ∙ ap (λ b. cond b (Some (part_image q)) (image_in (take i parts) block)) (ne_eqb q.block.0 block (λ same. omega (arith, same, is, above))) ∙ rest.1 is,
      omega (arith, low, above),
    )
  where
    swap : (q.block.0 ≡ p.block.0 → ⊥) → (p.block.0 ≡ block) ⊎ (p.block.0 ≡ block → ⊥) → (q.block.0 ≡ block) ⊎ (q.block.0 ≡ block → ⊥)
        → cond (eqb q.block.0 block) (Some (part_image q)) (cond (eqb p.block.0 block) (Some (part_image p)) (image_in (take i parts) block)) ≡ cond (eqb p.block.0 block) (Some (part_image p)) (cond (eqb q.block.0 block) (Some (part_image q)) (image_in (take i parts) block))
    swap apart (inl a') (inl b) = absurd (apart (b ∙ sym a'))
    swap apart (inl a') (inr b) = ap (λ t. cond t (Some (part_image q)) (cond (eqb p.block.0 block) (Some (part_image p)) (image_in (take i parts) block))) (ne_eqb q.block.0 block b) ∙ ap (λ t. cond t (Some (part_image p)) (image_in (take i parts) block)) (eq-eqb p.block.0 block a')
        ∙ sym (ap (λ t. cond t (Some (part_image p)) (cond (eqb q.block.0 block) (Some (part_image q)) (image_in (take i parts) block))) (eq-eqb p.block.0 block a'))
    swap apart (inr a') b = ap (λ t. cond (eqb q.block.0 block) (Some (part_image q)) (cond t (Some (part_image p)) (image_in (take i parts) block))) (ne_eqb p.block.0 block a')
        ∙ sym (ap (λ t. cond t (Some (part_image p)) (cond (eqb q.block.0 block) (Some (part_image q)) (image_in (take i parts) block))) (ne_eqb p.block.0 block a'))

pub part_more : (old mid new parts : List Part) (i : ℕ) (p : Part) → Ascends 0 parts → slice_get parts i ≡ Some p → HasNewer mid new p
    → ((block : ℕ) → image_in mid block ≡ newer (image_in old block) (image_in (take i parts) block)) → (block : ℕ) → image_in new block ≡ newer (image_in old block) (image_in (take (i + 1) parts) block)
part_more old mid new parts i p a e h before block = h.images block ∙ by (cases_eq p.block.0 block) ∙ sym (ap (λ n. newer (image_in old block) (image_in (take n parts) block)) (add-one i))
  where
    next : (image_in (take (suc i) parts) block ≡ cond (eqb p.block.0 block) (Some (part_image p)) (image_in (take i parts) block)) × (p.block.0 ≡ block → image_in (take i parts) block ≡ None) × (0 ≤ p.block.0)
    next = image_in-next 0 parts i p a e block

    by : (p.block.0 ≡ block) ⊎ (p.block.0 ≡ block → ⊥) → cond (eqb p.block.0 block) (newer (image_in mid block) (Some (part_image p))) (image_in mid block) ≡ newer (image_in old block) (image_in (take (suc i) parts) block)
    by (inl is) = ap (λ t. cond t (newer (image_in mid block) (Some (part_image p))) (image_in mid block)) (eq-eqb p.block.0 block is)
        ∙ ap (λ x. newer x (Some (part_image p))) (before block ∙ ap (newer (image_in old block)) (next.1 is) ∙ newer-none (image_in old block))
        ∙ sym (ap (newer (image_in old block)) (next.0 ∙ ap (λ t. cond t (Some (part_image p)) (image_in (take i parts) block)) (eq-eqb p.block.0 block is)))
    by (inr other) = ap (λ t. cond t (newer (image_in mid block) (Some (part_image p))) (image_in mid block)) (ne_eqb p.block.0 block other) ∙ before block
        ∙ sym (ap (newer (image_in old block)) (next.0 ∙ ap (λ t. cond t (Some (part_image p)) (image_in (take i parts) block)) (ne_eqb p.block.0 block other)))

-- the image with a place
image_at : (least : ℕ) (parts : List Part) (i : ℕ) (p : Part) → Ascends least parts → slice_get parts i ≡ Some p → (image_in parts p.block.0 ≡ Some (part_image p)) × (least ≤ p.block.0)
image_at least [] i p a e = absurd cc
image_at least (q ∷ parts) zero p a e =
    let same : q ≡ p = same_Some q p e in
    (image_in-cons q parts p.block.0 ∙ ap (λ b. cond b (Some (part_image q)) (image_in parts p.block.0)) (eq-eqb q.block.0 p.block.0 (ap (λ (x : Part). x.block.0) same)) ∙ ap (λ (x : Part). Some (part_image x)) same, subst (λ (x : Part). least ≤ x.block.0) same a.0)
image_at least (q ∷ parts) (suc i) p a e =
    let rest = image_at (q.block.0 + 1) parts i p a.1 e in
    let above = rest.1 in
    let low = a.0 in
    (image_in-cons q parts p.block.0 ∙ ap (λ b. cond b (Some (part_image q)) (image_in parts p.block.0)) (ne_eqb q.block.0 p.block.0 (λ same. omega (arith, same, above))) ∙ rest.0, omega (arith, low, above))

-- images that have a block as new as it is need no other
pub none_newer : (images : List Part) (i : ℕ) (q p : Part) → Ascends 0 images → slice_get images i ≡ Some q → q.block.0 ≡ p.block.0 → p.stamp.0 ≤ q.stamp.0 → HasNewer images images p
none_newer images i q p a e same late = record { images = λ block. sym (by block (cases_eq p.block.0 block)); ascending = a }
  where
    there : (block : ℕ) → p.block.0 ≡ block → image_in images block ≡ Some (part_image q)
    there block is = subst (λ n. image_in images n ≡ Some (part_image q)) (same ∙ is) (image_at 0 images i q a e).0

    by : (block : ℕ) → (p.block.0 ≡ block) ⊎ (p.block.0 ≡ block → ⊥) → cond (eqb p.block.0 block) (newer (image_in images block) (Some (part_image p))) (image_in images block) ≡ image_in images block
    by block (inl is) = ap (λ t. cond t (newer (image_in images block) (Some (part_image p))) (image_in images block)) (eq-eqb p.block.0 block is)
        ∙ ap (λ x. newer x (Some (part_image p))) (there block is) ∙ ap (λ b. cond b (Some (part_image p)) (Some (part_image q))) (le-ltb q.stamp.0 p.stamp.0 late) ∙ sym (there block is)
    by block (inr other) = ap (λ t. cond t (newer (image_in images block) (Some (part_image p))) (image_in images block)) (ne_eqb p.block.0 block other)

-- ---- more records

pub records_more : (old mid new : List Part) (rs ss : List Record) → HasNewestOf old mid rs → HasNewestOf mid new ss → HasNewestOf old new (rs ++ ss)
records_more old mid new rs ss h k = record {
  images = λ block. k.images block ∙ ap (λ x. fold (λ newest (r : Record). newer newest (image_in r.parts block)) x ss) (h.images block) ∙ sym (fold-append (λ newest (r : Record). newer newest (image_in r.parts block)) (image_in old block) rs ss);
  ascending = k.ascending;
}

pub below_next : (bound : ℕ) (rs : List Record) (i : ℕ) (r : Record) → slice_get rs i ≡ Some r → records_below bound (take (i + 1) rs) ≡ records_below bound (take i rs) ++ records_below bound (r ∷ [])
below_next bound rs i r e = ap (records_below bound) (take_next rs i r e) ∙ filter-append _ (take i rs) (r ∷ [])

-- ---- an element within a list

pub within_some : {X : Type 0} (xs : List X) (i : ℕ) → i < length xs → (x : X) × (slice_get xs i ≡ Some x)
within_some [] i lt = absurd (omega (arith, lt))
within_some (x ∷ xs) zero lt = (x, refl)
within_some (x ∷ xs) (suc i) lt = within_some xs i (omega (arith, lt))

pub at_some : {X : Type 0} (o : Option X) (P : X → Type 0) (x : X) → o ≡ Some x → IfSome o P → P x
at_some None P x e h = absurd cc
at_some (Some y) P x e h = subst P (same_Some y x e) h
