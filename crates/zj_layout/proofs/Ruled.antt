-- The rules on nodes, numbers and the map, as they are read.
use Rattle.std.proofs.Common.{◌≡◌, ◌≢◌, ◌⊎◌, inl, inr, ℕ, zero, suc, ◌+◌, ◌*◌, ◌%◌, ◌<◌, ◌≤◌, Bool, true, false, ◌&&◌, ◌||◌, cond, eqb, ltb, leb, lt-ltb, ltb-true, eqb-true, eq-eqb, List, [], ◌∷◌, ◌++◌, length, take, drop, set, replicate, Option, Some, None, IsSome, refl, sym, ap, ◌∙◌, subst, arith, slice_get, slice_index, length-set}
use Rattle.std.specs.List.{list_all, list_any}
use Rattle.std.specs.Option.{unwrap_or}
use Rattle.std.proofs.lemmas.Bool.{le-leb, leb-true}
use Rattle.std.proofs.lemmas.Option.{slice_get-get_or}
use Rattle.std.proofs.lemmas.List.{get_or-set_same, get_or-set_other, get_or-take, length-take-le, length-replicate, get_or-replicate}
use Rattle.std.proofs.Math.Seq.{take-length, take-append_seam}
use Rattle.std.proofs.lemmas.List.Folds.{list_any_more}
use native.Mathlib.Decide.{ℕ_discrete}
use Rattle.zj_block.specs.Block.{zero_content, u32_at}
use Rattle.zj_block.specs.Sizes.{Numbers, first_data}
use Rattle.zj_layout.specs.declared.fields.Kind.{Kind}
use Rattle.zj_layout.specs.declared.fields.Kind.TheVariants.{Free, File, Dir}
use Rattle.zj_layout.specs.declared.fields.Node.{Node}
use Rattle.zj_layout.specs.Node.{node_in, byte_in, numbers_at, kind_of, is_node, checked_node, most_items, blocks_needed}
use Rattle.zj_layout.specs.Image.{State, block_at, Image, image_of, node_block, map_block, free_node, node_of, count_of, number_of, names_block, is_named}
use Rattle.zj_layout.specs.Rules.{IsPlaced, Rule1, Rule2, Rule6}
use Rattle.zj_layout.specs.Faults.{FailsAt}
use Rattle.zj_layout.specs.Read.{HasNodes, mark, MarksNamed, MarksApart, Repeats}
use Rattle.zj_layout.proofs.Follow.{some_is, none_some}
use Rattle.zj_layout.proofs.Changed.{names_from, names_at, named_from, named_at, not_true}
use Rattle.zj_layout.proofs.Total.{same_bool, or_cases, or_true}

-- ---- reading a block

pub block_there : (s : State) (b : ℕ) → b < length s → slice_get s b ≡ Some (block_at s b)
block_there s b lt = slice_get-get_or s b zero_content lt

pub block_read : (s : State) (b : ℕ) (c : List ℕ) → b < length s → Some c ≡ slice_get s b → c ≡ block_at s b
block_read s b c lt h = some_is (h ∙ block_there s b lt)

pub block_not_read : (s : State) (b : ℕ) → b < length s → None ≡ slice_get s b → ⊥
block_not_read s b lt h = none_some (h ∙ block_there s b lt)

pub image_node : (sizes : Numbers) (s : State) (n : ℕ) → n < sizes.nodes → (image_of sizes s).node n ≡ node_in (block_at s (node_block sizes n)) (n % 8)
image_node sizes s n lt = ap (λ x. cond x (node_in (block_at s (node_block sizes n)) (n % 8)) None) (lt-ltb n sizes.nodes lt)

pub node_read : (sizes : Numbers) (s : State) (n block : ℕ) (c : List ℕ) (o : Option Node) → n < sizes.nodes → block ≡ node_block sizes n → block < length s → Some c ≡ slice_get s block → o ≡ cond (ltb (n % 8) 8) (node_in c (n % 8)) None → o ≡ (image_of sizes s).node n
node_read sizes s n block c o lt is within h e =
    e ∙ ap (λ b. cond b (node_in c (n % 8)) None) (lt-ltb (n % 8) 8 (omega arith))
    ∙ ap (λ x. node_in x (n % 8)) (block_read s block c within h ∙ ap (block_at s) is)
    ∙ sym (image_node sizes s n lt)

pub byte_read : (sizes : Numbers) (s : State) (b : ℕ) (c : List ℕ) (x : ℕ) → b < sizes.blocks → map_block b < length s → Some c ≡ slice_get s (map_block b) → x ≡ byte_in c (b % 512) → x ≡ (image_of sizes s).map b
byte_read sizes s b c x lt within h e =
    e ∙ ap (λ y. byte_in y (b % 512)) (block_read s (map_block b) c within h)
    ∙ sym (ap (λ y. cond y (byte_in (block_at s (map_block b)) (b % 512)) 0) (lt-ltb b sizes.blocks lt))

-- ---- tests

both_l : (a b : Bool) → (a && b) ≡ true → a ≡ true
both_l true b h = refl
both_l false b h = absurd cc

both_r : (a b : Bool) → (a && b) ≡ true → b ≡ true
both_r true b h = h
both_r false b h = absurd cc

both : (a b : Bool) → a ≡ true → b ≡ true → (a && b) ≡ true
both a b p q = (λ i. p i && q i)

pub all_from : (p : ℕ → Bool) (xs : List ℕ) (j : ℕ) → list_all p xs ≡ true → j < length xs → p (slice_index xs j) ≡ true
all_from p [] j h lt = absurd (omega arith)
all_from p (x ∷ xs) zero h lt = both_l (p x) _ h
all_from p (x ∷ xs) (suc j) h lt = all_from p xs j (both_r (p x) _ h) (omega arith)

pub all_of : (p : ℕ → Bool) (xs : List ℕ) → ((j : ℕ) → j < length xs → p (slice_index xs j) ≡ true) → list_all p xs ≡ true
all_of p [] h = refl
all_of p (x ∷ xs) h = both (p x) (list_all p xs) (h 0 (omega arith)) (all_of p xs (λ j lt. h (suc j) (omega arith)))

pub any_of : (p : ℕ → Bool) (xs : List ℕ) → list_any p xs ≡ true → (j : ℕ) × (j < length xs) × (p (slice_index xs j) ≡ true)
any_of p [] h = absurd cc
any_of p (x ∷ xs) h = by (λ e. any_of p xs e) (or_cases (p x) (list_any p xs) h)
  where
    by : (list_any p xs ≡ true → (j : ℕ) × (j < length xs) × (p (slice_index xs j) ≡ true)) → (p x ≡ true) ⊎ (list_any p xs ≡ true) → (j : ℕ) × (j < length (x ∷ xs)) × (p (slice_index (x ∷ xs) j) ≡ true)
    by rest (inl e) = (0, omega arith, e)
    by rest (inr e) = let r = rest e in (suc r.0, omega (arith, r.1), r.2)

pub any_here : (p : ℕ → Bool) (xs : List ℕ) (j : ℕ) → j < length xs → p (slice_index xs j) ≡ true → list_any p xs ≡ true
any_here p [] j lt h = absurd (omega arith)
any_here p (x ∷ xs) zero lt h = or_true (p x) (list_any p xs) (inl h)
any_here p (x ∷ xs) (suc j) lt h = or_true (p x) (list_any p xs) (inr (any_here p xs j (omega arith) h))

-- ---- rule 1

-- what a node has that is read
pub record IsRead (node : Node) (blocks : List ℕ) : Type 0 where
  pub is : is_node node ≡ true
  pub blocks_are : node.blocks ≡ blocks

checked : (kind : Option Kind) (size : ℕ) (blocks : List ℕ) (zeros : Bool) (node : Node) → checked_node kind size blocks zeros ≡ Some node → IsRead node blocks
checked None size blocks zeros node h = absurd (none_some h)
checked (Some kind) size blocks zeros node h = by (record { kind = kind; size = size; blocks = blocks }) _ refl h
  where
    by : (whole : Node) (b : Bool) → (zeros && is_node whole) ≡ b → cond b (Some whole) None ≡ Some node → IsRead node whole.blocks
    by whole true e h = subst (λ n. IsRead n whole.blocks) (some_is h) (record { is = both_r zeros _ e; blocks_are = refl })
    by whole false e h = absurd (none_some h)

pub node_in_is : (c : List ℕ) (j : ℕ) (node : Node) → node_in c j ≡ Some node → IsRead node (numbers_at c j)
unfolding node_in
node_in_is c j node h = checked (kind_of (u32_at c (64 * j))) (u32_at c (64 * j + 4)) (numbers_at c j) (eqb (u32_at c (64 * j + 56)) 0 && eqb (u32_at c (64 * j + 60)) 0) node h

pub node_few : (node : Node) → is_node node ≡ true → node.size ≤ most_items node.kind
node_few node h = leb-true _ _ (both_l _ _ (both_l _ _ h))

count_most : (kind : Kind) (size : ℕ) (blocks : List ℕ) → size ≤ most_items kind → blocks_needed (record { kind = kind; size = size; blocks = blocks }) ≤ 12
count_most Free size blocks h = omega arith
count_most File size blocks h = omega arith
count_most Dir size blocks h = omega arith

pub node_count : (node : Node) → node.size ≤ most_items node.kind → blocks_needed node ≤ 12
node_count node h = count_most node.kind node.size node.blocks h

module _ (sizes : Numbers) (s : State) (n : ℕ) (node : Node) (lt : n < sizes.nodes) (is : Some node ≡ (image_of sizes s).node n) where
  abbrev im : Image
  im = image_of sizes s

  read : IsRead node (numbers_at (block_at s (node_block sizes n)) (n % 8))
  read = node_in_is (block_at s (node_block sizes n)) (n % 8) node (sym (image_node sizes s n lt) ∙ sym is)

  pub read_few : node.size ≤ most_items node.kind
  read_few = node_few node read.is

  pub read_long : length node.blocks ≡ 12
  read_long = ap length read.blocks_are

  pub read_count : blocks_needed node ≤ 12
  read_count = node_count node read_few

  the_node : node_of im n ≡ node
  the_node = ap (λ o. unwrap_or o free_node) (sym is)

  abbrev in_data : ℕ → Bool
  in_data b = leb (first_data sizes) b && ltb b sizes.blocks

  pub placed : (n ≡ 0 → node.kind ≡ Dir) → list_all in_data (take (blocks_needed node) node.blocks) ≡ true → IsPlaced sizes im n
  placed root all = record {
    some = subst IsSome is refl;
    few = subst (λ (x : Node). x.size ≤ most_items x.kind) (sym the_node) read_few;
    in_data = λ j h. each j (subst (λ (x : Node). j < blocks_needed x) the_node h);
    root = λ z. ap (λ (x : Node). x.kind) the_node ∙ root z;
  }
    where
      each : (j : ℕ) → j < blocks_needed node → (first_data sizes ≤ number_of im n j) × (number_of im n j < sizes.blocks)
      each j h =
          let long : length (take (blocks_needed node) node.blocks) ≡ blocks_needed node = length-take-le (blocks_needed node) node.blocks (omega (arith, read_count, read_long)) in
          let p = all_from in_data (take (blocks_needed node) node.blocks) j all (omega arith) in
          let e : slice_index (take (blocks_needed node) node.blocks) j ≡ number_of im n j = get_or-take (blocks_needed node) node.blocks j 0 h ∙ ap (λ (x : Node). slice_index x.blocks j) (sym the_node) in
          let q : in_data (number_of im n j) ≡ true = sym (ap in_data e) ∙ p in
          (leb-true (first_data sizes) (number_of im n j) (both_l (leb (first_data sizes) (number_of im n j)) (ltb (number_of im n j) sizes.blocks) q), ltb-true (number_of im n j) sizes.blocks (both_r (leb (first_data sizes) (number_of im n j)) (ltb (number_of im n j) sizes.blocks) q))

  pub unplaced : IsPlaced sizes im n → list_all in_data (take (blocks_needed node) node.blocks) ≡ true
  unplaced h = all_of in_data (take (blocks_needed node) node.blocks) (λ j lt.
      let long : length (take (blocks_needed node) node.blocks) ≡ blocks_needed node = length-take-le (blocks_needed node) node.blocks (omega (arith, read_count, read_long)) in
      let below : j < blocks_needed node = omega arith in
      let p = h.in_data j (subst (λ (x : Node). j < blocks_needed x) (sym the_node) below) in
      let e : slice_index (take (blocks_needed node) node.blocks) j ≡ number_of im n j = get_or-take (blocks_needed node) node.blocks j 0 below ∙ ap (λ (x : Node). slice_index x.blocks j) (sym the_node) in
      ap in_data e ∙ both (leb (first_data sizes) (number_of im n j)) (ltb (number_of im n j) sizes.blocks) (le-leb (first_data sizes) (number_of im n j) p.0) (lt-ltb (number_of im n j) sizes.blocks p.1))

  pub root_kind : IsPlaced sizes im n → n ≡ 0 → node.kind ≡ Dir
  root_kind h z = ap (λ (x : Node). x.kind) (sym the_node) ∙ h.root z

pub rule1_fails : (sizes : Numbers) (im : Image) (n : ℕ) → n < sizes.nodes → ((k : ℕ) → k < n → IsPlaced sizes im k) → ¬ (IsPlaced sizes im n) → FailsAt (Rule1 sizes im) (node_block sizes n)
rule1_fails sizes im n lt before fails = record {
  fails = λ h. fails (h n lt refl);
  lowest = λ b below k within is. before k (omega arith);
}

-- ---- rule 6

pub rule6_fails : (sizes : Numbers) (im : Image) (b : ℕ) → b < sizes.blocks → ((k : ℕ) → k < b → im.map k ≡ cond (ltb k (first_data sizes) || is_named sizes.nodes im k) 1 0) → (im.map b ≢ cond (ltb b (first_data sizes) || is_named sizes.nodes im b) 1 0) → FailsAt (Rule6 sizes im) (map_block b)
rule6_fails sizes im b lt before fails = record {
  fails = λ h. fails (h b lt refl);
  lowest = λ m below k within is. before k (omega arith);
}

-- ---- rule 2

abbrev pub among : List ℕ → ℕ → Bool
among numbers b = list_any (λ n. eqb n b) numbers

-- the marks after some of the numbers
pub record MarkedSome (old new : List Bool) (numbers : List ℕ) (count : ℕ) : Type 0 where
  pub many : length new ≡ length old
  pub marked : (b : ℕ) → b < length old → mark new b ≡ (mark old b || among (take count numbers) b)
  pub fresh : (j : ℕ) → j < count → mark old (slice_index numbers j) ≡ false
  pub apart : (j k : ℕ) → j < count → k < j → slice_index numbers k ≢ slice_index numbers j

pub marked_none : (marks : List Bool) (numbers : List ℕ) → MarkedSome marks marks numbers 0
marked_none marks numbers = record {
  many = refl;
  marked = λ b lt. sym (or_false (mark marks b));
  fresh = λ j lt. absurd (omega arith);
  apart = λ j k lt less. absurd (omega arith);
}
  where
    or_false : (a : Bool) → (a || false) ≡ a
    or_false true = refl
    or_false false = refl

or_no_l : (a b : Bool) → (a || b) ≡ false → a ≡ false
or_no_l true b h = absurd cc
or_no_l false b h = refl

or_no_r : (a b : Bool) → (a || b) ≡ false → b ≡ false
or_no_r true b h = absurd cc
or_no_r false b h = h

no_among : (numbers : List ℕ) (count b k : ℕ) → count ≤ length numbers → among (take count numbers) b ≡ false → k < count → slice_index numbers k ≢ b
no_among numbers count b k le h lt same =
    let long = length-take-le count numbers le in
    let e : slice_index (take count numbers) k ≡ slice_index numbers k = get_or-take count numbers k 0 lt in
    let yes_ : among (take count numbers) b ≡ true = any_here (λ n. eqb n b) (take count numbers) k (omega arith) (eq-eqb (slice_index (take count numbers) k) b (e ∙ same)) in
    cc

some_among : (numbers : List ℕ) (count b : ℕ) → count ≤ length numbers → among (take count numbers) b ≡ true → (k : ℕ) × (k < count) × (slice_index numbers k ≡ b)
some_among numbers count b le h =
    let long = length-take-le count numbers le in
    let r = any_of (λ n. eqb n b) (take count numbers) h in
    let lt : r.0 < count = omega (arith, r.1) in
    (r.0, lt, sym (get_or-take count numbers r.0 0 lt) ∙ eqb-true (slice_index (take count numbers) r.0) b r.2)

module _ (old now : List Bool) (numbers : List ℕ) (count : ℕ) (lt : count < length numbers) (within : slice_index numbers count < length old) (m : MarkedSome old now numbers count) where
  abbrev here : ℕ
  here = slice_index numbers count

  at_here : mark now here ≡ (mark old here || among (take count numbers) here)
  at_here = m.marked here within

  -- one more number that was not marked
  pub marked_more : mark now here ≡ false → MarkedSome old (set now here true) numbers (count + 1)
  marked_more free = record {
    many = length-set now here true ∙ m.many;
    marked = λ b l. by b l (ℕ_discrete b here);
    fresh = λ j l. fresh j (ℕ_discrete j count) l;
    apart = λ j k l less. apart j k (ℕ_discrete j count) l less;
  }
    where
      none : (mark old here || among (take count numbers) here) ≡ false
      none = sym at_here ∙ free

      more : (b : ℕ) → among (take (count + 1) numbers) b ≡ (among (take count numbers) b || eqb here b)
      more b = list_any_more (λ n. eqb n b) numbers count 0 lt

      or_three : (x y z : Bool) → (x || (y || z)) ≡ ((x || y) || z)
      or_three true y z = refl
      or_three false y z = refl

      or_true' : (x : Bool) → (x || true) ≡ true
      or_true' true = refl
      or_true' false = refl

      or_false : (x : Bool) → (x || false) ≡ x
      or_false true = refl
      or_false false = refl

      by : (b : ℕ) → b < length old → Dec (b ≡ here) → mark (set now here true) b ≡ (mark old b || among (take (count + 1) numbers) b)
      by b l (yes same) =
          let e : eqb here b ≡ true = eq-eqb here b (sym same) in
          ap (mark (set now here true)) same ∙ get_or-set_same now here true false (omega (arith, m.many))
          ∙ sym (ap (λ x. mark old b || x) (more b) ∙ or_three (mark old b) (among (take count numbers) b) (eqb here b) ∙ ap (λ x. (mark old b || among (take count numbers) b) || x) e ∙ or_true' (mark old b || among (take count numbers) b))
      by b l (no other) =
          let e : eqb here b ≡ false = not_true (eqb here b) (λ h. other (sym (eqb-true here b h))) in
          get_or-set_other now here b true false other ∙ m.marked b l
          ∙ sym (ap (λ x. mark old b || x) (more b) ∙ ap (λ x. mark old b || (among (take count numbers) b || x)) e ∙ ap (λ x. mark old b || x) (or_false (among (take count numbers) b)))

      fresh : (j : ℕ) → Dec (j ≡ count) → j < count + 1 → mark old (slice_index numbers j) ≡ false
      fresh j (yes same) l = ap (λ k. mark old (slice_index numbers k)) same ∙ or_no_l _ _ none
      fresh j (no other) l = m.fresh j (omega arith)

      apart : (j k : ℕ) → Dec (j ≡ count) → j < count + 1 → k < j → slice_index numbers k ≢ slice_index numbers j
      apart j k (yes same) l less e = no_among numbers count here k (omega arith) (or_no_r _ _ none) (omega arith) (e ∙ ap (slice_index numbers) same)
      apart j k (no other) l less e = m.apart j k (omega arith) less e

  -- one that was
  pub repeats : mark now here ≡ true → Repeats old numbers
  repeats taken = record { at = count; within = lt; again = by (or_cases _ _ (sym at_here ∙ taken)) }
    where
      by : (mark old here ≡ true) ⊎ (among (take count numbers) here ≡ true) → (mark old here ≢ false) ⊎ ((k : ℕ) × (k < count) × (slice_index numbers k ≡ here))
      by (inl e) = inl (λ f. absurd cc)
      by (inr e) = inr (some_among numbers count here (omega arith) e)

pub marked_all : (old new : List Bool) (numbers : List ℕ) (count : ℕ) → count ≡ length numbers → MarkedSome old new numbers count → MarksApart old new numbers
marked_all old new numbers count is m = record {
  many = m.many;
  marked = λ b lt. m.marked b lt ∙ ap (λ xs. mark old b || among xs b) (ap (λ k. take k numbers) is ∙ take-length numbers);
  fresh = λ j lt. m.fresh j (omega arith);
  apart = λ j k lt less. m.apart j k (omega arith) less;
}

-- the node's numbers are not named by the nodes before it, nor twice
pub record NamesApart (im : Image) (n : ℕ) : Type 0 where
  pub each : (j earlier k : ℕ) → j < count_of im n → k < count_of im earlier → (earlier < n) ⊎ ((earlier ≡ n) × (k < j)) → number_of im n j ≢ number_of im earlier k

module _ (sizes : Numbers) (s : State) (nodes : HasNodes sizes s) (n : ℕ) (node : Node) (lt : n < sizes.nodes) (is : (image_of sizes s).node n ≡ Some node) where
  abbrev im2 : Image
  im2 = image_of sizes s

  node_is : node_of im2 n ≡ node
  node_is = ap (λ o. unwrap_or o free_node) is

  abbrev count : ℕ
  count = blocks_needed node

  abbrev ns : List ℕ
  ns = take count node.blocks

  few : count ≤ length node.blocks
  few = omega (arith, read_count sizes s n node lt (sym is), read_long sizes s n node lt (sym is))

  long : length ns ≡ count
  long = length-take-le count node.blocks few

  count_is : count_of im2 n ≡ count
  count_is = ap blocks_needed node_is

  number_is : (j : ℕ) → j < count → slice_index ns j ≡ number_of im2 n j
  number_is j l = get_or-take count node.blocks j 0 l ∙ ap (λ (x : Node). slice_index x.blocks j) (sym node_is)

  pub numbers_in : (j : ℕ) → j < length ns → slice_index ns j < sizes.blocks
  numbers_in j l =
      let below : j < count = omega (arith, long) in
      subst (λ x. x < sizes.blocks) (sym (number_is j below)) (((nodes.each n lt).in_data j (omega (arith, count_is))).1)

  names_among : (b : ℕ) → names_block im2 b n ≡ among ns b
  names_among b = same_bool (names_block im2 b n) (among ns b)
      (λ h. let a = names_from im2 b n h in
      let below : a.j < count = omega (arith, a.within, count_is) in
      any_here (λ x. eqb x b) ns a.j (omega (arith, long)) (eq-eqb (slice_index ns a.j) b (number_is a.j below ∙ a.is)))
      (λ h. let a = any_of (λ x. eqb x b) ns h in
      let below : a.0 < count = omega (arith, a.1, long) in
      names_at im2 b n a.0 (omega (arith, count_is)) (sym (number_is a.0 below) ∙ eqb-true (slice_index ns a.0) b a.2))

  one_more : (b : ℕ) → is_named (n + 1) im2 b ≡ (is_named n im2 b || names_block im2 b n)
  one_more b = same_bool (is_named (n + 1) im2 b) (is_named n im2 b || names_block im2 b n)
      (λ h. let a = named_from (n + 1) im2 b h in or_true (is_named n im2 b) (names_block im2 b n) (by a.0 a.1 (names_at im2 b a.0 a.2.j a.2.within a.2.is) (ℕ_discrete a.0 n)))
      (λ h. back (or_cases (is_named n im2 b) (names_block im2 b n) h))
    where
      by : (k : ℕ) → k < n + 1 → names_block im2 b k ≡ true → Dec (k ≡ n) → (is_named n im2 b ≡ true) ⊎ (names_block im2 b n ≡ true)
      by k l e (yes same) = inr (ap (names_block im2 b) (sym same) ∙ e)
      by k l e (no other) = inl (named_at n im2 b k (omega arith) e)

      back : (is_named n im2 b ≡ true) ⊎ (names_block im2 b n ≡ true) → is_named (n + 1) im2 b ≡ true
      back (inl e) = let a = named_from n im2 b e in named_at (n + 1) im2 b a.0 (omega (arith, a.1)) (names_at im2 b a.0 a.2.j a.2.within a.2.is)
      back (inr e) = named_at (n + 1) im2 b n (omega arith) e

  pub named_more : (old new : List Bool) → MarksNamed sizes im2 n old → MarksApart old new ns → MarksNamed sizes im2 (n + 1) new
  named_more old new m a = record {
    many = a.many ∙ m.many;
    each = λ b l. a.marked b (omega (arith, m.many)) ∙ (λ i. m.each b l i || sym (names_among b) i) ∙ sym (one_more b);
  }

  pub apart_here : (old new : List Bool) → MarksNamed sizes im2 n old → MarksApart old new ns → NamesApart im2 n
  apart_here old new m a = record { each = λ j earlier k hj hk before e. by j earlier k (omega (arith, count_is)) hk before e }
    where
      by : (j earlier k : ℕ) → j < count → k < count_of im2 earlier → (earlier < n) ⊎ ((earlier ≡ n) × (k < j)) → number_of im2 n j ≡ number_of im2 earlier k → ⊥
      by j earlier k hj hk (inl less) e =
          let free : mark old (slice_index ns j) ≡ false = a.fresh j (omega (arith, long)) in
          let named : is_named n im2 (slice_index ns j) ≡ true = named_at n im2 (slice_index ns j) earlier less (names_at im2 (slice_index ns j) earlier k hk (sym e ∙ sym (number_is j hj))) in
          let same = m.each (slice_index ns j) (numbers_in j (omega (arith, long))) in
          absurd cc
      by j earlier k hj hk (inr p) e =
          let below : k < count = omega (arith, p.1) in
          a.apart j k (omega (arith, long)) p.1 (number_is k below ∙ ap (λ x. number_of im2 x k) (sym p.0) ∙ sym e ∙ sym (number_is j hj))

  pub rule2_fails : (old : List Bool) → MarksNamed sizes im2 n old → ((k : ℕ) → k < n → NamesApart im2 k) → Repeats old ns → FailsAt (Rule2 sizes im2) (node_block sizes n)
  rule2_fails old m before r = record {
    fails = λ h. by h r.again;
    lowest = λ b below k j earlier i within at hj hi e. (before k (omega arith)).each j earlier i hj hi e;
  }
    where
      at_count : r.at < count
      at_count = omega (arith, r.within, long)

      by : Rule2 sizes im2 (node_block sizes n) → (mark old (slice_index ns r.at) ≢ false) ⊎ ((k : ℕ) × (k < r.at) × (slice_index ns k ≡ slice_index ns r.at)) → ⊥
      by h (inl marked) = cases (is_named n im2 (slice_index ns r.at)) refl
        where
          cases : (b : Bool) → is_named n im2 (slice_index ns r.at) ≡ b → ⊥
          cases false e = marked (m.each (slice_index ns r.at) (numbers_in r.at r.within) ∙ e)
          cases true e =
              let a = named_from n im2 (slice_index ns r.at) e in
              h n r.at a.0 a.2.j lt refl (omega (arith, count_is, at_count)) a.2.within (inl a.1) (sym (number_is r.at at_count) ∙ sym a.2.is)
      by h (inr k) =
          let below : k.0 < count = omega (arith, k.1, at_count) in
          h n r.at n k.0 lt refl (omega (arith, count_is, at_count)) (omega (arith, count_is, below)) (inr (refl, k.1)) (sym (number_is r.at at_count) ∙ sym k.2 ∙ number_is k.0 below)

pub named_none : (sizes : Numbers) (im : Image) (marks : List Bool) → marks ≡ replicate sizes.blocks false → MarksNamed sizes im 0 marks
named_none sizes im marks is = record {
  many = ap length is ∙ length-replicate sizes.blocks false;
  each = λ b lt. ap (λ xs. mark xs b) is ∙ get_or-replicate sizes.blocks b false false lt;
}

pub rule2_holds : (sizes : Numbers) (im : Image) → ((k : ℕ) → k < sizes.nodes → NamesApart im k) → (block : ℕ) → Rule2 sizes im block
rule2_holds sizes im each block n j earlier k lt at hj hk before = (each n lt).each j earlier k hj hk before

-- what a write through a slice of a whole `Vec` leaves
pub written_back : {A : Type 0} (xs items : List A) (len : ℕ) → length xs ≡ len → take len (xs ++ drop (length xs) items) ≡ xs
written_back xs items len is = ap (λ n. take n (xs ++ drop (length xs) items)) (sym is) ∙ take-append_seam xs (drop (length xs) items)
