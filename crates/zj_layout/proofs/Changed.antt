-- What a change of one node keeps.
use Rattle.std.proofs.Common.{◌≡◌, ◌≢◌, ◌⊎◌, inl, inr, ℕ, zero, suc, ◌+◌, ◌/◌, ◌%◌, ◌<◌, ◌≤◌, Bool, true, false, cond, ◌||◌, eqb, ltb, eqb-true, eq-eqb, ltb-true, List, ◌∷◌, map, None, IsSome, refl, sym, ap, ◌∙◌, subst, arith, slice_index}
use Rattle.std.specs.List.{range_with_len, list_any}
use Rattle.std.specs.Option.{unwrap_or}
use native.Mathlib.Decide.{ℕ_discrete, dec_lt}
use Rattle.zj_block.specs.Sizes.{Numbers, first_data}
use Rattle.zj_tree.specs.Tree.{blocks_for}
use Rattle.zj_layout.specs.declared.fields.Kind.{Kind}
use Rattle.zj_layout.specs.declared.fields.Kind.TheVariants.{Free, File, Dir}
use Rattle.zj_layout.specs.declared.fields.Node.{Node}
use Rattle.zj_layout.specs.declared.fields.Link.{Link}
use Rattle.zj_layout.specs.Graph.{Holding, Nothing, Bytes, Links}
use Rattle.zj_layout.specs.Node.{byte_in, link_in, per_block, blocks_needed, most_items}
use Rattle.zj_layout.specs.Image.{Image, free_node, node_of, count_of, number_of, entry_at, no_link, held, holding_at, names_block, is_named}
use Rattle.zj_layout.specs.Rules.{IsPlaced, HasPlace}
use Rattle.zj_layout.specs.Stored.{IsStored}
use Rattle.zj_layout.specs.Changed.{ChangesNode}

-- ---- tests of numbers in a range

pub record SomeIn (p : ℕ → Bool) (from count : ℕ) : Type 0 where
  pub at : ℕ
  pub above : from ≤ at
  pub below : at < from + count
  pub holds : p at ≡ true

pub any_from : (p : ℕ → Bool) (a n : ℕ) → list_any p (range_with_len a n) ≡ true → SomeIn p a n
any_from p a zero h = absurd cc
any_from p a (suc n) h = by (λ e. any_from p (a + 1) n e) (p a) refl h
  where
    by : (list_any p (range_with_len (a + 1) n) ≡ true → SomeIn p (a + 1) n) → (b : Bool) → p a ≡ b → (b || list_any p (range_with_len (a + 1) n)) ≡ true → SomeIn p a (suc n)
    by rest true e h = record { at = a; above = omega arith; below = omega arith; holds = e }
    by rest false e h = let s = rest h in record { at = s.at; above = omega (arith, s.above); below = omega (arith, s.below); holds = s.holds }

pub any_at : (p : ℕ → Bool) (a n k : ℕ) → a ≤ k → k < a + n → p k ≡ true → list_any p (range_with_len a n) ≡ true
any_at p a zero k le lt h = absurd (omega arith)
any_at p a (suc n) k le lt h = by (λ le'. any_at p (a + 1) n k le' (omega arith) h) (ℕ_discrete a k) (p a) refl
  where
    by : (a + 1 ≤ k → list_any p (range_with_len (a + 1) n) ≡ true) → Dec (a ≡ k) → (b : Bool) → p a ≡ b → (b || list_any p (range_with_len (a + 1) n)) ≡ true
    by rest d true e = refl
    by rest (yes same) false e = let both : p a ≡ true = ap p same ∙ h in cc
    by rest (no other) false e = rest (omega arith)

pub any_agree : (p q : ℕ → Bool) (a n : ℕ) → ((k : ℕ) → a ≤ k → k < a + n → p k ≡ q k) → list_any p (range_with_len a n) ≡ list_any q (range_with_len a n)
any_agree p q a zero h = refl
any_agree p q a (suc n) h =
    let rest = any_agree p q (a + 1) n (λ k le lt. h k (omega arith) (omega arith)) in
    let here = h a (omega arith) (omega arith) in
    λ i. here i || rest i

pub any_none : (p : ℕ → Bool) (a n : ℕ) → ((k : ℕ) → a ≤ k → k < a + n → p k ≡ false) → list_any p (range_with_len a n) ≡ false
any_none p a zero h = refl
any_none p a (suc n) h = ap (λ b. b || list_any p (range_with_len (a + 1) n)) (h a (omega arith) (omega arith)) ∙ any_none p (a + 1) n (λ k le lt. h k (omega arith) (omega arith))

pub map_agree : {A : Type 0} (f g : ℕ → A) (a n : ℕ) → ((k : ℕ) → a ≤ k → k < a + n → f k ≡ g k) → map f (range_with_len a n) ≡ map g (range_with_len a n)
map_agree f g a zero h = refl
map_agree f g a (suc n) h =
    let rest = map_agree f g (a + 1) n (λ k le lt. h k (omega arith) (omega arith)) in
    let here = h a (omega arith) (omega arith) in
    λ i. here i ∷ rest i

-- ---- which blocks a node names

pub record NamesAt (image : Image) (block node : ℕ) : Type 0 where
  pub j : ℕ
  pub within : j < count_of image node
  pub is : number_of image node j ≡ block

pub names_from : (image : Image) (block node : ℕ) → names_block image block node ≡ true → NamesAt image block node
names_from image block node h =
    let s = any_from (λ j. eqb (number_of image node j) block) 0 (count_of image node) h in
    record { j = s.at; within = omega (arith, s.below); is = eqb-true (number_of image node s.at) block s.holds }

pub names_at : (image : Image) (block node j : ℕ) → j < count_of image node → number_of image node j ≡ block → names_block image block node ≡ true
names_at image block node j lt e = any_at (λ j. eqb (number_of image node j) block) 0 (count_of image node) j (omega arith) (omega arith) (eq-eqb (number_of image node j) block e)

pub named_from : (nodes : ℕ) (image : Image) (block : ℕ) → is_named nodes image block ≡ true → (node : ℕ) × (node < nodes) × NamesAt image block node
named_from nodes image block h =
    let s = any_from (names_block image block) 0 nodes h in
    (s.at, omega (arith, s.below), names_from image block s.at s.holds)

pub named_at : (nodes : ℕ) (image : Image) (block node : ℕ) → node < nodes → names_block image block node ≡ true → is_named nodes image block ≡ true
named_at nodes image block node lt h = any_at (names_block image block) 0 nodes node (omega arith) (omega arith) h

-- ---- items and their blocks

-- an item stands in a block that the node names
item_in : (kind : Kind) (size k : ℕ) → k < size → k / per_block kind < blocks_for size (per_block kind)
item_in Free size k lt = omega arith
item_in File size k lt = omega arith
item_in Dir size k lt = omega arith

pub item_within : (image : Image) (node k : ℕ) → k < (node_of image node).size → k / per_block (node_of image node).kind < count_of image node
item_within image node k lt = item_in (node_of image node).kind (node_of image node).size k lt

held_agree : (kind : Kind) (size : ℕ) (byte byte' : ℕ → ℕ) (link link' : ℕ → Link) → ((k : ℕ) → k < size → byte k ≡ byte' k) → ((k : ℕ) → k < size → link k ≡ link' k) → held kind size byte link ≡ held kind size byte' link'
held_agree Free size byte byte' link link' b l = refl
held_agree File size byte byte' link link' b l = ap Bytes (map_agree byte byte' 0 size (λ k le lt. b k (omega arith)))
held_agree Dir size byte byte' link link' b l = ap Links (map_agree link link' 0 size (λ k le lt. l k (omega arith)))

-- what a node holds over given contents of blocks
abbrev pub over : (ℕ → List ℕ) → Node → Holding
over content n = held n.kind n.size (λ k. byte_in (content (slice_index n.blocks (k / per_block n.kind))) (k % 512)) (λ k. unwrap_or (link_in (content (slice_index n.blocks (k / per_block n.kind))) (k % 16)) no_link)

-- a node whose blocks have their contents still holds what it held
pub same_holding : (old new : Image) (node : ℕ) → new.node node ≡ old.node node → ((j : ℕ) → j < count_of old node → new.content (number_of old node j) ≡ old.content (number_of old node j)) → holding_at new node ≡ holding_at old node
same_holding old new node same contents =
    ap (λ o. over new.content (unwrap_or o free_node)) same
    ∙ held_agree (node_of old node).kind (node_of old node).size _ _ _ _
    (λ k lt. ap (λ c. byte_in c (k % 512)) (contents (k / per_block (node_of old node).kind) (item_within old node k lt)))
    (λ k lt. ap (λ c. unwrap_or (link_in c (k % 16)) no_link) (contents (k / per_block (node_of old node).kind) (item_within old node k lt)))

-- where no node stands, nothing is held
pub none_holds : (image : Image) (node : ℕ) → image.node node ≡ None → holding_at image node ≡ Nothing
none_holds image node e = ap (λ o. over image.content (unwrap_or o free_node)) e

one_zero : ◌≡◌ {A = ℕ} 1 0 → ⊥
one_zero e = omega arith

pub not_true : (b : Bool) → (b ≡ true → ⊥) → b ≡ false
not_true true h = absurd (h refl)
not_true false h = refl

pub or_right : (a : Bool) → (a || true) ≡ true
or_right true = refl
or_right false = refl

or_false : (a b : Bool) → (a || b) ≡ false → b ≡ false
or_false true b h = absurd cc
or_false false b h = h

clash : (b : Bool) → b ≡ true → b ≡ false → ⊥
clash b t f = cc

module _ (sizes : Numbers) (old new : Image) (s : IsStored sizes old) (d : ℕ) (c : ChangesNode sizes old new d) where
  nodes_same : (i : ℕ) → i ≢ d → node_of new i ≡ node_of old i
  nodes_same i ne = ap (λ o. unwrap_or o free_node) (c.others i ne)

  -- a block that another node names is in use, and the changed node neither named it nor names it
  in_nodes : (i j : ℕ) → j < count_of old i → i < sizes.nodes
  in_nodes i j lt = by (dec_lt i sizes.nodes)
    where
      by : Dec (i < sizes.nodes) → i < sizes.nodes
      by (yes h) = h
      by (no h) = absurd (omega (arith, ap (λ o. blocks_needed (unwrap_or o free_node)) (s.none i (omega arith))))

  used : (i j : ℕ) → j < count_of old i → old.map (number_of old i j) ≡ 1
  used i j lt =
      let range = (s.placed i (in_nodes i j lt)).in_data j lt in
      let named = named_at sizes.nodes old (number_of old i j) i (in_nodes i j lt) (names_at old (number_of old i j) i j lt refl) in
      s.map (number_of old i j) range.1 ∙ ap (λ b. cond (ltb (number_of old i j) (first_data sizes) || b) 1 0) named ∙ ap (λ b. cond b 1 0) (or_right (ltb (number_of old i j) (first_data sizes)))

  not_old : (i j : ℕ) → i ≢ d → j < count_of old i → names_block old (number_of old i j) d ≡ false
  not_old i j ne lt = not_true _ (λ h. let n = names_from old (number_of old i j) d h in ne (sym (s.apart d n.j i j n.within lt n.is).0))

  not_new : (i j k : ℕ) → i ≢ d → j < count_of old i → k < count_of new d → number_of new d k ≡ number_of old i j → ⊥
  not_new i j k ne lt within e = by (c.own k within)
    where
      by : (names_block old (number_of new d k) d ≡ true) ⊎ (old.map (number_of new d k) ≡ 0) → ⊥
      by (inl h) = clash _ (ap (λ b. names_block old b d) (sym e) ∙ h) (not_old i j ne lt)
      by (inr z) = one_zero (sym (used i j lt) ∙ ap old.map (sym e) ∙ z)

  -- other nodes hold what they held
  pub others_hold : (i : ℕ) → i ≢ d → holding_at new i ≡ holding_at old i
  others_hold i ne = same_holding old new i (c.others i ne) (λ j lt. c.content (number_of old i j) (used i j lt) (not_old i j ne lt))

  same_entry : (i place : ℕ) → i ≢ d → HasPlace new i place → IsSome (entry_at new i place)
  same_entry i place ne h =
      let kind : (node_of old i).kind ≡ Dir = ap (λ (n : Node). n.kind) (sym (nodes_same i ne)) ∙ h.directory in
      let size : place < (node_of old i).size = subst (λ (n : Node). place < n.size) (nodes_same i ne) h.within in
      let block = place / per_block (node_of old i).kind in
      let lt : block < count_of old i = item_within old i place size in
      let there = s.entry i place (record { directory = kind; within = size }) in
      subst IsSome
      (sym (ap (λ n. link_in (new.content (slice_index n.blocks (place / per_block n.kind))) (place % 16)) (nodes_same i ne)
      ∙ ap (λ x. link_in x (place % 16)) (c.content (number_of old i block) (used i block lt) (not_old i block ne lt))))
      there

  -- which blocks other nodes name stays
  names_same : (b i : ℕ) → i ≢ d → names_block new b i ≡ names_block old b i
  names_same b i ne = ap (λ n. list_any (λ j. eqb (slice_index n.blocks j) b) (range_with_len 0 (blocks_needed n))) (nodes_same i ne)

  named_same : (b : ℕ) → names_block new b d ≡ names_block old b d → is_named sizes.nodes new b ≡ is_named sizes.nodes old b
  named_same b e = any_agree (names_block new b) (names_block old b) 0 sizes.nodes (λ i le lt. by i (ℕ_discrete i d))
    where
      by : (i : ℕ) → Dec (i ≡ d) → names_block new b i ≡ names_block old b i
      by i (yes same) = ap (names_block new b) same ∙ e ∙ ap (names_block old b) (sym same)
      by i (no ne) = names_same b i ne

  -- the map has what the nodes name
  mapped : (b : ℕ) → b < sizes.blocks → (x y : Bool) → names_block new b d ≡ x → names_block old b d ≡ y → cond x 1 (cond y 0 (old.map b)) ≡ cond (ltb b (first_data sizes) || is_named sizes.nodes new b) 1 0
  mapped b lt true y hx hy = sym (ap (λ t. cond (ltb b (first_data sizes) || t) 1 0) (named_at sizes.nodes new b d c.within hx) ∙ ap (λ t. cond t 1 0) (or_right (ltb b (first_data sizes))))
  mapped b lt false true hx hy =
      let n = names_from old b d hy in
      let range = (s.placed d c.within).in_data n.j n.within in
      let for_data : ltb b (first_data sizes) ≡ false = not_true _ (λ h. omega (arith, ltb-true b (first_data sizes) h, range.0, n.is)) in
      let nobody : is_named sizes.nodes new b ≡ false = any_none (names_block new b) 0 sizes.nodes (λ i le l. nobody_else i n (ℕ_discrete i d)) in
      sym (ap (λ t. cond (t || is_named sizes.nodes new b) 1 0) for_data ∙ ap (λ t. cond t 1 0) nobody)
    where
      nobody_else : (i : ℕ) → NamesAt old b d → Dec (i ≡ d) → names_block new b i ≡ false
      nobody_else i n (yes same) = ap (names_block new b) same ∙ hx
      nobody_else i n (no ne) = names_same b i ne ∙ not_true _ (λ h. let m = names_from old b i h in ne (s.apart i m.j d n.j m.within n.within (m.is ∙ sym n.is)).0)
  mapped b lt false false hx hy = s.map b lt ∙ ap (λ t. cond (ltb b (first_data sizes) || t) 1 0) (sym (named_same b (hx ∙ sym hy)))

  apart : (i j k m : ℕ) → j < count_of new i → m < count_of new k → number_of new i j ≡ number_of new k m → Dec (i ≡ d) → Dec (k ≡ d) → (i ≡ k) × (j ≡ m)
  apart i j k m hj hm e (yes p) (yes q) =
      let one = c.once j m (subst (λ x. j < count_of new x) p hj) (subst (λ x. m < count_of new x) q hm) (ap (λ x. number_of new x j) (sym p) ∙ e ∙ ap (λ x. number_of new x m) q) in
      (p ∙ sym q, one)
  apart i j k m hj hm e (yes p) (no q) =
      absurd (not_new k m j q (subst (λ n. m < blocks_needed n) (nodes_same k q) hm) (subst (λ x. j < count_of new x) p hj) (ap (λ x. number_of new x j) (sym p) ∙ e ∙ ap (λ n. slice_index n.blocks m) (nodes_same k q)))
  apart i j k m hj hm e (no p) (yes q) =
      absurd (not_new i j m p (subst (λ n. j < blocks_needed n) (nodes_same i p) hj) (subst (λ x. m < count_of new x) q hm) (ap (λ x. number_of new x m) (sym q) ∙ sym e ∙ ap (λ n. slice_index n.blocks j) (nodes_same i p)))
  apart i j k m hj hm e (no p) (no q) =
      s.apart i j k m (subst (λ n. j < blocks_needed n) (nodes_same i p) hj) (subst (λ n. m < blocks_needed n) (nodes_same k q) hm)
      (ap (λ n. slice_index n.blocks j) (sym (nodes_same i p)) ∙ e ∙ ap (λ n. slice_index n.blocks m) (nodes_same k q))

  placed : (i : ℕ) → i < sizes.nodes → Dec (i ≡ d) → IsPlaced sizes new i
  placed i lt (yes p) = subst (λ x. IsPlaced sizes new x) (sym p) c.placed
  placed i lt (no ne) =
      let old_one = s.placed i lt in
      let same = nodes_same i ne in
      record {
        some = subst IsSome (sym (c.others i ne)) old_one.some;
        few = subst (λ n. n.size ≤ most_items n.kind) (sym same) old_one.few;
        in_data = λ j h. subst (λ n. (first_data sizes ≤ slice_index n.blocks j) × (slice_index n.blocks j < sizes.blocks)) (sym same) (old_one.in_data j (subst (λ n. j < blocks_needed n) same h));
        root = λ z. ap (λ (n : Node). n.kind) same ∙ old_one.root z;
      }

  -- the image is stored as well as before
  pub still_stored : IsStored sizes new
  still_stored = record {
    none = λ i le. c.others i (λ e. omega (arith, c.within)) ∙ s.none i le;
    placed = λ i lt. placed i lt (ℕ_discrete i d);
    apart = λ i j k m hj hm e. apart i j k m hj hm e (ℕ_discrete i d) (ℕ_discrete k d);
    entry = λ i place h. entry i place h (ℕ_discrete i d);
    map = λ b lt. c.map b lt ∙ mapped b lt (names_block new b d) (names_block old b d) refl refl;
  }
    where
      entry : (i place : ℕ) → HasPlace new i place → Dec (i ≡ d) → IsSome (entry_at new i place)
      entry i place h (yes p) = subst (λ x. IsSome (entry_at new x place)) (sym p) (c.entries place (subst (λ x. HasPlace new x place) p h))
      entry i place h (no ne) = same_entry i place ne h
