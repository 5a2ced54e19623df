-- The blocks that a tree takes up and those that the map has free are all that there are for data.
use Rattle.std.proofs.Common.{◌≡◌, ◌⊎◌, inl, inr, ℕ, zero, suc, ◌+◌, ◌<◌, ◌≤◌, Bool, true, false, cond, ◌||◌, eqb, ltb, lt-ltb, ltb-true, refl, sym, ap, ◌∙◌, arith}
use Rattle.std.proofs.lemmas.List.FromFn.{length-map-range_with_len}
use native.Mathlib.Decide.{ℕ_discrete}
use Rattle.zj_block.specs.Sizes.{Numbers, first_data, room}
use Rattle.zj_tree.specs.Tree.{FileTree, used, blocks_for}
use Rattle.zj_layout.specs.declared.fields.Kind.{Kind}
use Rattle.zj_layout.specs.declared.fields.Kind.TheVariants.{Free, File, Dir}
use Rattle.zj_layout.specs.declared.fields.Link.{Link}
use Rattle.zj_layout.specs.Graph.{Describes, IsRooted}
use Rattle.zj_layout.specs.Node.{per_block, most_items}
use Rattle.zj_layout.specs.Image.{Image, node_of, count_of, number_of, byte_at_place, link_or_none, held, graph_of, names_block, is_named}
use Rattle.zj_layout.specs.Stored.{IsStored}
use Rattle.zj_layout.proofs.Changed.{names_from, names_at, named_from, named_at}
use Rattle.zj_layout.proofs.Total.{total, total_agree, total_sum, total_none, one_if, hits, hits_from, hits_at, total_hits, same_bool, or_one, or_cases, or_true}
use Rattle.zj_layout.proofs.Counted.{blocks_held, used_counted}

held_blocks : (kind : Kind) (size : ℕ) (byte : ℕ → ℕ) (link : ℕ → Link) → size ≤ most_items kind → blocks_held (held kind size byte link) ≡ blocks_for size (per_block kind)
held_blocks Free size byte link few = omega arith
held_blocks File size byte link few = ap (λ n. blocks_for n 512) (length-map-range_with_len byte 0 size)
held_blocks Dir size byte link few = ap (λ n. blocks_for n 16) (length-map-range_with_len link 0 size)

-- the first numbers of a range
first_ones : (m n : ℕ) → m ≤ n → total (λ b. one_if (ltb b m)) n ≡ m
first_ones m zero le = omega arith
first_ones m (suc n) le = by (λ less. first_ones m n less) (ℕ_discrete m (suc n))
  where
    yes_lt : (i k : ℕ) → i < k → ltb i k ≡ true
    yes_lt i k lt = lt-ltb i k lt

    no_lt : (i k : ℕ) → k ≤ i → ltb i k ≡ false
    no_lt i k le = grind arith

    all : (m n : ℕ) → n ≤ m → total (λ b. one_if (ltb b m)) n ≡ n
    all m zero le = refl
    all m (suc n) le = omega (arith, all m n (omega arith), ap one_if (yes_lt n m (omega arith)))

    by : (m ≤ n → total (λ b. one_if (ltb b m)) n ≡ m) → Dec (m ≡ suc n) → total (λ b. one_if (ltb b m)) n + one_if (ltb n m) ≡ m
    by rest (yes e) = omega (arith, all m n (omega arith), ap one_if (yes_lt n m (omega arith)))
    by rest (no ne) = omega (arith, rest (omega arith), ap one_if (no_lt n m (omega arith)))

module _ (sizes : Numbers) (image : Image) (s : IsStored sizes image) where
  -- one node names as many blocks as it has
  one_node : (k : ℕ) → k < sizes.nodes → total (λ b. one_if (names_block image b k)) sizes.blocks ≡ count_of image k
  one_node k lt =
      total_agree (λ b. one_if (names_block image b k)) (λ b. one_if (hits (number_of image k) (count_of image k) b)) sizes.blocks
      (λ b l. ap one_if (same_bool (names_block image b k) (hits (number_of image k) (count_of image k) b) (λ h. let n = names_from image b k h in hits_at (number_of image k) (count_of image k) b n.j n.within n.is) (λ h. let n = hits_from (number_of image k) (count_of image k) b h in names_at image b k n.0 n.1 n.2)))
      ∙ total_hits (number_of image k) (count_of image k) sizes.blocks (λ j l. ((s.placed k lt).in_data j l).1) (λ j m hj hm e. (s.apart k j k m hj hm e).1)

  -- the first nodes name a block
  up : ℕ → ℕ → Bool
  up zero b = false
  up (suc k) b = up k b || names_block image b k

  up_from : (k b : ℕ) → up k b ≡ true → (i : ℕ) × (i < k) × (names_block image b i ≡ true)
  unfolding up
  up_from zero b h = absurd cc
  up_from (suc k) b h = by (λ e. up_from k b e) (or_cases (up k b) (names_block image b k) h)
    where
      by : (up k b ≡ true → (i : ℕ) × (i < k) × (names_block image b i ≡ true)) → (up k b ≡ true) ⊎ (names_block image b k ≡ true) → (i : ℕ) × (i < suc k) × (names_block image b i ≡ true)
      by rest (inl e) = let r = rest e in (r.0, omega (arith, r.1), r.2)
      by rest (inr e) = (k, omega arith, e)

  up_at : (k b i : ℕ) → i < k → names_block image b i ≡ true → up k b ≡ true
  unfolding up
  up_at zero b i lt e = absurd (omega arith)
  up_at (suc k) b i lt e = or_true (up k b) (names_block image b k) (by (λ less. up_at k b i less e) (ℕ_discrete i k))
    where
      by : (i < k → up k b ≡ true) → Dec (i ≡ k) → (up k b ≡ true) ⊎ (names_block image b k ≡ true)
      by rest (yes same) = inr (sym (ap (names_block image b) same) ∙ e)
      by rest (no other) = inl (rest (omega arith))

  up_is : (b : ℕ) → is_named sizes.nodes image b ≡ up sizes.nodes b
  up_is b = same_bool (is_named sizes.nodes image b) (up sizes.nodes b)
      (λ h. let n = named_from sizes.nodes image b h in up_at sizes.nodes b n.0 n.1 (names_at image b n.0 n.2.j n.2.within n.2.is))
      (λ h. let n = up_from sizes.nodes b h in named_at sizes.nodes image b n.0 n.1 n.2)

  all_nodes : (k : ℕ) → k ≤ sizes.nodes → total (λ b. one_if (up k b)) sizes.blocks ≡ total (count_of image) k
  unfolding up
  all_nodes zero le = total_none (λ b. one_if false) sizes.blocks (λ i lt. refl)
  all_nodes (suc k) le =
      total_agree (λ b. one_if (up k b || names_block image b k)) (λ b. one_if (up k b) + one_if (names_block image b k)) sizes.blocks
      (λ b l. or_one (up k b) (names_block image b k) (λ x y.
      let n = up_from k b x in
      let a = names_from image b n.0 n.2 in
      let c = names_from image b k y in
      omega (arith, n.1, (s.apart n.0 a.j k c.j a.within c.within (a.is ∙ sym c.is)).0)))
      ∙ total_sum (λ b. one_if (up k b)) (λ b. one_if (names_block image b k)) sizes.blocks
      ∙ omega (arith, all_nodes k (omega arith), one_node k (omega arith))

  -- a block that is free, one that isn't for data, and one that is named: each block is one of these
  parts : (b : ℕ) → b < sizes.blocks → (one_if (eqb (image.map b) 0) + (one_if (ltb b (first_data sizes)) + one_if (is_named sizes.nodes image b))) ≡ 1
  parts b lt = ap (λ m. one_if (eqb m 0) + (one_if (ltb b (first_data sizes)) + one_if (is_named sizes.nodes image b))) (s.map b lt) ∙ by (ltb b (first_data sizes)) (is_named sizes.nodes image b) refl refl
    where
      by : (x y : Bool) → ltb b (first_data sizes) ≡ x → is_named sizes.nodes image b ≡ y → one_if (eqb (cond (x || y) 1 0) 0) + (one_if x + one_if y) ≡ 1
      by true true p q =
          let n = named_from sizes.nodes image b q in
          let above = ((s.placed n.0 n.1).in_data n.2.j n.2.within).0 in
          absurd (omega (arith, ltb-true b (first_data sizes) p, above, n.2.is))
      by true false p q = refl
      by false true p q = refl
      by false false p q = refl

  -- how many blocks are free
  abbrev pub free_blocks : ℕ
  free_blocks = total (λ b. one_if (eqb (image.map b) 0)) sizes.blocks

  all_ones : (n : ℕ) → total (λ b. 1) n ≡ n
  all_ones zero = refl
  all_ones (suc n) = omega (arith, all_ones n)

  -- a tree takes up as many blocks as the nodes name
  pub used_named : (t : FileTree) → IsRooted sizes.nodes (graph_of image) → Describes (graph_of image) t → used t ≡ total (count_of image) sizes.nodes
  used_named t r d =
      used_counted sizes.nodes (graph_of image) t r d
      ∙ total_agree (λ i. blocks_held (graph_of image i)) (count_of image) sizes.nodes (λ i lt. held_blocks (node_of image i).kind (node_of image i).size (byte_at_place image i) (link_or_none image i) (s.placed i lt).few)

  pub used_and_free : (t : FileTree) → IsRooted sizes.nodes (graph_of image) → Describes (graph_of image) t → first_data sizes ≤ sizes.blocks → used t + free_blocks ≡ room sizes
  used_and_free t r d some =
      let blocks : used t ≡ total (count_of image) sizes.nodes = used_named t r d in
      let named : total (λ b. one_if (is_named sizes.nodes image b)) sizes.blocks ≡ total (count_of image) sizes.nodes =
      total_agree (λ b. one_if (is_named sizes.nodes image b)) (λ b. one_if (up sizes.nodes b)) sizes.blocks (λ b l. ap one_if (up_is b)) ∙ all_nodes sizes.nodes (omega arith) in
      let whole =
      total_agree (λ b. one_if (eqb (image.map b) 0) + (one_if (ltb b (first_data sizes)) + one_if (is_named sizes.nodes image b))) (λ b. 1) sizes.blocks parts ∙ all_ones sizes.blocks in
      let split = total_sum (λ b. one_if (eqb (image.map b) 0)) (λ b. one_if (ltb b (first_data sizes)) + one_if (is_named sizes.nodes image b)) sizes.blocks in
      let split' = total_sum (λ b. one_if (ltb b (first_data sizes))) (λ b. one_if (is_named sizes.nodes image b)) sizes.blocks in
      omega (arith, blocks, named, whole, split, split', first_ones (first_data sizes) sizes.blocks some)
