-- How many blocks a tree takes up once it has a new entry, or a file has other bytes; and how many are free.
use Rattle.std.proofs.Common.{◌≡◌, ◌≢◌, ℕ, zero, suc, ◌+◌, ◌%◌, ◌<◌, ◌≤◌, Bool, true, false, cond, ◌||◌, eqb, eqb-true, eq-eqb, lt-ltb, List, [], ◌∷◌, ◌++◌, length, Contains, Some, None, refl, sym, ap, ◌∙◌, subst, arith}
use Rattle.std.specs.FinMap as map_of
use Rattle.std.proofs.lemmas.List.{length-append}
use native.Mathlib.Decide.{ℕ_discrete, dec_lt}
use Rattle.zj_block.specs.Sizes.{Numbers, first_data}
use Rattle.zj_tree.specs.declared.content.Content.{Content}
use Rattle.zj_tree.specs.declared.content.Content.TheVariants as contents
use Rattle.zj_tree.specs.Tree.{FileTree, used, blocks_for}
use Rattle.zj_layout.specs.declared.fields.Link.{Link}
use Rattle.zj_layout.specs.Graph.{Holding, Nothing, Bytes, Links, Graph, content_of, named, follow, Describes, IsLive, IsRooted}
use Rattle.zj_layout.specs.Image.{Image, is_named}
use Rattle.zj_layout.specs.Stored.{IsStored}
use Rattle.zj_layout.proofs.Follow.{Path', Name'}
use Rattle.zj_layout.proofs.Total.{total, total_agree, total_sum, total_none, one_if, total_one, no_eqb}
use Rattle.zj_layout.proofs.Counted.{used_counted, blocks_held}
use Rattle.zj_layout.proofs.Room.{free_blocks}
use Rattle.zj_changes.specs.Leaf.{IsLeaf, AddsLeaf}
use Rattle.zj_changes.specs.Dropped.{ChangesBytes}
use Rattle.zj_changes.specs.Walk.{FreeAreAmong}
use Rattle.zj_changes.proofs.Leaf.{still_rooted, describes_leaf}
use Rattle.zj_changes.proofs.Dropped.{bytes_rooted, describes_bytes}

-- one term of a sum is more
total_bumped : (h k : ℕ → ℕ) (n at m : ℕ) → at < n → ((i : ℕ) → i ≢ at → k i ≡ h i) → k at ≡ h at + m → total k n ≡ total h n + m
total_bumped h k zero at m lt same more = absurd (omega arith)
total_bumped h k (suc n) at m lt same more = by (λ less. total_bumped h k n at m less same more) (ℕ_discrete at n)
  where
    by : (at < n → total k n ≡ total h n + m) → Dec (at ≡ n) → total k n + k n ≡ total h n + h n + m
    by rest (yes e) =
        let below = total_agree k h n (λ i l. same i (omega arith)) in
        let here : k n ≡ h n + m = subst (λ x. k x ≡ h x + m) e more in
        omega (arith, below, here)
    by rest (no ne) = omega (arith, rest (omega arith), same n (λ z. ne (sym z)))

-- the graph with a leaf
abbrev grown : Graph → ℕ → List Link → Link → Holding → Graph
grown g dir es l leaf i = cond (eqb i dir) (Links (es ++ l ∷ [])) (cond (eqb i l.node) leaf (g i))

-- one more entry, and the block that it may need
one_more : (k : ℕ) → blocks_for (k + 1) 16 ≡ blocks_for k 16 + cond (eqb (k % 16) 0) 1 0
one_more k = by (eqb (k % 16) 0) refl
  where
    by : (b : Bool) → eqb (k % 16) 0 ≡ b → blocks_for (k + 1) 16 ≡ blocks_for k 16 + cond b 1 0
    by true h = let e : k % 16 ≡ 0 = eqb-true _ _ h in omega arith
    by false h = let e : k % 16 ≢ 0 = λ z. clash (eqb (k % 16) 0) (eq-eqb (k % 16) 0 z) h in omega arith
      where
        clash : (b : Bool) → b ≡ true → b ≡ false → ⊥
        clash b t f = cc

module _ (n : ℕ) (g : Graph) (r : IsRooted n g) (t : FileTree) (d : Describes g t) (p : Path') (dir : ℕ) (es : List Link) (is_dir : g dir ≡ Links es) (to_dir : follow g 0 p ≡ Some dir) (a : Name') where
  abbrev path : Path'
  path = p ++ a ∷ []

  -- how many blocks the tree with a new leaf takes up, where some node is free
  pub used_more : (k : ℕ) (c : Content) (leaf : Holding) → k < n → g k ≡ Nothing → IsLeaf leaf → content_of leaf ≡ Some c → blocks_held leaf ≡ 0 → named a es ≡ None → used (map_of.insert t path c) ≡ used t + cond (eqb (length es % 16) 0) 1 0
  used_more k c leaf lt free is_leaf is none absent =
      used_counted n g' (map_of.insert t path c) (still_rooted n g g' r dir es l leaf adds p to_dir absent lt) (describes_leaf n g g' r dir es l leaf adds p to_dir absent t c d is)
      ∙ total_bumped (λ i. blocks_held (g i)) (λ i. blocks_held (g' i)) n dir more (r.within dir (subst IsLive (sym is_dir) refl)) same here
      ∙ ap (λ m. m + more) (sym (used_counted n g t r d))
    where
      l : Link
      l = record { node = k; name = a }

      more : ℕ
      more = cond (eqb (length es % 16) 0) 1 0

      g' : Graph
      g' = grown g dir es l leaf

      apart : k ≢ dir
      apart e = let both : Nothing ≡ Links es = sym free ∙ ap g e ∙ is_dir in cc

      adds : AddsLeaf g g' dir es l leaf
      adds = record {
        is_leaf = is_leaf;
        was_free = free;
        was = is_dir;
        now = ap (λ b. cond b (Links (es ++ l ∷ [])) (cond (eqb dir k) leaf (g dir))) (eq-eqb dir dir refl);
        added = ap (λ b. cond b (Links (es ++ l ∷ [])) (cond (eqb k k) leaf (g k))) (no_eqb k dir apart) ∙ ap (λ b. cond b leaf (g k)) (eq-eqb k k refl);
        others = λ i ne nf. ap (λ b. cond b (Links (es ++ l ∷ [])) (cond (eqb i k) leaf (g i))) (no_eqb i dir ne) ∙ ap (λ b. cond b leaf (g i)) (no_eqb i k nf);
      }

      same : (i : ℕ) → i ≢ dir → blocks_held (g' i) ≡ blocks_held (g i)
      same i ne = by (ℕ_discrete i k)
        where
          by : Dec (i ≡ k) → blocks_held (g' i) ≡ blocks_held (g i)
          by (yes e) = ap (λ x. blocks_held (g' x)) e ∙ ap blocks_held adds.added ∙ none ∙ sym (ap blocks_held free) ∙ ap (λ x. blocks_held (g x)) (sym e)
          by (no nf) = ap blocks_held (adds.others i ne nf)

      here : blocks_held (g' dir) ≡ blocks_held (g dir) + more
      here =
          ap blocks_held adds.now ∙ ap (λ m. blocks_for m 16) (length-append es (l ∷ [])) ∙ one_more (length es)
          ∙ ap (λ h. blocks_held h + more) (sym is_dir)

-- how many blocks the tree takes up with other bytes in a file
pub used_rewritten : (n : ℕ) (g : Graph) (r : IsRooted n g) (t : FileTree) (d : Describes g t) (p : Path') (file : ℕ) (before after : List ℕ) → follow g 0 p ≡ Some file → g file ≡ Bytes before
    → used (map_of.insert t p (contents.File after)) + blocks_for (length before) 512 ≡ used t + blocks_for (length after) 512
used_rewritten n g r t d p file before after leads was = omega (arith, new_used, old_used, less, more)
  where
    g' : Graph
    g' i = cond (eqb i file) (Bytes after) (g i)

    changes : ChangesBytes g g' file before after
    changes = record {
      was = was;
      now = ap (λ b. cond b (Bytes after) (g file)) (eq-eqb file file refl);
      others = λ i ne. ap (λ b. cond b (Bytes after) (g i)) (no_eqb i file ne);
    }

    -- the sum without the file
    away : Graph
    away i = cond (eqb i file) Nothing (g i)

    away_here : away file ≡ Nothing
    away_here = ap (λ b. cond b Nothing (g file)) (eq-eqb file file refl)

    away_other : (i : ℕ) → i ≢ file → away i ≡ g i
    away_other i ne = ap (λ b. cond b Nothing (g i)) (no_eqb i file ne)

    within : file < n
    within = r.within file (subst IsLive (sym was) refl)

    old_used : used t ≡ total (λ i. blocks_held (g i)) n
    old_used = used_counted n g t r d

    new_used : used (map_of.insert t p (contents.File after)) ≡ total (λ i. blocks_held (g' i)) n
    new_used = used_counted n g' (map_of.insert t p (contents.File after)) (bytes_rooted n g g' r file before after changes) (describes_bytes n g g' r file before after changes t p d leads)

    less : total (λ i. blocks_held (g i)) n ≡ total (λ i. blocks_held (away i)) n + blocks_for (length before) 512
    less = total_bumped (λ i. blocks_held (away i)) (λ i. blocks_held (g i)) n file (blocks_for (length before) 512) within (λ i ne. ap blocks_held (sym (away_other i ne))) (ap blocks_held was ∙ omega (arith, ap blocks_held away_here))

    more : total (λ i. blocks_held (g' i)) n ≡ total (λ i. blocks_held (away i)) n + blocks_for (length after) 512
    more = total_bumped (λ i. blocks_held (away i)) (λ i. blocks_held (g' i)) n file (blocks_for (length after) 512) within (λ i ne. ap blocks_held (changes.others i ne ∙ sym (away_other i ne))) (ap blocks_held changes.now ∙ omega (arith, ap blocks_held away_here))

-- ---- how many blocks are free

total_less : (h k : ℕ → ℕ) (n : ℕ) → ((i : ℕ) → i < n → h i ≤ k i) → total h n ≤ total k n
total_less h k zero e = omega arith
total_less h k (suc n) e = omega (arith, total_less h k n (λ i lt. e i (omega arith)), e n (omega arith))

total_eqb : (x n : ℕ) → total (λ b. one_if (eqb x b)) n ≤ 1
total_eqb x n = by (dec_lt x n)
  where
    by : Dec (x < n) → total (λ b. one_if (eqb x b)) n ≤ 1
    by (yes lt) = omega (arith, total_one x n lt)
    by (no ge) = omega (arith, total_none (λ b. one_if (eqb x b)) n (λ i lt. ap one_if (no_eqb x i (λ e. ge (omega arith)))))

-- how often a number stands among others
times : List ℕ → ℕ → ℕ
times [] b = 0
times (x ∷ xs) b = one_if (eqb x b) + times xs b

total_times : (xs : List ℕ) (n : ℕ) → total (times xs) n ≤ length xs
unfolding times
total_times [] n = omega (arith, total_none (λ b. 0) n (λ i lt. refl))
total_times (x ∷ xs) n = omega (arith, total_sum (λ b. one_if (eqb x b)) (times xs) n, total_eqb x n, total_times xs n)

stands_once : (xs : List ℕ) (b : ℕ) → Contains xs b → 1 ≤ times xs b
unfolding times
stands_once [] b (k, lt, e) = absurd (omega arith)
stands_once (x ∷ xs) b (zero, lt, e) = omega (arith, ap one_if (eq-eqb x b e))
stands_once (x ∷ xs) b (suc k, lt, e) = omega (arith, stands_once xs b (k, omega arith, e))

-- no more blocks are free than stand in a list that has each of them
pub few_free : (sizes : Numbers) (image : Image) (s : IsStored sizes image) (blocks : List ℕ) → FreeAreAmong sizes image blocks → free_blocks sizes image s ≤ length blocks
few_free sizes image s blocks among = omega (arith, total_less (λ b. one_if (eqb (image.map b) 0)) (times blocks) sizes.blocks each, total_times blocks sizes.blocks)
  where
    each : (b : ℕ) → b < sizes.blocks → one_if (eqb (image.map b) 0) ≤ times blocks b
    each b lt = by (dec_lt b (first_data sizes)) (ℕ_discrete (image.map b) 0)
      where
        by : Dec (b < first_data sizes) → Dec (image.map b ≡ 0) → one_if (eqb (image.map b) 0) ≤ times blocks b
        by d (no used) = omega (arith, ap one_if (no_eqb (image.map b) 0 used))
        by (no above) (yes free) = omega (arith, ap one_if (eq-eqb (image.map b) 0 free), stands_once blocks b (among b (omega arith) lt free))
        by (yes below) (yes free) = absurd (omega (arith, free, s.map b lt ∙ ap (λ x. cond (x || is_named sizes.nodes image b) 1 0) (lt-ltb b (first_data sizes) below)))
