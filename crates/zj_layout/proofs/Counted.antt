-- A sum over a tree's entries is one over the nodes of a graph that describes it.
use Rattle.std.proofs.Common.{◌≡◌, ◌≢◌, ◌⊎◌, inl, inr, ℕ, zero, suc, ◌+◌, ◌-◌, ◌<◌, Bool, true, false, cond, ltb, lt-ltb, List, [], ◌∷◌, ◌++◌, length, take, Option, Some, None, IsSome, is_some, refl, sym, ap, ◌∙◌, subst, arith, get_or, sum_by}
use Rattle.std.specs.Option.{option_and_then}
use Rattle.std.specs.Ordering.{eq_by_cmp}
use Rattle.std.specs.FinMap as map_of
use Rattle.std.specs.FinMap.{get-insert, get-empty, get-entries, entries-insert, entries, same_map, find, len-entries, len-empty}
use Rattle.std.proofs.lemmas.List.{nil_from_length, length-append}
use Rattle.std.proofs.lemmas.List.Sums.{sum_by-cons}
use Rattle.std.proofs.lemmas.Option.{slice_get-get_or, slice_get_within, get_or_from_slice_get}
use Rattle.zj_layout.proofs.Changed.{not_true}
use native.Mathlib.Decide.{ℕ_discrete}
use Rattle.zj_tree.specs.declared.content.Content.{Content}
use Rattle.zj_tree.specs.Tree.{FileTree, content_at, path_cmp, node_count, entry_count, used, blocks_of, blocks_for, is_in}
use Rattle.zj_tree.specs.Path.{parent}
use Rattle.zj_tree.proofs.SumLemmas.{sum_put, sum_over_keys}
use Rattle.zj_tree.proofs.EntryLemmas.{in_parent, in_one}
use Rattle.zj_layout.specs.declared.fields.Link.{Link}
use Rattle.zj_layout.specs.Graph.{Holding, Nothing, Bytes, Links, Graph, links_of, content_of, step, follow, shown_at, Describes, link_at, IsRooted}
use Rattle.zj_layout.proofs.Follow.{Name', Path', some_is, none_some, Ends, ends, named_stands, follow_more, last_step, one_path, named_entry, link_target, link_once}
use Rattle.zj_layout.proofs.Live.{paths_total, paths_exact, tie, no_tie, led_live}
use Rattle.zj_layout.proofs.Total.{total, total_gap, one_if, one_if_most, hits, hits_from, hits_at, total_hits, same_bool}

entries-empty : entries (map_of.empty {X = Content} {R = path_cmp}) ≡ []
entries-empty = nil_from_length _ (sym (len-entries (map_of.empty {X = Content} {R = path_cmp})) ∙ len-empty path_cmp Content)

ltb_next : (i k : ℕ) → i ≢ k → ltb i (suc k) ≡ ltb i k
ltb_next i k ne = grind arith

ltb_itself : (k : ℕ) → ltb k k ≡ false
ltb_itself k = grind arith

module _ (n : ℕ) (g : Graph) (r : IsRooted n g) (f : Path' × Content → ℕ) (h : ℕ → ℕ)
    (is : (q : Path') (i : ℕ) (c : Content) → follow g 0 q ≡ Some i → content_of (g i) ≡ Some c → h i ≡ f (q, c))
    (nothing : (i : ℕ) → content_of (g i) ≡ None → h i ≡ 0) where
  -- what the paths to the first nodes show
  abbrev below : ℕ → Option ℕ → Option Content
  below k o = option_and_then (λ i. cond (ltb i k) (content_of (g i)) None) o

  record Built (k : ℕ) : Type 0 where
    tree : FileTree
    each : (q : Path') → content_at tree q ≡ below k (follow g 0 q)
    sum : sum_by f (entries tree) ≡ total h k

  build_none : (k : ℕ) → Built k → content_of (g k) ≡ None → Built (suc k)
  build_none k b e = record {
    tree = b.tree;
    each = λ q. b.each q ∙ by (follow g 0 q);
    sum = omega (arith, b.sum, nothing k e);
  }
    where
      by : (o : Option ℕ) → below k o ≡ below (suc k) o
      by None = refl
      by (Some i) = cases (ℕ_discrete i k)
        where
          pick : (x : Bool) (c : Option Content) → c ≡ None → cond x c None ≡ None
          pick true c z = z
          pick false c z = refl

          cases : Dec (i ≡ k) → cond (ltb i k) (content_of (g i)) None ≡ cond (ltb i (suc k)) (content_of (g i)) None
          cases (yes same) = pick (ltb i k) (content_of (g i)) (ap (λ x. content_of (g x)) same ∙ e) ∙ sym (pick (ltb i (suc k)) (content_of (g i)) (ap (λ x. content_of (g x)) same ∙ e))
          cases (no ne) = ap (λ x. cond x (content_of (g i)) None) (sym (ltb_next i k ne))

  build_some : (k : ℕ) → Built k → (c : Content) → content_of (g k) ≡ Some c → (q : Path') → follow g 0 q ≡ Some k → Built (suc k)
  build_some k b c e q leads = record {
    tree = map_of.insert b.tree q c;
    each = λ p. get-insert paths_total b.tree q c p ∙ by p (eq_by_cmp path_cmp p q) refl (follow g 0 p) refl;
    sum = ap (sum_by f) (entries-insert paths_total b.tree q c) ∙ sum_put path_cmp f q c (entries b.tree) absent ∙ omega (arith, b.sum, is q k c leads e);
  }
    where
      absent : find path_cmp q (entries b.tree) ≡ None
      absent = sym (get-entries b.tree q) ∙ b.each q ∙ ap (below k) leads ∙ ap (λ x. cond x (content_of (g k)) None) (ltb_itself k)

      here : below (suc k) (Some k) ≡ Some c
      here = ap (λ x. cond x (content_of (g k)) None) (lt-ltb k (suc k) (omega arith)) ∙ e

      by : (p : Path') (x : Bool) → eq_by_cmp path_cmp p q ≡ x → (o : Option ℕ) → follow g 0 p ≡ o → cond x (Some c) (content_at b.tree p) ≡ below (suc k) (follow g 0 p)
      by p true t o w = sym (ap (λ z. below (suc k) (follow g 0 z)) (tie p q t) ∙ ap (below (suc k)) leads ∙ here)
      by p false t None w = b.each p ∙ ap (below k) w ∙ sym (ap (below (suc k)) w)
      by p false t (Some i) w =
          let ne : i ≢ k = λ same. no_tie p q t (one_path n g r p q k (w ∙ ap (λ (x : ℕ). Some x) same) leads) in
          b.each p ∙ ap (below k) w ∙ ap (λ x. cond x (content_of (g i)) None) (sym (ltb_next i k ne)) ∙ sym (ap (below (suc k)) w)

  built : (k : ℕ) → Built k
  built zero = record { tree = map_of.empty; each = λ q. get-empty path_cmp q ∙ sym (by (follow g 0 q)); sum = ap (sum_by f) entries-empty }
    where
      by : (o : Option ℕ) → below 0 o ≡ None
      by None = refl
      by (Some i) = ap (λ x. cond x (content_of (g i)) None) (none_below i)
        where
          none_below : (i : ℕ) → ltb i 0 ≡ false
          none_below i = grind arith
  built (suc k) = by (built k) (content_of (g k)) refl
    where
      by : Built k → (o : Option Content) → content_of (g k) ≡ o → Built (suc k)
      by b None e = build_none k b e
      by b (Some c) e = let path = r.reached k (subst IsSome (sym e) refl) in build_some k b c e path.0 path.1

  -- a sum over the entries of the tree is one over the nodes
  pub sum_over_nodes : (t : FileTree) → Describes g t → sum_by f (entries t) ≡ total h n
  sum_over_nodes t d =
      let b = built n in
      let same : t ≡ b.tree = same_map paths_total paths_exact t b.tree (λ q. d.each q ∙ by q (follow g 0 q) refl ∙ sym (b.each q)) in
      ap (λ x. sum_by f (entries x)) same ∙ b.sum
    where
      by : (q : Path') (o : Option ℕ) → follow g 0 q ≡ o → shown_at g q ≡ below n (follow g 0 q)
      by q None w = ap (option_and_then (λ i. content_of (g i))) w ∙ sym (ap (below n) w)
      by q (Some i) w =
          let within : ltb i n ≡ true = lt-ltb i n (r.within i (led_live n g r q i w)) in
          ap (option_and_then (λ i. content_of (g i))) w ∙ sym (ap (λ x. cond x (content_of (g i)) None) within) ∙ sym (ap (below n) w)

-- ---- how many nodes

pub length_sum : {A : Type 0} (xs : List A) → length xs ≡ sum_by (λ (x : A). 1) xs
length_sum {A = A} [] = refl
length_sum {A = A} (x ∷ xs) = omega (arith, length_sum xs, sum_by-cons (λ (y : A). 1) x xs)

abbrev pub is_live : Graph → ℕ → Bool
is_live g i = is_some (content_of (g i))

pub nodes_counted : (n : ℕ) (g : Graph) (t : FileTree) → IsRooted n g → Describes g t → node_count t ≡ total (λ i. one_if (is_live g i)) n
nodes_counted n g t r d =
    len-entries t ∙ length_sum (entries t)
    ∙ sum_over_nodes n g r (λ e. 1) (λ i. one_if (is_live g i)) (λ q i c w e. ap (λ o. one_if (is_some o)) e) (λ i e. ap (λ o. one_if (is_some o)) e) t d

-- where a node is free, the tree has fewer
pub nodes_left : (n : ℕ) (g : Graph) (t : FileTree) → IsRooted n g → Describes g t → (k : ℕ) → k < n → content_of (g k) ≡ None → node_count t < n
nodes_left n g t r d k lt e =
    subst (λ x. x < n) (sym (nodes_counted n g t r d)) (total_gap (λ i. one_if (is_live g i)) n k lt (ap (λ o. one_if (is_some o)) e) (λ i l. one_if_most (is_live g i)))

-- ---- how many entries

pub parent_more : (p : Path') (a : Name') → parent (p ++ a ∷ []) ≡ p
parent_more p a = ap (λ m. take m (p ++ a ∷ [])) short ∙ take_front p (a ∷ [])
  where
    short : length (p ++ a ∷ []) - 1 ≡ length p
    short = omega (arith, length-append p (a ∷ []))

    take_front : (p q : Path') → take (length p) (p ++ q) ≡ p
    take_front [] q = refl
    take_front (x ∷ p) q = ap (λ (z : Path'). x ∷ z) (take_front p q)

some_length : (p : Path') (a : Name') → 0 < length (p ++ a ∷ [])
some_length p a = omega (arith, length-append p (a ∷ []))

module _ (n : ℕ) (g : Graph) (r : IsRooted n g) (t : FileTree) (d : Describes g t) (p : Path') (dir : ℕ) (to_dir : follow g 0 p ≡ Some dir) where
  abbrev ls : List Link
  ls = links_of (g dir)

  abbrev none' : Link
  none' = record { node = 0; name = [] }

  abbrev node_at : ℕ → ℕ
  node_at j = (get_or ls j none').node

  stands : (j : ℕ) → j < length ls → link_at g dir j ≡ Some (get_or ls j none')
  stands j lt = slice_get-get_or ls j none' lt

  -- the name of an entry leads to its node
  name_leads : (j : ℕ) (l : Link) → link_at g dir j ≡ Some l → step g dir l.name ≡ Some l.node
  name_leads j l h = named_entry ls (r.names.each dir) j l h

  in_dir : (q : Path') (i : ℕ) → follow g 0 q ≡ Some i → is_in p q ≡ true → hits node_at (length ls) i ≡ true
  in_dir q i w h = by (ends q)
    where
      by : (q ≡ []) ⊎ Ends q → hits node_at (length ls) i ≡ true
      by (inl e) = absurd (omega (arith, (in_one p q h).0, ap length e))
      by (inr e) =
          let last = last_step g e.front e.name i (sym (ap (follow g 0) e.is) ∙ w) in
          let front : e.front ≡ p = sym (parent_more e.front e.name) ∙ ap parent (sym e.is) ∙ (in_one p q h).1 in
          let same : last.dir ≡ dir = some_is (sym last.to_dir ∙ ap (follow g 0) front ∙ to_dir) in
          let s = named_stands ls e.name i (ap (λ x. step g x e.name) (sym same) ∙ last.last) in
          hits_at node_at (length ls) i s.place (slice_get_within ls s.place s.link s.at) (ap (λ (x : Link). x.node) (get_or_from_slice_get ls s.place s.link none' s.at) ∙ s.node_is)

  dir_in : (q : Path') (i : ℕ) → follow g 0 q ≡ Some i → hits node_at (length ls) i ≡ true → is_in p q ≡ true
  dir_in q i w h =
      let s = hits_from node_at (length ls) i h in
      let l = get_or ls s.0 none' in
      let leads : follow g 0 (p ++ l.name ∷ []) ≡ Some i = follow_more g 0 p l.name ∙ ap (option_and_then (λ j. step g j l.name)) to_dir ∙ name_leads s.0 l (stands s.0 s.1) ∙ ap (λ (x : ℕ). Some x) s.2 in
      let same : p ++ l.name ∷ [] ≡ q = one_path n g r (p ++ l.name ∷ []) q i leads w in
      subst (λ x. is_in p x ≡ true) same (ap (λ x. is_in x (p ++ l.name ∷ [])) (sym (parent_more p l.name)) ∙ in_parent (p ++ l.name ∷ []) (some_length p l.name))

  pub entries_counted : entry_count t p ≡ length ls
  entries_counted =
      sum_over_keys (λ (x : Path'). cond (is_in p x) 1 0) (entries t)
      ∙ sum_over_nodes n g r (λ e. one_if (is_in p e.0)) (λ i. one_if (hits node_at (length ls) i))
      (λ q i c w e. ap one_if (same_bool (hits node_at (length ls) i) (is_in p q) (dir_in q i w) (in_dir q i w)))
      (λ i e. ap one_if (free i e))
      t d
      ∙ total_hits node_at (length ls) n (λ j lt. r.within (node_at j) (link_target n g r dir j (get_or ls j none') (stands j lt)).1)
      (λ j k hj hk e. (link_once n g r dir j dir k (get_or ls j none') (get_or ls k none') (stands j hj) (stands k hk) e).1)
    where
      free : (i : ℕ) → content_of (g i) ≡ None → hits node_at (length ls) i ≡ false
      free i e = not_true (hits node_at (length ls) i) (λ h.
          let s = hits_from node_at (length ls) i h in
          let live = (link_target n g r dir s.0 (get_or ls s.0 none') (stands s.0 s.1)).1 in
          let none : content_of (g (node_at s.0)) ≡ None = ap (λ x. content_of (g x)) s.2 ∙ e in
          dead none live)
        where
          dead : {c : Option Content} → c ≡ None → IsSome c → ⊥
          dead e live = cc

-- ---- how many blocks

-- the blocks that a node takes up
abbrev pub blocks_held : Holding → ℕ
blocks_held Nothing = 0
blocks_held (Bytes bytes) = blocks_for (length bytes) 512
blocks_held (Links links) = blocks_for (length links) 16

no_entries : (entries blocks : ℕ) → entries ≡ 0 → blocks ≡ blocks_for entries 16 + blocks
no_entries entries blocks e = omega (arith, e)

entries_alone : (entries links : ℕ) → entries ≡ links → blocks_for links 16 ≡ blocks_for entries 16 + 0
entries_alone entries links e = omega (arith, e)

pub used_counted : (n : ℕ) (g : Graph) (t : FileTree) → IsRooted n g → Describes g t → used t ≡ total (λ i. blocks_held (g i)) n
used_counted n g t r d = sum_over_nodes n g r (blocks_of t) (λ i. blocks_held (g i)) (λ q i c w e. by q i c w (g i) refl e) (λ i e. none i (g i) refl e) t d
  where
    by : (q : Path') (i : ℕ) (c : Content) → follow g 0 q ≡ Some i → (x : Holding) → g i ≡ x → content_of x ≡ Some c → blocks_held x ≡ blocks_of t (q, c)
    by q i c w Nothing e k = absurd (none_some k)
    by q i c w (Bytes bytes) e k =
        let none : entry_count t q ≡ 0 = entries_counted n g r t d q i w ∙ ap (λ x. length (links_of x)) e in
        no_entries (entry_count t q) (blocks_for (length bytes) 512) none ∙ ap (λ y. blocks_of t (q, y)) (some_is k)
    by q i c w (Links links) e k =
        let count : entry_count t q ≡ length links = entries_counted n g r t d q i w ∙ ap (λ x. length (links_of x)) e in
        entries_alone (entry_count t q) (length links) count ∙ ap (λ y. blocks_of t (q, y)) (some_is k)

    none : (i : ℕ) (x : Holding) → g i ≡ x → content_of x ≡ None → blocks_held x ≡ 0
    none i Nothing e k = refl
    none i (Bytes bytes) e k = absurd cc
    none i (Links links) e k = absurd cc
