-- A tree with a new entry.
use Rattle.std.proofs.Common.{◌≡◌, ◌≢◌, ◌⊎◌, inl, inr, ℕ, ◌+◌, ◌-◌, ◌<◌, ◌≤◌, Bool, true, false, cond, ltb-true, lt-ltb, eq-or-lt_of_le, T, List, [], ◌∷◌, length, get_or, take, Option, Some, None, IsSome, IsTrue, sum_by, Decides, refl, sym, ap, ◌∙◌, subst, arith}
use Rattle.std.specs.declared.cmp.Ordering.{Ordering}
use Rattle.std.specs.declared.cmp.Ordering.TheVariants.{Less, Equal, Greater}
use Rattle.std.specs.Ordering.{is_eq, eq_by_cmp}
use Rattle.std.specs.FinMap.{insert, find, put, is_sorted, entries, entries_sorted, get-insert, entries-insert}
use Rattle.std.proofs.lemmas.Bool.{cases_lt}
use Rattle.std.proofs.lemmas.Slice.Eq.{slice_eq-Decides, bytes_eq-Decides}
use Rattle.std.proofs.lemmas.Cmp.{tied_itself}
use Rattle.std.proofs.lemmas.List.{take-take, length-take}
use Rattle.zj_tree.specs.declared.content.Content.{Content}
use Rattle.zj_tree.specs.declared.content.Content.TheVariants.{Dir}
use Rattle.zj_tree.specs.Path.{has_names, parent, same_path}
use Rattle.zj_tree.specs.Tree.{path_cmp, FileTree, IsTree, content_at, is_in, entry_count, directory_blocks, content_blocks, used}
use Rattle.zj_tree.specs.Laws.{EntryTakesBlocks}
use Rattle.zj_tree.proofs.NameLemmas.{both_pass, first_passes, second_passes}
use Rattle.zj_tree.proofs.OrderLemmas.{Entries, paths_total, paths_exact, content_found, find_at, sorted_less, turned}
use Rattle.zj_tree.proofs.SumLemmas.{sum_put, sum_over_keys, sum_differs, sum_zero, find_place}
use Rattle.zj_tree.proofs.RootLemmas.{count, blocks_by, used_among}

-- a path, as a list of names
abbrev pub Path' : Type 0
Path' = List (List ℕ)

-- paths that tie are equal, and equal paths tie
pub tie : (p q : Path') → eq_by_cmp path_cmp p q ≡ true → p ≡ q
tie p q h = paths_exact p q (equal (path_cmp p q) h)
  where
    equal : (r : Ordering) → is_eq r ≡ true → r ≡ Equal
    equal Less h = absurd cc
    equal Equal h = refl
    equal Greater h = absurd cc

-- what stands at a path once there is an entry
module _ (tree : FileTree) (path : Path') (c : Content) where
  pub at_inserted : (q : Path') → content_at (insert tree path c) q ≡ cond (eq_by_cmp path_cmp q path) (Some c) (content_at tree q)
  at_inserted q = get-insert paths_total tree path c q

  -- a tree with a new entry is a tree
  pub inserted_is_tree : IsTree tree → IsTrue (has_names path) → content_at tree path ≡ None → content_at tree (parent path) ≡ Some Dir → IsTree (insert tree path c)
  inserted_is_tree t named none dir = record {
    root = stays [] t.root;
    prefixes = λ q n some lt. stays (take n q) (by q n lt (eq_by_cmp path_cmp q path) refl (subst IsSome (at_inserted q) some));
    names = λ q some. name (eq_by_cmp path_cmp q path) q refl (subst IsSome (at_inserted q) some);
  }
    where
      stays : (q : Path') → content_at tree q ≡ Some Dir → content_at (insert tree path c) q ≡ Some Dir
      stays q h = at_inserted q ∙ cases (eq_by_cmp path_cmp q path) refl
        where
          clash : ◌≡◌ {A = Option Content} None (Some Dir) → ⊥
          clash x = cc

          cases : (b : Bool) → eq_by_cmp path_cmp q path ≡ b → cond b (Some c) (content_at tree q) ≡ Some Dir
          cases true e = absurd (clash (sym none ∙ ap (content_at tree) (sym (tie q path e)) ∙ h))
          cases false e = h

      up : (n : ℕ) → n < length path → (n ≡ length path - 1) ⊎ (n < length path - 1) → content_at tree (take n path) ≡ Some Dir
      up n lt (inl e) = subst (λ m. content_at tree (take m path) ≡ Some Dir) (sym e) dir
      up n lt (inr less) =
          let short : length (parent path) ≡ length path - 1 = omega (arith, length-take (length path - 1) path) in
          let within : n < length (parent path) = omega arith in
          let above = t.prefixes (parent path) n (subst IsSome (sym dir) refl) within in
          subst (λ p. content_at tree p ≡ Some Dir) (take-take n (length path - 1) path (omega arith)) above

      by : (q : Path') (n : ℕ) → n < length q → (b : Bool) → eq_by_cmp path_cmp q path ≡ b → IsSome (cond b (Some c) (content_at tree q)) → content_at tree (take n q) ≡ Some Dir
      by q n lt true e some =
          let same : q ≡ path = tie q path e in
          let lt' : n < length path = subst (λ p. n < length p) same lt in
          subst (λ p. content_at tree (take n p) ≡ Some Dir) (sym same) (up n lt' (cases n lt'))
        where
          cases : (n : ℕ) → n < length path → (n ≡ length path - 1) ⊎ (n < length path - 1)
          cases n lt = eq-or-lt_of_le (omega arith)
      by q n lt false e some = t.prefixes q n some lt

      name : (b : Bool) (q : Path') → eq_by_cmp path_cmp q path ≡ b → IsSome (cond b (Some c) (content_at tree q)) → IsTrue (has_names q)
      name true q e some = subst (λ p. IsTrue (has_names p)) (sym (tie q path e)) named
      name false q e some = t.names q some

-- ---- what a new entry adds

-- whether two paths are the same is decided
pub paths_same : (p q : Path') → Decides (same_path p q) (p ≡ q)
paths_same p q = slice_eq-Decides bytes_eq-Decides p q _ refl

-- a path lies in the directory that is its parent, and in no other
pub in_parent : (path : Path') → 0 < length path → is_in (parent path) path ≡ true
in_parent path some = both_pass _ _ (lt-ltb 0 (length path) some) ((paths_same (parent path) (parent path)).1 refl)

pub in_one : (dir path : Path') → is_in dir path ≡ true → (0 < length path) × (parent path ≡ dir)
in_one dir path h = (ltb-true 0 (length path) (first_passes _ _ h), (paths_same (parent path) dir).0 (second_passes _ _ h))

-- and in no other
pub in_no_other : (dir path : Path') → dir ≢ parent path → is_in dir path ≡ false
in_no_other dir path other = by (is_in dir path) refl
  where
    by : (b : Bool) → is_in dir path ≡ b → b ≡ false
    by false h = refl
    by true h = absurd (other (sym (in_one dir path h).1))

-- no path is its own parent
pub not_in_itself : (path : Path') → 0 < length path → path ≢ parent path
not_in_itself path some e =
    let shorter : length (parent path) ≡ length path - 1 = omega (arith, length-take (length path - 1) path) in
    omega (arith, ap length e)

-- the blocks of entries where one directory has one entry more
module _ (es : Entries) (sorted : T (is_sorted path_cmp es)) (dir : Path') (c : Content) (found : find path_cmp dir es ≡ Some c)
    (old new : Path' → ℕ) (others : (p : Path') → p ≢ dir → new p ≡ old p) (more : new dir ≡ old dir + 1) where
  -- the other entries have other paths
  apart : (i at : ℕ) (d : List (List ℕ) × Content) → i < length es → at < length es → i ≢ at → path_cmp dir (get_or es at d).0 ≡ Equal → (get_or es i d).0 ≢ dir
  apart i at d lt_i lt_at ne tied same = by (cases_lt i at)
    where
      itself : path_cmp (get_or es i d).0 (get_or es at d).0 ≡ Equal
      itself = ap (λ p. path_cmp p (get_or es at d).0) same ∙ tied

      by : (i < at) ⊎ (at ≤ i) → ⊥
      by (inl lt) = let less = sorted_less path_cmp es i at d sorted lt lt_at in cc
      by (inr le) =
          let less = sorted_less path_cmp es at i d sorted (omega arith) lt_i in
          let back = turned paths_total (get_or es at d).0 (get_or es i d).0 Less less in
          cc

  pub one_more : sum_by (blocks_by new) es + directory_blocks (old dir) ≡ sum_by (blocks_by old) es + directory_blocks (old dir + 1)
  one_more =
      let place = find_place path_cmp dir c es found in
      sum_differs (blocks_by old) (blocks_by new) (directory_blocks (old dir)) (directory_blocks (old dir + 1)) es place.0 place.1
      (λ i d lt ne. ap (λ n. directory_blocks n + content_blocks (get_or es i d).1) (others (get_or es i d).0 (apart i place.0 d lt place.1 ne (place.2 d).0)))
      (λ d. at_place (get_or es place.0 d) (paths_exact _ _ (place.2 d).0))
    where
      at_place : (e : List (List ℕ) × Content) → dir ≡ e.0 → blocks_by new e + directory_blocks (old dir) ≡ blocks_by old e + directory_blocks (old dir + 1)
      at_place e is =
          let n : directory_blocks (new e.0) ≡ directory_blocks (old dir + 1) = ap (λ p. directory_blocks (new p)) (sym is) ∙ ap directory_blocks more in
          let o : directory_blocks (old e.0) ≡ directory_blocks (old dir) = ap (λ p. directory_blocks (old p)) (sym is) in
          omega arith

-- a new entry counts in its directory
pub new_count : (es : Entries) (path : Path') (c : Content) → find path_cmp path es ≡ None → (dir : Path') → count (put path_cmp path c es) dir ≡ count es dir + cond (is_in dir path) 1 0
new_count es path c none dir =
    let one = λ (p : Path'). cond (is_in dir p) 1 0 in
    sum_over_keys one (put path_cmp path c es)
    ∙ sum_put path_cmp (λ (e : List (List ℕ) × Content). one e.0) path c es none
    ∙ ap (λ n. n + cond (is_in dir path) 1 0) (sym (sum_over_keys one es))

module _ (es : Entries) (sorted : T (is_sorted path_cmp es)) (path : Path') (c : Content) (some : 0 < length path) (none : find path_cmp path es ≡ None) where
  same_count : (dir : Path') → dir ≢ parent path → count (put path_cmp path c es) dir ≡ count es dir
  same_count dir other = new_count es path c none dir ∙ ap (λ b. count es dir + cond b 1 0) (in_no_other dir path other) ∙ omega arith

  more_count : count (put path_cmp path c es) (parent path) ≡ count es (parent path) + 1
  more_count = new_count es path c none (parent path) ∙ ap (λ b. count es (parent path) + cond b 1 0) (in_parent path some)

  blocks_put : count es path ≡ 0 → find path_cmp (parent path) es ≡ Some Dir →
      sum_by (blocks_by (count (put path_cmp path c es))) (put path_cmp path c es) + directory_blocks (count es (parent path)) ≡ sum_by (blocks_by (count es)) es + content_blocks c + directory_blocks (count es (parent path) + 1)
  blocks_put empty dir =
      let new = blocks_by (count (put path_cmp path c es)) in
      let all = sum_put path_cmp new path c es none in
      let own : directory_blocks (count (put path_cmp path c es) path) ≡ 0 = ap directory_blocks (same_count path (not_in_itself path some) ∙ empty) in
      omega (arith, all, own, one_more es sorted (parent path) Dir dir (count es) (count (put path_cmp path c es)) same_count more_count)

-- nothing lies in a path that is no directory
pub no_children : (tree : FileTree) (path : Path') → IsTree tree → content_at tree path ≢ Some Dir → count (entries tree) path ≡ 0
no_children tree path t none =
    let es = entries tree in
    let one = λ (p : Path'). cond (is_in path p) 1 0 in
    sum_over_keys one es ∙ sum_zero (λ (e : List (List ℕ) × Content). one e.0) es (λ i d lt. ap (λ b. cond b 1 0) (outside i d lt (is_in path (get_or es i d).0) refl))
  where
    outside : (i : ℕ) (d : List (List ℕ) × Content) → i < length (entries tree) → (b : Bool) → is_in path (get_or (entries tree) i d).0 ≡ b → b ≡ false
    outside i d lt false h = refl
    outside i d lt true h =
        let e = get_or (entries tree) i d in
        let lies = in_one path e.0 h in
        let found = content_found tree e.0 ∙ find_at path_cmp paths_total (entries tree) e.0 i d (entries_sorted tree) lt (tied_itself paths_total e.0) in
        let above = t.prefixes e.0 (length e.0 - 1) (subst IsSome (sym found) refl) (omega (arith, lies.0)) in
        absurd (none (sym (ap (content_at tree) lies.1) ∙ above))

-- a path at which nothing stands, in a tree, isn't the root
pub not_root : (tree : FileTree) (path : Path') → IsTree tree → content_at tree path ≡ None → 0 < length path
not_root tree path t none = by path none
  where
    clash : ◌≡◌ {A = Option Content} None (Some Dir) → ⊥
    clash x = cc

    by : (p : Path') → content_at tree p ≡ None → 0 < length p
    by [] e = absurd (clash (sym e ∙ t.root))
    by (x ∷ xs) e = omega arith

pub entry_takes_blocks : EntryTakesBlocks
entry_takes_blocks tree path c t none dir =
    let es = entries tree in
    let put_is = entries-insert paths_total tree path c in
    let blocks = blocks_put es (entries_sorted tree) path c (not_root tree path t none) (sym (content_found tree path) ∙ none) (no_children tree path t (λ e. clash (sym none ∙ e))) (sym (content_found tree (parent path)) ∙ dir) in
    let new = used_among (insert tree path c) ∙ ap (λ xs. sum_by (blocks_by (count xs)) xs) put_is in
    omega (arith, blocks, new, used_among tree)
  where
    clash : ◌≡◌ {A = Option Content} None (Some Dir) → ⊥
    clash x = cc

-- the same, by a count of entries
pub used_with : (tree : FileTree) (path : Path') (c : Content) (n : ℕ) → IsTree tree → content_at tree path ≡ None → content_at tree (parent path) ≡ Some Dir → n ≡ entry_count tree (parent path)
    → used (insert tree path c) ≡ used tree + content_blocks c + (directory_blocks (n + 1) - directory_blocks n)
used_with tree path c n t none dir is =
    let law : used (insert tree path c) + directory_blocks n ≡ used tree + content_blocks c + directory_blocks (n + 1) =
    subst (λ m. used (insert tree path c) + directory_blocks m ≡ used tree + content_blocks c + directory_blocks (m + 1)) (sym is) (entry_takes_blocks tree path c t none dir) in
    let grows : directory_blocks n ≤ directory_blocks (n + 1) = omega arith in
    regroup _ _ _ _ _ law grows
  where
    regroup : (a b c x y : ℕ) → a + x ≡ b + c + y → x ≤ y → a ≡ b + c + (y - x)
    regroup a b c x y law grows = omega arith
