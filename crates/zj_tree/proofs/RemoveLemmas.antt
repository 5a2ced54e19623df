-- A tree without an entry, or with other bytes in a file.
use Rattle.std.proofs.Common.{◌≡◌, ◌≢◌, ℕ, zero, suc, ◌+◌, ◌-◌, ◌<◌, ◌≤◌, Bool, true, false, cond, List, [], ◌∷◌, length, get_or, take, Option, Some, None, MatchOption, IsSome, sum_by, refl, sym, ap, ◌∙◌, subst, arith}
use Rattle.std.specs.Ordering.{eq_by_cmp}
use Rattle.std.specs.FinMap.{insert, entries, entries-insert, find, put, get-remove}
use Rattle.std.specs.FinMap as map_of
use Rattle.std.proofs.lemmas.List.{take-take, length-take}
use Rattle.std.proofs.lemmas.List.Sums.{sum_by-cons}
use Rattle.zj_tree.specs.declared.content.Content.{Content}
use Rattle.zj_tree.specs.declared.content.Content.TheVariants.{Dir, File}
use Rattle.zj_tree.specs.Path.{parent}
use Rattle.zj_tree.specs.Tree.{path_cmp, FileTree, IsTree, content_at, is_in, entry_count, directory_blocks, content_blocks, used}
use Rattle.zj_tree.proofs.OrderLemmas.{Entries, paths_total, paths_exact, content_found}
use Rattle.zj_tree.proofs.SumLemmas.{sum_put, sum_over_keys, find_place}
use Rattle.zj_tree.proofs.RootLemmas.{count, blocks_by, used_among}
use Rattle.zj_tree.proofs.EntryLemmas.{Path', tie, in_parent, new_count, at_inserted, entry_takes_blocks}
use Rattle.zj_tree.proofs.EditLemmas.{Entry', reinserted, replaced, removed_nothing, gone}

clash_none : (c : Content) → Some c ≡ None → ⊥
clash_none c x = cc

-- ---- nothing below

-- where a directory has no entries, no path of the tree lies in it
none_in : (es : Entries) (dir : Path') → count es dir ≡ 0 → (i : ℕ) (d : Entry') → i < length es → is_in dir (get_or es i d).0 ≡ false
none_in es dir zero_is i d lt =
    let none : sum_by (λ (e : Entry'). cond (is_in dir e.0) 1 0) es ≡ 0 = sym (sum_over_keys (λ (p : Path'). cond (is_in dir p) 1 0) es) ∙ zero_is in
    each es i d lt none
  where
    no : (b : Bool) (n : ℕ) → n ≡ cond b 1 0 → n ≡ 0 → b ≡ false
    no true n is e = absurd (omega arith)
    no false n is e = refl

    each : (es : Entries) (i : ℕ) (d : Entry') → i < length es → sum_by (λ (e : Entry'). cond (is_in dir e.0) 1 0) es ≡ 0 → is_in dir (get_or es i d).0 ≡ false
    each [] i d lt e = absurd (omega arith)
    each (e ∷ es) zero d lt z = no (is_in dir e.0) (cond (is_in dir e.0) 1 0) refl (omega (arith, z, sum_by-cons (λ (x : Entry'). cond (is_in dir x.0) 1 0) e es))
    each (e ∷ es) (suc i) d lt z = each es i d (omega arith) (omega (arith, z, sum_by-cons (λ (x : Entry'). cond (is_in dir x.0) 1 0) e es))

-- nothing lies below a path that has no entries
pub nothing_below : (tree : FileTree) (path q : Path') (n : ℕ) → IsTree tree → entry_count tree path ≡ 0 → IsSome (content_at tree q) → n < length q → take n q ≢ path
nothing_below tree path q n t empty some lt is = by (content_at tree (take (n + 1) q)) refl
  where
    stands : IsSome (content_at tree (take (n + 1) q))
    stands = cases (◌-◌ (length q) (n + 1)) refl
      where
        cases : (k : ℕ) → length q - (n + 1) ≡ k → IsSome (content_at tree (take (n + 1) q))
        cases zero e = subst (λ p. IsSome (content_at tree p)) (sym (take_all_of q (n + 1) (omega arith))) some
          where
            take_all_of : (xs : Path') (k : ℕ) → length xs ≤ k → take k xs ≡ xs
            take_all_of [] zero le = refl
            take_all_of [] (suc k) le = refl
            take_all_of (x ∷ xs) zero le = absurd (omega arith)
            take_all_of (x ∷ xs) (suc k) le = ap (λ ys. x ∷ ys) (take_all_of xs k (omega arith))
        cases (suc k) e = subst IsSome (sym (t.prefixes q (n + 1) some (omega arith))) refl

    lies : is_in path (take (n + 1) q) ≡ true
    lies =
        let long : length (take (n + 1) q) ≡ n + 1 = omega (arith, length-take (n + 1) q) in
        let up : parent (take (n + 1) q) ≡ path = ap (λ k. take (k - 1) (take (n + 1) q)) long ∙ take-take (n + 1 - 1) (n + 1) q (omega arith) ∙ ap (λ k. take k q) (less_one n) ∙ is in
        subst (λ d. is_in d (take (n + 1) q) ≡ true) up (in_parent (take (n + 1) q) (omega arith))
      where
        less_one : (k : ℕ) → k + 1 - 1 ≡ k
        less_one k = omega arith

    by : (o : Option Content) → content_at tree (take (n + 1) q) ≡ o → ⊥
    by None e = none_some (subst IsSome e stands)
      where
        none_some : IsSome {T = Content} None → ⊥
        none_some x = cc
    by (Some c) e =
        let place = find_place path_cmp (take (n + 1) q) c (entries tree) (sym (content_found tree (take (n + 1) q)) ∙ e) in
        let d : Entry' = ([], Dir) in
        let key : take (n + 1) q ≡ (get_or (entries tree) place.0 d).0 = paths_exact _ _ (place.2 d).0 in
        let out = none_in (entries tree) path empty place.0 d place.1 in
        clash (sym lies ∙ ap (is_in path) key ∙ out)
      where
        clash : true ≡ false → ⊥
        clash x = cc

-- ---- trees

module _ (tree : FileTree) (path : Path') where
  -- a tree without an entry below which nothing lies is a tree
  pub removed_is_tree : IsTree tree → 0 < length path → entry_count tree path ≡ 0 → IsTree (map_of.remove tree path)
  removed_is_tree t below empty = record {
    root = at_other [] (λ e. omega (arith, ap length e)) ∙ t.root;
    prefixes = λ q n some lt. at_other (take n q) (nothing_below tree path q n t empty (was q some) lt) ∙ t.prefixes q n (was q some) lt;
    names = λ q some. t.names q (was q some);
  }
    where
      at_other : (q : Path') → q ≢ path → content_at (map_of.remove tree path) q ≡ content_at tree q
      at_other q other = get-remove paths_total tree path q ∙ by (eq_by_cmp path_cmp q path) refl
        where
          by : (b : Bool) → eq_by_cmp path_cmp q path ≡ b → cond b None (content_at tree q) ≡ content_at tree q
          by true e = absurd (other (tie q path e))
          by false e = refl

      was : (q : Path') → IsSome (content_at (map_of.remove tree path) q) → IsSome (content_at tree q)
      was q some = by (eq_by_cmp path_cmp q path) (subst IsSome (get-remove paths_total tree path q) some)
        where
          by : (b : Bool) → IsSome (cond b None (content_at tree q)) → IsSome (content_at tree q)
          by true s = absurd cc
          by false s = s

  -- a tree with other bytes in a file is a tree
  pub replaced_is_tree : (old new : List ℕ) → IsTree tree → content_at tree path ≡ Some (File old) → IsTree (insert tree path (File new))
  replaced_is_tree old new t there = record {
    root = stays [] t.root;
    prefixes = λ q n some lt. stays (take n q) (t.prefixes q n (was q some) lt);
    names = λ q some. t.names q (was q some);
  }
    where
      clash : ◌≡◌ {A = Option Content} (Some (File old)) (Some Dir) → ⊥
      clash x = cc

      stays : (q : Path') → content_at tree q ≡ Some Dir → content_at (insert tree path (File new)) q ≡ Some Dir
      stays q h = at_inserted tree path (File new) q ∙ by (eq_by_cmp path_cmp q path) refl
        where
          by : (b : Bool) → eq_by_cmp path_cmp q path ≡ b → cond b (Some (File new)) (content_at tree q) ≡ Some Dir
          by true e = absurd (clash (sym there ∙ ap (content_at tree) (sym (tie q path e)) ∙ h))
          by false e = h

      was : (q : Path') → IsSome (content_at (insert tree path (File new)) q) → IsSome (content_at tree q)
      was q some = by (eq_by_cmp path_cmp q path) refl (subst IsSome (at_inserted tree path (File new) q) some)
        where
          by : (b : Bool) → eq_by_cmp path_cmp q path ≡ b → IsSome (cond b (Some (File new)) (content_at tree q)) → IsSome (content_at tree q)
          by true e s = subst IsSome (sym (ap (content_at tree) (tie q path e) ∙ there)) refl
          by false e s = s

  -- ---- blocks

  -- how many entries there are in each directory doesn't depend on what an entry is
  same_counts : (c old : Content) → content_at tree path ≡ Some old → count (put path_cmp path c (entries (map_of.remove tree path))) ≡ count (put path_cmp path old (entries (map_of.remove tree path)))
  same_counts c old there =
      let es = entries (map_of.remove tree path) in
      let none : find path_cmp path es ≡ None = sym (content_found (map_of.remove tree path) path) ∙ gone tree path in
      λ i dir. (new_count es path c none dir ∙ sym (new_count es path old none dir)) i

  -- what other content takes up
  pub used_replaced : (c old : Content) → content_at tree path ≡ Some old → used (insert tree path c) + content_blocks old ≡ used tree + content_blocks c
  used_replaced c old there =
      let es = entries (map_of.remove tree path) in
      let none : find path_cmp path es ≡ None = sym (content_found (map_of.remove tree path) path) ∙ gone tree path in
      let total = λ (x : Content). sum_by (blocks_by (count (put path_cmp path x es))) (put path_cmp path x es) in
      let before : used tree ≡ total old = ap used (sym (reinserted tree path old there)) ∙ used_among (insert (map_of.remove tree path) path old) ∙ ap (λ xs. sum_by (blocks_by (count xs)) xs) (entries-insert paths_total (map_of.remove tree path) path old) in
      let after : used (insert tree path c) ≡ total c = ap used (sym (replaced tree path c)) ∙ used_among (insert (map_of.remove tree path) path c) ∙ ap (λ xs. sum_by (blocks_by (count xs)) xs) (entries-insert paths_total (map_of.remove tree path) path c) in
      let counts = count (put path_cmp path old es) in
      let as_before : total c ≡ sum_by (blocks_by counts) (put path_cmp path c es) = ap (λ n. sum_by (blocks_by n) (put path_cmp path c es)) (same_counts c old there) in
      omega (arith, before, after, as_before, sum_put path_cmp (blocks_by counts) path c es none, sum_put path_cmp (blocks_by counts) path old es none)

  -- an entry takes up no more than the tree
  pub used_at_least : (c : Content) → content_at tree path ≡ Some c → content_blocks c ≤ used tree
  used_at_least c there = omega (arith, used_replaced Dir c there)

  -- a tree without an entry takes up no more
  pub used_removed_less : used (map_of.remove tree path) ≤ used tree
  used_removed_less = by (content_at tree path) refl
    where
      by : (o : Option Content) → content_at tree path ≡ o → used (map_of.remove tree path) ≤ used tree
      by None e = subst (λ m. used m ≤ used tree) (sym (removed_nothing tree path e)) (omega arith)
      by (Some c) e =
          let es = entries (map_of.remove tree path) in
          let none : find path_cmp path es ≡ None = sym (content_found (map_of.remove tree path) path) ∙ gone tree path in
          let counts = count (put path_cmp path c es) in
          let before : used tree ≡ sum_by (blocks_by counts) (put path_cmp path c es) = ap used (sym (reinserted tree path c e)) ∙ used_among (insert (map_of.remove tree path) path c) ∙ ap (λ xs. sum_by (blocks_by (count xs)) xs) (entries-insert paths_total (map_of.remove tree path) path c) in
          omega (arith, before, used_among (map_of.remove tree path), sum_put path_cmp (blocks_by counts) path c es none, fewer es (count es) counts (λ dir. omega (arith, new_count es path c none dir)))
        where
          fewer : (es : Entries) (old new : Path' → ℕ) → ((dir : Path') → old dir ≤ new dir) → sum_by (blocks_by old) es ≤ sum_by (blocks_by new) es
          fewer [] old new le = omega arith
          fewer (e ∷ es) old new le = omega (arith, sum_by-cons (blocks_by old) e es, sum_by-cons (blocks_by new) e es, fewer es old new le, le e.0)

  -- the law for one entry, read backwards
  pub used_removed : (c : Content) → IsTree tree → 0 < length path → entry_count tree path ≡ 0 → content_at tree path ≡ Some c →
      used tree + directory_blocks (entry_count tree (parent path) - 1) ≡ used (map_of.remove tree path) + content_blocks c + directory_blocks (entry_count tree (parent path))
  used_removed c t below empty there =
      let m = map_of.remove tree path in
      let es = entries m in
      let none : find path_cmp path es ≡ None = sym (content_found m path) ∙ gone tree path in
      let mt = removed_is_tree t below empty in
      let up : parent path ≢ path = λ e. omega (arith, ap length e, length-take (length path - 1) path) in
      let dir : content_at m (parent path) ≡ Some Dir = stays (parent path) up (t.prefixes path (length path - 1) (subst IsSome (sym there) refl) (omega arith)) in
      let law = entry_takes_blocks m path c mt (gone tree path) dir in
      let more : entry_count tree (parent path) ≡ entry_count m (parent path) + 1 =
      ap (λ x. entry_count x (parent path)) (sym (reinserted tree path c there))
      ∙ ap (λ xs. count xs (parent path)) (entries-insert paths_total m path c)
      ∙ new_count es path c none (parent path)
      ∙ ap (λ b. count es (parent path) + cond b 1 0) (in_parent path below) in
      regroup (entry_count tree (parent path)) (entry_count m (parent path)) more (used tree) (used m) (subst (λ x. used x + directory_blocks (entry_count m (parent path)) ≡ used m + content_blocks c + directory_blocks (entry_count m (parent path) + 1)) (reinserted tree path c there) law)
    where
      stays : (q : Path') → q ≢ path → content_at tree q ≡ Some Dir → content_at (map_of.remove tree path) q ≡ Some Dir
      stays q other h = get-remove paths_total tree path q ∙ by (eq_by_cmp path_cmp q path) refl
        where
          by : (b : Bool) → eq_by_cmp path_cmp q path ≡ b → cond b None (content_at tree q) ≡ Some Dir
          by true e = absurd (other (tie q path e))
          by false e = h

      regroup : (n k : ℕ) → n ≡ k + 1 → (a b : ℕ) → a + directory_blocks k ≡ b + content_blocks c + directory_blocks (k + 1) → a + directory_blocks (n - 1) ≡ b + content_blocks c + directory_blocks n
      regroup n k e a b law = subst (λ m. a + directory_blocks (m - 1) ≡ b + content_blocks c + directory_blocks m) (sym e) (subst (λ j. a + directory_blocks j ≡ b + content_blocks c + directory_blocks (k + 1)) (less_one k) law)
        where
          less_one : (k : ℕ) → k ≡ k + 1 - 1
          less_one k = omega arith

  -- the same, by a count of entries
  pub used_without : (c : Content) (n : ℕ) → IsTree tree → 0 < length path → entry_count tree path ≡ 0 → content_at tree path ≡ Some c → n ≡ entry_count tree (parent path) →
      (1 ≤ n) × (used (map_of.remove tree path) + content_blocks c + directory_blocks n ≡ used tree + directory_blocks (n - 1))
  used_without c n t below empty there is =
      let law = used_removed c t below empty there in (
        subst (λ m. 1 ≤ m) (sym is) (some_entry c t below there),
        subst (λ m. used (map_of.remove tree path) + content_blocks c + directory_blocks m ≡ used tree + directory_blocks (m - 1)) (sym is) (sym law),
      )
    where
      some_entry : (c : Content) → IsTree tree → 0 < length path → content_at tree path ≡ Some c → 1 ≤ entry_count tree (parent path)
      some_entry c t below there =
          let m = map_of.remove tree path in
          let es = entries m in
          let none : find path_cmp path es ≡ None = sym (content_found m path) ∙ gone tree path in
          let more : entry_count tree (parent path) ≡ count es (parent path) + 1 =
          ap (λ x. entry_count x (parent path)) (sym (reinserted tree path c there))
          ∙ ap (λ xs. count xs (parent path)) (entries-insert paths_total m path c)
          ∙ new_count es path c none (parent path)
          ∙ ap (λ b. count es (parent path) + cond b 1 0) (in_parent path below) in
          omega (arith, more)

-- what is there
pub the_content : (o : Option Content) → IsSome o → (c : Content) × (o ≡ Some c)
the_content (Some c) some = (c, refl)
the_content None some = absurd cc

-- the parts of a sum that a removal changes
pub record IsWithoutSum (all less few content rest : ℕ) : Type 0 where
  pub first : few ≤ all + less
  pub second : content ≤ all + less - few
  pub sum : all + less - few - content ≡ rest

pub without_sum : (tree : FileTree) (path : Path') (n all less few content : ℕ) → IsTree tree → IsSome (content_at tree path) → 0 < length path → entry_count tree path ≡ 0 → n ≡ entry_count tree (parent path)
    → all ≡ used tree → less ≡ directory_blocks (n - 1) → few ≡ directory_blocks n → MatchOption (content_at tree path) (content ≡ 0) (λ c. content ≡ content_blocks c) → IsWithoutSum all less few content (used (map_of.remove tree path))
without_sum tree path n all less few content t there below empty is a l f is_content =
    let got = the_content (content_at tree path) there in
    let law = (used_without tree path got.0 n t below empty got.1 is).1 in
    let blocks : content ≡ content_blocks got.0 = subst (λ o. MatchOption o (content ≡ 0) (λ c. content ≡ content_blocks c)) got.1 is_content in
    regroup _ _ _ _ _ _ _ _ _ law a l f blocks
  where
    regroup : (u' cb dn u dp all less few content : ℕ) → u' + cb + dn ≡ u + dp → all ≡ u → less ≡ dp → few ≡ dn → content ≡ cb → IsWithoutSum all less few content u'
    regroup u' cb dn u dp all less few content law a l f b = record { first = omega arith; second = omega arith; sum = omega arith }
