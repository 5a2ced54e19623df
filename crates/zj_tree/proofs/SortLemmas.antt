-- Entries of distinct paths in another order, once they are sorted.
use Rattle.std.proofs.Common.{◌≡◌, ℕ, suc, ◌+◌, ◌<◌, ◌≤◌, Bool, true, false, cond, ◌&&◌, T, [], ◌∷◌, map, filter, length, get_or, remove, Option, Some, None, sum_by, refl, sym, ap, ◌∙◌, subst, arith}
use Rattle.std.specs.declared.cmp.Ordering.{Ordering}
use Rattle.std.specs.declared.cmp.Ordering.TheVariants.{Less, Equal, Greater}
use Rattle.std.specs.Ordering.{is_lt, is_eq, eq_by_cmp}
use Rattle.std.specs.List.Sorted.{IsPermutation, IsSortedByKey}
use Rattle.std.specs.FinMap.{find, put, is_sorted, entries, same_map}
use Rattle.std.specs.FinMap as map_of
use Rattle.std.specs.FinMap.Entries.{below_all, by_order}
use Rattle.std.proofs.lemmas.Cmp.{tied_itself}
use Rattle.std.proofs.lemmas.List.Sums.{sum_by-cons}
use Rattle.std.proofs.lemmas.List.Sorted.{sum_by-IsPermutation, Contains-permutation}
use Rattle.zj_tree.specs.declared.content.Content.{Content}
use Rattle.zj_tree.specs.Path.{begins_with}
use Rattle.zj_tree.specs.Tree.{FileTree, path_cmp, content_at}
use Rattle.zj_tree.specs.StoredTree.{tree_of}
use Rattle.zj_tree.specs.Changed.{moved, renamed}
use Rattle.zj_tree.specs.Moved.{CanMove, moved_paths}
use Rattle.zj_tree.specs.Search.{IsFoundAt, GoesTo}
use Rattle.zj_tree.specs.declared.content.Content.TheVariants.{Dir}
use Rattle.zj_tree.proofs.OrderLemmas.{Entries, paths_total, paths_exact, T_first, T_second, find_at, turned, is_less, entries_kept}
use Rattle.zj_tree.proofs.SumLemmas.{find_place}
use Rattle.zj_tree.proofs.EntryLemmas.{Path', tie}
use Rattle.zj_tree.proofs.EditLemmas.{Entry', none_below, found_content_at, removed_nothing, reinserted, sorted_without, tree_without}
use Rattle.zj_tree.proofs.BeginLemmas.{tests_alike, moved_once}
use Rattle.zj_tree.proofs.MovedLemmas.{moved_entry, found_moved, key_not_in_to, at_renamed}

-- a test counts once at most
at_most_one : (b : Bool) → cond b 1 0 ≤ 1
at_most_one true = omega arith
at_most_one false = omega arith

-- how many entries have a path
abbrev pub stands_times : Path' → Entries → ℕ
stands_times q es = sum_by (λ (e : Entry'). cond (eq_by_cmp path_cmp q e.0) 1 0) es

pub times-cons : (q : Path') (e : Entry') (es : Entries) → stands_times q (e ∷ es) ≡ cond (eq_by_cmp path_cmp q e.0) 1 0 + stands_times q es
times-cons q e es = sum_by-cons (λ (x : Entry'). cond (eq_by_cmp path_cmp q x.0) 1 0) e es

-- a path that isn't found stands nowhere
pub none_times : (q : Path') (es : Entries) → find path_cmp q es ≡ None → stands_times q es ≡ 0
none_times q [] none = refl
none_times q (e ∷ es) none = by (eq_by_cmp path_cmp q e.0) refl none (none_times q es)
  where
    by : (b : Bool) → eq_by_cmp path_cmp q e.0 ≡ b → cond b (Some e.1) (find path_cmp q es) ≡ None → (find path_cmp q es ≡ None → stands_times q es ≡ 0) → stands_times q (e ∷ es) ≡ 0
    by true t n rest = absurd (clash e.1 n)
      where
        clash : (c : Content) → Some c ≡ None → ⊥
        clash c x = cc
    by false t n rest = times-cons q e es ∙ ap (λ b. cond b 1 0 + stands_times q es) t ∙ omega (arith, rest n)

times_none : (q : Path') (es : Entries) → stands_times q es ≡ 0 → find path_cmp q es ≡ None
times_none q [] zero_is = refl
times_none q (e ∷ es) zero_is = by (eq_by_cmp path_cmp q e.0) refl (times_none q es)
  where
    by : (b : Bool) → eq_by_cmp path_cmp q e.0 ≡ b → (stands_times q es ≡ 0 → find path_cmp q es ≡ None) → cond b (Some e.1) (find path_cmp q es) ≡ None
    by true t rest = absurd (omega (arith, zero_is, times-cons q e es, ap (λ b. cond b 1 0 + stands_times q es) t))
    by false t rest = rest (omega (arith, zero_is, times-cons q e es, ap (λ b. cond b 1 0 + stands_times q es) t))

-- each path stands once at most
abbrev pub AreDistinct : Entries → Type 0
AreDistinct es = (q : Path') → stands_times q es ≤ 1

-- moved entries have distinct paths
pub moved_distinct : (from to : Path') (es : Entries) → T (is_sorted path_cmp es) → ((i : ℕ) (d : Entry') → i < length es → begins_with (get_or es i d).0 to ≡ false) → AreDistinct (map (moved_entry from to) es)
moved_distinct from to [] sorted apart q = omega arith
moved_distinct from to (e ∷ es) sorted apart q =
    by (eq_by_cmp path_cmp q (moved from to e.0)) refl (moved_distinct from to es (T_second _ _ sorted) (λ i d lt. apart (suc i) d (omega arith)) q)
  where
    none : find path_cmp (moved from to e.0) (map (moved_entry from to) es) ≡ None
    none =
        found_moved from to es (moved from to e.0) e.0 (λ i d lt. tests_alike (moved from to e.0) (moved from to (get_or es i d).0) e.0 (get_or es i d).0
        (moved_once from to e.0 (get_or es i d).0 (apart 0 e (omega arith)) (apart (suc i) d (omega arith)))
        (λ same. ap (moved from to) same))
        ∙ none_below e.0 es (T_first _ _ sorted)

    by : (b : Bool) → eq_by_cmp path_cmp q (moved from to e.0) ≡ b → stands_times q (map (moved_entry from to) es) ≤ 1 → stands_times q (map (moved_entry from to) (e ∷ es)) ≤ 1
    by true t le =
        let here = times-cons q (moved_entry from to e) (map (moved_entry from to) es) in
        let no_more : stands_times q (map (moved_entry from to) es) ≡ 0 = ap (λ p. stands_times p (map (moved_entry from to) es)) (tie q (moved from to e.0) t) ∙ none_times (moved from to e.0) (map (moved_entry from to) es) none in
        let one : cond (eq_by_cmp path_cmp q (moved from to e.0)) 1 0 ≤ 1 = at_most_one _ in omega (arith, here, no_more, one)
    by false t le = omega (arith, times-cons q (moved_entry from to e) (map (moved_entry from to) es), ap (λ b. cond b 1 0 + 0) t)

-- entries of distinct paths that are in order are strictly in order
pub strictly : (es : Entries) → IsSortedByKey (λ (e : Entry'). e.0) path_cmp es → AreDistinct es → T (is_sorted path_cmp es)
strictly [] sorted distinct = tt
strictly (e ∷ es) sorted distinct =
    let rest = strictly es (λ k d le lt. subst (λ n. is_lt (path_cmp (get_or (e ∷ es) n d).0 (get_or es k d).0) ≡ false) (suc_one k) (sorted (suc k) d (omega arith) (omega arith))) (λ q. omega (arith, distinct q, times-cons q e es)) in
    T_both _ _ (below e es sorted distinct rest) rest
  where
    suc_one : (k : ℕ) → suc k + 1 ≡ suc (k + 1)
    suc_one k = omega arith

    T_both : (a b : Bool) → T a → T b → T (a && b)
    T_both true b p q = q
    T_both false b p q = p

    -- a path that is below the first entry of some in order is below all
    below_more : (k : Path') (x : Entry') (xs : Entries) → path_cmp k x.0 ≡ Less → T (below_all path_cmp x.0 xs) → T (below_all path_cmp k xs)
    below_more k x [] less h = tt
    below_more k x (y ∷ ys) less h =
        let next : path_cmp k y.0 ≡ Less = paths_total.trans k x.0 y.0 less (is_less _ (T_first _ _ h)) in
        T_both _ _ (subst (λ r. T (is_lt r)) (sym next) tt) (below_more k x ys less (T_second _ _ h))

    below : (e : Entry') (es : Entries) → IsSortedByKey (λ (x : Entry'). x.0) path_cmp (e ∷ es) → AreDistinct (e ∷ es) → T (is_sorted path_cmp es) → T (below_all path_cmp e.0 es)
    below e [] sorted distinct rest = tt
    below e (x ∷ xs) sorted distinct rest = by (path_cmp e.0 x.0) refl
      where
        not_less : is_lt (path_cmp x.0 e.0) ≡ false
        not_less = sorted 0 e (omega arith) (omega arith)

        by : (r : Ordering) → path_cmp e.0 x.0 ≡ r → T (below_all path_cmp e.0 (x ∷ xs))
        by Less p = T_both _ _ (subst (λ r. T (is_lt r)) (sym p) tt) (below_more e.0 x xs p (T_first _ _ rest))
        by Equal p = absurd (omega (arith, distinct e.0, times-cons e.0 e (x ∷ xs), times-cons e.0 x xs, ap (λ r. cond (is_eq r) 1 0 + 0) (tied_itself paths_total e.0), ap (λ r. cond (is_eq r) 1 0 + 0) p))
        by Greater p = absurd (clash (sym (ap is_lt (turned paths_total e.0 x.0 Greater p)) ∙ not_less))
          where
            clash : true ≡ false → ⊥
            clash h = cc

-- the same is found in another order
pub same_found : (es new : Entries) → IsPermutation es new → T (is_sorted path_cmp new) → (q : Path') → find path_cmp q new ≡ find path_cmp q es
same_found es new moves sorted q = by (find path_cmp q es) refl
  where
    by : (o : Option Content) → find path_cmp q es ≡ o → find path_cmp q new ≡ o
    by None e = times_none q new (sum_by-IsPermutation (λ (x : Entry'). cond (eq_by_cmp path_cmp q x.0) 1 0) es new moves ∙ none_times q es e)
    by (Some c) e =
        let place = find_place path_cmp q c es e in
        let same : q ≡ (get_or es place.0 (q, c)).0 = paths_exact q (get_or es place.0 (q, c)).0 (place.2 (q, c)).0 in
        let is : get_or es place.0 (q, c) ≡ (q, c) = λ i. (sym same i, (place.2 (q, c)).1 i) in
        let there = Contains-permutation es new (q, c) moves (place.0, place.1, is) in
        find_at path_cmp paths_total new q there.0 (q, c) sorted there.1 (ap (λ (x : Entry'). path_cmp x.0 q) there.2 ∙ tied_itself paths_total q) ∙ ap (λ (x : Entry'). Some x.1) there.2

-- the moved entries in order are those of the renamed tree
pub entries_renamed : (tree : FileTree) (from to : Path') (m : CanMove tree from to) (new : Entries) → IsPermutation (map (moved_entry from to) (entries (map_of.remove tree to))) new → IsSortedByKey (λ (e : Entry'). e.0) path_cmp new → entries (renamed tree from to) ≡ new
entries_renamed tree from to m new moves in_order =
    let rest = entries (map_of.remove tree to) in
    let distinct = moved_distinct from to rest (map_of.entries_sorted (map_of.remove tree to)) (key_not_in_to tree from to m) in
    let sorted = strictly new in_order (λ q. omega (arith, distinct q, sum_by-IsPermutation (λ (x : Entry'). cond (eq_by_cmp path_cmp q x.0) 1 0) (map (moved_entry from to) rest) new moves)) in
    let same : tree_of new ≡ renamed tree from to = same_map paths_total paths_exact _ _ (λ q. found_content_at new q sorted ∙ same_found (map (moved_entry from to) rest) new moves sorted q ∙ sym (at_renamed tree from to m q)) in
    sym (ap entries same) ∙ entries_kept new sorted

-- an entry of a path that doesn't move is among no new paths
pub paths_left : (tree : FileTree) (from to : Path') → begins_with to from ≡ false → moved_paths from to (map_of.keys tree) ≡ moved_paths from to (map_of.keys (map_of.remove tree to))
paths_left tree from to apart = by (content_at tree to) refl
  where
    filter_put : (es : Entries) (c : Content) → filter (λ path. begins_with path from) (map (λ (e : Entry'). e.0) (put path_cmp to c es)) ≡ filter (λ path. begins_with path from) (map (λ (e : Entry'). e.0) es)
    filter_put [] c = ap (λ b. cond b (to ∷ []) []) apart
    filter_put (e ∷ es) c = order (path_cmp to e.0) (filter_put es c)
      where
        order : (r : Ordering) → filter (λ path. begins_with path from) (map (λ (x : Entry'). x.0) (put path_cmp to c es)) ≡ filter (λ path. begins_with path from) (map (λ (x : Entry'). x.0) es)
            → filter (λ path. begins_with path from) (map (λ (x : Entry'). x.0) (by_order r ((to, c) ∷ e ∷ es) ((e.0, c) ∷ es) (e ∷ put path_cmp to c es))) ≡ filter (λ path. begins_with path from) (map (λ (x : Entry'). x.0) (e ∷ es))
        order Less rest = ap (λ b. cond b (to ∷ filter (λ path. begins_with path from) (map (λ (x : Entry'). x.0) (e ∷ es))) (filter (λ path. begins_with path from) (map (λ (x : Entry'). x.0) (e ∷ es)))) apart
        order Equal rest = refl
        order Greater rest = ap (λ ps. cond (begins_with e.0 from) (e.0 ∷ ps) ps) rest

    by : (o : Option Content) → content_at tree to ≡ o → moved_paths from to (map_of.keys tree) ≡ moved_paths from to (map_of.keys (map_of.remove tree to))
    by None none = ap (λ x. moved_paths from to (map_of.keys x)) (sym (removed_nothing tree to none))
    by (Some c) there =
        ap (λ x. moved_paths from to (map_of.keys x)) (sym (reinserted tree to c there))
        ∙ ap (λ xs. moved_paths from to (map (λ (e : Entry'). e.0) xs)) (map_of.entries-insert paths_total (map_of.remove tree to) to c)
        ∙ ap (map (moved from to)) (filter_put (entries (map_of.remove tree to)) c)

-- the entries without the one of a path, or all where it has none
pub taken_out : (es : Entries) (path : Path') (at : ℕ) → T (is_sorted path_cmp es) → IsFoundAt es path at → remove es at ≡ entries (map_of.remove (tree_of es) path)
taken_out es path at sorted found =
    let d : Entry' = ([], Dir) in
    sym (entries_kept (remove es at) (sorted_without es at sorted)) ∙ ap entries (tree_without es at d path sorted found.in_range (found.key d))

pub nothing_out : (es : Entries) (path : Path') (at : ℕ) → T (is_sorted path_cmp es) → GoesTo es path at → es ≡ entries (map_of.remove (tree_of es) path)
nothing_out es path at sorted goes =
    sym (entries_kept es sorted) ∙ ap entries (sym (removed_nothing (tree_of es) path (found_content_at es path sorted ∙ goes.absent)))
