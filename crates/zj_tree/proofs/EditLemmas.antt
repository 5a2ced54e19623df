-- Entries in order once one is put in place of another, or taken out; and the trees of these entries.
use Rattle.std.proofs.Common.{◌≡◌, ℕ, zero, suc, ◌<◌, Bool, true, false, cond, ◌&&◌, T, List, [], ◌∷◌, length, get_or, set, remove, Some, None, refl, sym, ap, ◌∙◌, arith}
use Rattle.std.specs.declared.cmp.Ordering.TheVariants.{Less, Equal, Greater}
use Rattle.std.specs.Ordering.{is_eq, eq_by_cmp}
use Rattle.std.specs.FinMap.{insert, find, put, is_sorted, get-insert, get-remove, get-from_sorted, same_map}
use Rattle.std.specs.FinMap as map_of
use Rattle.std.specs.FinMap.Entries.{below_all, by_order}
use Rattle.std.proofs.lemmas.Cmp.{tied_itself}
use Rattle.zj_tree.specs.declared.content.Content.{Content}
use Rattle.zj_tree.specs.Tree.{FileTree, content_at, path_cmp}
use Rattle.zj_tree.specs.StoredTree.{tree_of}
use Rattle.zj_tree.proofs.OrderLemmas.{Entries, paths_total, paths_exact, T_first, T_second, is_less, below_less, turned}
use Rattle.zj_tree.proofs.EntryLemmas.{Path', tie}

abbrev pub Entry' : Type 0
Entry' = List (List ℕ) × Content

T_both : (a b : Bool) → T a → T b → T (a && b)
T_both true b p q = q
T_both false b p q = p

-- an entry is put in the place of the one that has its path
pub put_found : (es : Entries) (path : Path') (c : Content) (i : ℕ) (d : Entry') → T (is_sorted path_cmp es) → i < length es → (get_or es i d).0 ≡ path → put path_cmp path c es ≡ set es i (path, c)
put_found [] path c i d sorted lt is = absurd (omega arith)
put_found (e ∷ es) path c zero d sorted lt is =
    ap (λ r. by_order r ((path, c) ∷ e ∷ es) ((e.0, c) ∷ es) (e ∷ put path_cmp path c es)) (ap (path_cmp path) is ∙ tied_itself paths_total path)
    ∙ ap (λ (p : Path'). (p, c) ∷ es) is
put_found (e ∷ es) path c (suc i) d sorted lt is =
    let below : path_cmp e.0 (get_or es i d).0 ≡ Less = below_less path_cmp e.0 es i d (T_first _ _ sorted) (omega arith) in
    let above : path_cmp path e.0 ≡ Greater = turned paths_total e.0 path Less (ap (path_cmp e.0) (sym is) ∙ below) in
    ap (λ r. by_order r ((path, c) ∷ e ∷ es) ((e.0, c) ∷ es) (e ∷ put path_cmp path c es)) above
    ∙ ap (λ xs. e ∷ xs) (put_found es path c i d (T_second _ _ sorted) (omega arith) is)

-- entries without one of them stay in order
below_without : (k : Path') (es : Entries) (i : ℕ) → T (below_all path_cmp k es) → T (below_all path_cmp k (remove es i))
below_without k [] zero h = tt
below_without k [] (suc i) h = tt
below_without k (e ∷ es) zero h = T_second _ _ h
below_without k (e ∷ es) (suc i) h = T_both _ _ (T_first _ _ h) (below_without k es i (T_second _ _ h))

pub sorted_without : (es : Entries) (i : ℕ) → T (is_sorted path_cmp es) → T (is_sorted path_cmp (remove es i))
sorted_without [] zero h = tt
sorted_without [] (suc i) h = tt
sorted_without (e ∷ es) zero h = T_second _ _ h
sorted_without (e ∷ es) (suc i) h = T_both _ _ (below_without e.0 es i (T_first _ _ h)) (sorted_without es i (T_second _ _ h))

-- a path below all entries is not found among them
pub none_below : (k : Path') (es : Entries) → T (below_all path_cmp k es) → find path_cmp k es ≡ None
none_below k [] h = refl
none_below k (e ∷ es) h = ap (λ r. cond (is_eq r) (Some e.1) (find path_cmp k es)) (is_less _ (T_first _ _ h)) ∙ none_below k es (T_second _ _ h)

-- nothing is found where the entry was, and all others are
pub find_without : (es : Entries) (q : Path') (i : ℕ) (d : Entry') → T (is_sorted path_cmp es) → i < length es → find path_cmp q (remove es i) ≡ cond (eq_by_cmp path_cmp q (get_or es i d).0) None (find path_cmp q es)
find_without [] q i d sorted lt = absurd (omega arith)
find_without (e ∷ es) q zero d sorted lt = by (eq_by_cmp path_cmp q e.0) refl
  where
    by : (b : Bool) → eq_by_cmp path_cmp q e.0 ≡ b → find path_cmp q es ≡ cond b None (cond b (Some e.1) (find path_cmp q es))
    by true t = ap (λ p. find path_cmp p es) (tie q e.0 t) ∙ none_below e.0 es (T_first _ _ sorted)
    by false t = refl
find_without (e ∷ es) q (suc i) d sorted lt =
    ap (cond (eq_by_cmp path_cmp q e.0) (Some e.1)) (find_without es q i d (T_second _ _ sorted) (omega arith)) ∙ by (eq_by_cmp path_cmp q e.0) (eq_by_cmp path_cmp q (get_or es i d).0) refl refl
  where
    by : (a b : Bool) → eq_by_cmp path_cmp q e.0 ≡ a → eq_by_cmp path_cmp q (get_or es i d).0 ≡ b → cond a (Some e.1) (cond b None (find path_cmp q es)) ≡ cond b None (cond a (Some e.1) (find path_cmp q es))
    by true true s t =
        let below : path_cmp e.0 (get_or es i d).0 ≡ Less = below_less path_cmp e.0 es i d (T_first _ _ sorted) (omega arith) in
        let same : e.0 ≡ (get_or es i d).0 = sym (tie q e.0 s) ∙ tie q _ t in
        let itself : path_cmp e.0 (get_or es i d).0 ≡ Equal = ap (path_cmp e.0) (sym same) ∙ tied_itself paths_total e.0 in
        absurd (clash (sym below ∙ itself))
      where
        clash : Less ≡ Equal → ⊥
        clash x = cc
    by true false s t = refl
    by false true s t = refl
    by false false s t = refl

-- what is found where an entry stands
pub found_content_at : (es : Entries) (q : Path') → T (is_sorted path_cmp es) → content_at (tree_of es) q ≡ find path_cmp q es
found_content_at es q sorted = get-from_sorted path_cmp es q sorted

-- the tree of entries without one of them
pub tree_without : (es : Entries) (i : ℕ) (d : Entry') (path : Path') → T (is_sorted path_cmp es) → i < length es → (get_or es i d).0 ≡ path → tree_of (remove es i) ≡ map_of.remove (tree_of es) path
tree_without es i d path sorted lt is = same_map paths_total paths_exact _ _ (λ q.
    found_content_at (remove es i) q (sorted_without es i sorted)
    ∙ find_without es q i d sorted lt
    ∙ ap (λ p. cond (eq_by_cmp path_cmp q p) None (find path_cmp q es)) is
    ∙ sym (get-remove paths_total (tree_of es) path q ∙ ap (cond (eq_by_cmp path_cmp q path) None) (found_content_at es q sorted)))

-- ---- a tree with and without an entry

module _ (tree : FileTree) (path : Path') where
  -- an entry that is taken out and put in again
  pub reinserted : (c : Content) → content_at tree path ≡ Some c → insert (map_of.remove tree path) path c ≡ tree
  reinserted c there = same_map paths_total paths_exact _ _ (λ q.
      get-insert paths_total (map_of.remove tree path) path c q ∙ ap (cond (eq_by_cmp path_cmp q path) (Some c)) (get-remove paths_total tree path q) ∙ by q (eq_by_cmp path_cmp q path) refl)
    where
      by : (q : Path') (b : Bool) → eq_by_cmp path_cmp q path ≡ b → cond b (Some c) (cond b None (content_at tree q)) ≡ content_at tree q
      by q true t = sym (ap (content_at tree) (tie q path t) ∙ there)
      by q false t = refl

  -- one that is put in place of another
  pub replaced : (c : Content) → insert (map_of.remove tree path) path c ≡ insert tree path c
  replaced c = same_map paths_total paths_exact _ _ (λ q.
      get-insert paths_total (map_of.remove tree path) path c q ∙ ap (cond (eq_by_cmp path_cmp q path) (Some c)) (get-remove paths_total tree path q) ∙ by q (eq_by_cmp path_cmp q path) ∙ sym (get-insert paths_total tree path c q))
    where
      by : (q : Path') (b : Bool) → cond b (Some c) (cond b None (content_at tree q)) ≡ cond b (Some c) (content_at tree q)
      by q true = refl
      by q false = refl

  -- what isn't there can't be removed
  pub removed_nothing : content_at tree path ≡ None → map_of.remove tree path ≡ tree
  removed_nothing none = same_map paths_total paths_exact _ _ (λ q. get-remove paths_total tree path q ∙ by q (eq_by_cmp path_cmp q path) refl)
    where
      by : (q : Path') (b : Bool) → eq_by_cmp path_cmp q path ≡ b → cond b None (content_at tree q) ≡ content_at tree q
      by q true t = sym (ap (content_at tree) (tie q path t) ∙ none)
      by q false t = refl

  pub gone : content_at (map_of.remove tree path) path ≡ None
  gone = get-remove paths_total tree path path ∙ ap (λ r. cond (is_eq r) None (content_at tree path)) (tied_itself paths_total path)
