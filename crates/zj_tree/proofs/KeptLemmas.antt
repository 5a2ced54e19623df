-- The entries that are kept, and those that are kept after a change.
use Rattle.std.proofs.Common.{◌≡◌, ℕ, ◌≤◌, ◌<◌, T, List, length, get_or, insert, set, remove, Some, refl, sym, ap, ◌∙◌, subst, arith}
use Rattle.std.specs.FinMap.{insert as put_in, len-entries, entries, entries_sorted, is_sorted, entries-insert, same_entries_map}
use Rattle.std.specs.FinMap as map_of
use Rattle.zj_tree.specs.declared.content.Content.{Content}
use Rattle.zj_tree.specs.Tree.{FileTree, IsTree, path_cmp, content_at, used}
use Rattle.zj_tree.specs.Search.{GoesTo, IsFoundAt}
use Rattle.zj_tree.specs.StoredTree.{LimitedTree, tree_of, IsKept}
use Rattle.zj_tree.specs.declared.content.Content.TheVariants as contents
use Rattle.zj_tree.specs.Apply.{longest_file}
use Rattle.zj_tree.specs.Laws.{IsWithin}
use Rattle.zj_tree.proofs.OrderLemmas.{Entries, paths_total, entries_kept, found_content}
use Rattle.zj_tree.proofs.EditLemmas.{Entry', put_found, sorted_without, tree_without}

-- the fields of a tree as it is kept, and the tree that they show
pub record Shows (t : LimitedTree) (es : Entries) (blocks nodes room version : ℕ) : Type 0 where
  pub is : record { limits = record { nodes = nodes; room = room; version = version }; tree = tree_of es } ≡ t
  pub kept : IsKept es blocks nodes room version

module _ {t : LimitedTree} {es : Entries} {before nodes room version : ℕ} (s : Shows t es before nodes room version) where
  -- the entries are those of the tree
  pub shown_entries : entries t.tree ≡ es
  shown_entries = sym (ap (λ (x : LimitedTree). entries x.tree) s.is) ∙ entries_kept es s.kept.sorted

  pub shown_tree : IsTree t.tree
  shown_tree = subst (λ (x : LimitedTree). IsTree x.tree) s.is s.kept.tree

  -- what is kept is within its limits
  pub shown_within : IsWithin t.limits t.tree
  shown_within = subst (λ (x : LimitedTree). IsWithin x.limits x.tree) s.is (record {
    nodes = omega (arith, len-entries (tree_of es), ap length (entries_kept es s.kept.sorted), s.kept.in_nodes);
    blocks = omega (arith, s.kept.blocks_are, s.kept.in_room);
    files = s.kept.files;
  })

  -- a tree within the limits is kept by its entries
  pub kept_change : (m : FileTree) (new : Entries) (blocks : ℕ) → entries m ≡ new → IsTree m → blocks ≡ used m → IsWithin t.limits m → IsKept new blocks nodes room version × (tree_of new ≡ m)
  kept_change m new blocks news is_tree blocks_are within =
      let sorted : T (is_sorted path_cmp new) = subst (λ xs. T (is_sorted path_cmp xs)) news (entries_sorted m) in
      let same : tree_of new ≡ m = same_entries_map (tree_of new) m (entries_kept new sorted ∙ sym news) in
      let limits : IsWithin (record { nodes = nodes; room = room; version = version }) m = subst (λ (x : LimitedTree). IsWithin x.limits m) (sym s.is) within in (
        record {
          sorted = sorted;
          tree = subst IsTree (sym same) is_tree;
          blocks_are = blocks_are ∙ ap used (sym same);
          in_room = omega (arith, limits.blocks, blocks_are);
          files = subst (λ x. (path : List (List ℕ)) (bytes : List ℕ) → map_of.get x path ≡ Some (contents.File bytes) → length bytes ≤ longest_file version) (sym same) limits.files;
          in_nodes = omega (arith, limits.nodes, len-entries m, ap length news);
          nodes_fit = s.kept.nodes_fit;
          room_fits = s.kept.room_fits;
        },
        same,
      )

  -- ---- entries after a change

  pub entries_inserted : (path text : List (List ℕ)) (content : Content) (at : ℕ) → text ≡ path → GoesTo (entries t.tree) text at → entries (put_in t.tree path content) ≡ insert es at (path, content)
  entries_inserted path text content at same goes =
      let there : GoesTo (entries t.tree) path at = subst (λ p. GoesTo (entries t.tree) p at) same goes in
      entries-insert paths_total t.tree path content ∙ there.put content ∙ ap (λ xs. insert xs at (path, content)) shown_entries

  pub entries_replaced : (path : List (List ℕ)) (content : Content) (at : ℕ) (d : Entry') → IsFoundAt (entries t.tree) path at → entries (put_in t.tree path content) ≡ set es at (path, content)
  entries_replaced path content at d found =
      entries-insert paths_total t.tree path content
      ∙ put_found (entries t.tree) path content at d (entries_sorted t.tree) found.in_range (found.key d)
      ∙ ap (λ xs. set xs at (path, content)) shown_entries

  pub entries_removed : (path : List (List ℕ)) (at : ℕ) (d : Entry') → IsFoundAt (entries t.tree) path at → entries (map_of.remove t.tree path) ≡ remove es at
  entries_removed path at d found =
      let sorted = s.kept.sorted in
      let f : IsFoundAt es path at = subst (λ xs. IsFoundAt xs path at) shown_entries found in
      sym (ap entries (tree_without es at d path sorted f.in_range (f.key d) ∙ ap (λ (x : LimitedTree). map_of.remove x.tree path) s.is)) ∙ entries_kept (remove es at) (sorted_without es at sorted)

  -- ---- an entry that is found

  -- where an entry is found, it has the path, and is what stands there
  pub found_entry : (path : List (List ℕ)) (at : ℕ) (x : Entry') → IsFoundAt (entries t.tree) path at → x ≡ get_or es at x → (x.0 ≡ path) × (content_at t.tree path ≡ Some x.1)
  found_entry path at x found is =
      let same : x ≡ get_or (entries t.tree) at x = is ∙ ap (λ xs. get_or xs at x) (sym shown_entries) in (
        ap (λ (e : Entry'). e.0) same ∙ found.key x,
        found_content t.tree (entries t.tree) path at x refl found ∙ ap (λ (e : Entry'). Some e.1) (sym same),
      )

  pub in_range : (path : List (List ℕ)) (at : ℕ) → IsFoundAt (entries t.tree) path at → at < length es
  in_range path at found = subst (λ xs. at < length xs) shown_entries found.in_range

  -- the entries with other content at a path, in its place
  pub with_content : (path : List (List ℕ)) (content new : Content) (at : ℕ) (x : Entry') → IsFoundAt (entries t.tree) path at → x ≡ get_or es at x → new ≡ content → entries (put_in t.tree path content) ≡ set es at (x.0, new)
  with_content path content new at x found is same =
      entries_replaced path content at x found ∙ ap (λ (e : Entry'). set es at e) (λ i. (sym (found_entry path at x found is).0 i, sym same i))
