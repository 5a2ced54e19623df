-- The tree of entries that stand in whatever order, each path once.
use Rattle.std.proofs.Common.{◌≡◌, ℕ, suc, ◌+◌, ◌^◌, ◌<◌, ◌≤◌, Bool, true, false, cond, T, [], ◌∷◌, length, is_some, Option, Some, None, refl, sym, ap, ◌∙◌, subst, arith}
use Rattle.std.specs.Ordering.{eq_by_cmp}
use Rattle.std.specs.List.Sorted.{IsPermutation, IsSortedByKey}
use Rattle.std.proofs.lemmas.List.Sorted.{sum_by-IsPermutation}
use Rattle.std.specs.FinMap.{find, is_sorted, get-from_entries, len-entries, len-empty, len-insert, same_map}
use Rattle.std.specs.FinMap as map_of
use Rattle.zj_tree.specs.declared.content.Content.{Content}
use Rattle.zj_tree.specs.Laws.{IsWithin}
use Rattle.zj_tree.specs.Tree.{FileTree, IsTree, path_cmp, used, node_count}
use Rattle.zj_tree.specs.StoredTree.{tree_of, IsKept}
use Rattle.zj_tree.proofs.OrderLemmas.{Entries, paths_total, paths_exact, entries_kept}
use Rattle.zj_tree.proofs.EntryLemmas.{tie}
use Rattle.zj_tree.proofs.EditLemmas.{Entry', found_content_at}
use Rattle.zj_tree.proofs.SortLemmas.{AreDistinct, stands_times, times-cons, none_times, strictly, same_found}

-- the tree of entries
abbrev pub gathered : Entries → FileTree
gathered es = map_of.from_entries es

-- a map has at most as many entries as it was made of
few : (es : Entries) → node_count (gathered es) ≤ length es
few [] = omega (arith, len-empty path_cmp Content)
few (e ∷ es) = by (is_some (map_of.get (gathered es) e.0)) refl (few es)
  where
    by : (b : Bool) → is_some (map_of.get (gathered es) e.0) ≡ b → node_count (gathered es) ≤ length es → node_count (gathered (e ∷ es)) ≤ suc (length es)
    by true t le = omega (arith, le, len-insert paths_total (gathered es) e.0 e.1 ∙ ap (λ b. cond b (node_count (gathered es)) (node_count (gathered es) + 1)) t)
    by false t le = omega (arith, le, len-insert paths_total (gathered es) e.0 e.1 ∙ ap (λ b. cond b (node_count (gathered es)) (node_count (gathered es) + 1)) t)

-- what no map has isn't found
nothing : {X : Type 0} (o : Option X) → is_some o ≡ false → o ≡ None
nothing None e = refl
nothing (Some x) e = absurd cc

-- where a map has as many entries as it was made of, each path stood once
once_distinct : (es : Entries) → node_count (gathered es) ≡ length es → AreDistinct es
once_distinct [] once q = omega arith
once_distinct (e ∷ es) once q = by (is_some (map_of.get (gathered es) e.0)) refl (λ rest. once_distinct es rest q)
  where
    by : (b : Bool) → is_some (map_of.get (gathered es) e.0) ≡ b → (node_count (gathered es) ≡ length es → stands_times q es ≤ 1) → stands_times q (e ∷ es) ≤ 1
    by true t rest = absurd (omega (arith, once, few es, len-insert paths_total (gathered es) e.0 e.1 ∙ ap (λ b. cond b (node_count (gathered es)) (node_count (gathered es) + 1)) t))
    by false t rest = here (eq_by_cmp path_cmp q e.0) refl
      where
        more : node_count (gathered (e ∷ es)) ≡ node_count (gathered es) + 1
        more = len-insert paths_total (gathered es) e.0 e.1 ∙ ap (λ b. cond b (node_count (gathered es)) (node_count (gathered es) + 1)) t

        none : find path_cmp e.0 es ≡ None
        none = sym (get-from_entries paths_total es e.0) ∙ nothing (map_of.get (gathered es) e.0) t

        here : (b : Bool) → eq_by_cmp path_cmp q e.0 ≡ b → stands_times q (e ∷ es) ≤ 1
        here true same =
            let zero_is : stands_times q es ≡ 0 = ap (λ p. stands_times p es) (tie q e.0 same) ∙ none_times e.0 es none in
            omega (arith, times-cons q e es, zero_is, ap (λ b. cond b 1 0 + 0) same)
        here false other = omega (arith, times-cons q e es, ap (λ b. cond b 1 0 + 0) other, rest (omega (arith, once, more)))

module _ (es new : Entries) (once : node_count (gathered es) ≡ length es) (moves : IsPermutation es new) (in_order : IsSortedByKey (λ (e : Entry'). e.0) path_cmp new) where
  sorted : T (is_sorted path_cmp new)
  sorted = strictly new in_order (λ q. omega (arith, once_distinct es once q, sum_by-IsPermutation (λ (x : Entry'). cond (eq_by_cmp path_cmp q x.0) 1 0) es new moves))

  -- the entries in order are those of the tree
  pub gathered_is : tree_of new ≡ gathered es
  gathered_is = same_map paths_total paths_exact _ _ (λ q. found_content_at new q sorted ∙ same_found es new moves sorted q ∙ sym (get-from_entries paths_total es q))

  pub gathered_kept : (blocks nodes room version : ℕ) → IsTree (gathered es) → blocks ≡ used (gathered es) → IsWithin (record { nodes = nodes; room = room; version = version }) (gathered es) → nodes < 2 ^ 32 → room < 2 ^ 32 → IsKept new blocks nodes room version
  gathered_kept blocks nodes room version is_tree blocks_are within fits room_fits =
      let there : IsWithin (record { nodes = nodes; room = room; version = version }) (tree_of new) = subst (λ t. IsWithin (record { nodes = nodes; room = room; version = version }) t) (sym gathered_is) within in
      let is : blocks ≡ used (tree_of new) = blocks_are ∙ ap used (sym gathered_is) in
      record {
        sorted = sorted;
        tree = subst IsTree (sym gathered_is) is_tree;
        blocks_are = is;
        in_room = omega (arith, there.blocks, is);
        files = there.files;
        in_nodes = omega (arith, there.nodes, len-entries (tree_of new), ap length (entries_kept new sorted));
        nodes_fit = fits;
        room_fits = room_fits;
      }
