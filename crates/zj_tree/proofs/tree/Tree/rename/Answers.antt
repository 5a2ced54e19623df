use Rattle.std.proofs.Common.{◌≡◌, map, subst, sym, ap, ◌∙◌}
use Rattle.std.specs.FinMap as map_of
use Rattle.std.specs.List.Sorted.{IsPermutation}
use Rattle.zj_tree.specs.Changed.{renamed}
use Rattle.zj_tree.specs.Tree.{used}
use Rattle.zj_tree.specs.Moved.{moved_paths}
use Rattle.zj_tree.specs.StoredTree.{LimitedTree}
use Rattle.zj_tree.proofs.KeptLemmas.{Shows, shown_within, kept_change}
use Rattle.zj_tree.proofs.WithinLemmas.{renamed_within}
use Rattle.zj_tree.proofs.MovedLemmas.{moved_entry, renamed_is_tree}
use Rattle.zj_tree.proofs.SortLemmas.{entries_renamed, paths_left}
use Rattle.zj_tree.proofs.tree.Tree.rename.Goals as goal

tree_is : (t : LimitedTree) {x : LimitedTree} → x ≡ t → x.tree ≡ t.tree
tree_is t e = ap (λ (y : LimitedTree). y.tree) e

pub set_paths-requires : goal.set_paths-requires
set_paths-requires c =
    let a = c.self.inside in
    let t = c.args.self.now in
    let from = c.args.from.now in
    let to = c.args.to.now in
    let s : Shows t a.entries.items a.blocks a.nodes a.room a.version = record { is = c.self.view_is; kept = c.self.invariant } in
    let rest : c.take_out.new.entries.items ≡ map_of.entries (map_of.remove t.tree to) = c.take_out.ensures ∙ (λ i. map_of.entries (map_of.remove (tree_is t (c.self.view_is) i) (c.as_slice-4.ensures.value i))) in
    c.in_ok-paths.ensures
    ∙ ap (λ f. moved_paths f to (map_of.keys t.tree)) c.as_slice-3.ensures.value
    ∙ paths_left t.tree from to c.requires.movable.outside
    ∙ sym (λ i. moved_paths (c.as_slice-5.ensures.value i) (c.as_slice-6.ensures.value i) (map (λ e. e.0) (rest i)))

pub invariant_of-self : goal.invariant_of-self
invariant_of-self c =
    let a = c.self.inside in
    let t = c.args.self.now in
    let from = c.args.from.now in
    let to = c.args.to.now in
    let s : Shows t a.entries.items a.blocks a.nodes a.room a.version = record { is = c.self.view_is; kept = c.self.invariant } in
    let rest : c.take_out.new.entries.items ≡ map_of.entries (map_of.remove t.tree to) = c.take_out.ensures ∙ (λ i. map_of.entries (map_of.remove (tree_is t (c.self.view_is) i) (c.as_slice-4.ensures.value i))) in
    let items : c.set_paths.new.entries.items ≡ map (moved_entry from to) (map_of.entries (map_of.remove t.tree to)) =
    c.set_paths.ensures ∙ (λ i. map (moved_entry (c.as_slice-5.ensures.value i) (c.as_slice-6.ensures.value i)) (rest i)) in
    let moves = subst (λ xs. IsPermutation xs c.sort.new.entries.items) items c.sort.ensures.permutation in
    let news = entries_renamed t.tree from to c.requires.movable c.sort.new.entries.items moves c.sort.ensures.sorted in
    let blocks = c.blocks_renamed-blocks.ensures ∙ (λ i. used (renamed t.tree (c.as_slice.ensures.value i) (c.as_slice-2.ensures.value i))) in
    (kept_change s (renamed t.tree from to) c.sort.new.entries.items c.blocks_renamed-blocks.result news (renamed_is_tree t.tree from to c.requires.movable c.as_slice-4.ensures.names) blocks (renamed_within t.limits t.tree from to (shown_within s) c.requires.room)).0

pub returns-clause-ok : goal.returns-clause-ok
returns-clause-ok c =
    let a = c.self.inside in
    let t = c.args.self.now in
    let from = c.args.from.now in
    let to = c.args.to.now in
    let s : Shows t a.entries.items a.blocks a.nodes a.room a.version = record { is = c.self.view_is; kept = c.self.invariant } in
    let rest : c.take_out.new.entries.items ≡ map_of.entries (map_of.remove t.tree to) = c.take_out.ensures ∙ (λ i. map_of.entries (map_of.remove (tree_is t (c.self.view_is) i) (c.as_slice-4.ensures.value i))) in
    let items : c.set_paths.new.entries.items ≡ map (moved_entry from to) (map_of.entries (map_of.remove t.tree to)) =
    c.set_paths.ensures ∙ (λ i. map (moved_entry (c.as_slice-5.ensures.value i) (c.as_slice-6.ensures.value i)) (rest i)) in
    let moves = subst (λ xs. IsPermutation xs c.sort.new.entries.items) items c.sort.ensures.permutation in
    let news = entries_renamed t.tree from to c.requires.movable c.sort.new.entries.items moves c.sort.ensures.sorted in
    let blocks = c.blocks_renamed-blocks.ensures ∙ (λ i. used (renamed t.tree (c.as_slice.ensures.value i) (c.as_slice-2.ensures.value i))) in
    (kept_change s (renamed t.tree from to) c.sort.new.entries.items c.blocks_renamed-blocks.result news (renamed_is_tree t.tree from to c.requires.movable c.as_slice-4.ensures.names) blocks (renamed_within t.limits t.tree from to (shown_within s) c.requires.room)).1
