use Rattle.std.proofs.Common.{◌≡◌, ◌+◌, ◌≤◌, ℕ, ap, ◌∙◌, arith}
use Rattle.zj_tree.specs.Tree.{entry_count, content_at}
use Rattle.zj_tree.proofs.RemoveLemmas.{the_content, used_without, without_sum, removed_is_tree}
use Rattle.zj_tree.proofs.tree.Tree.blocks_without.Goals as goal

pub overflow_sub-entries : goal.overflow_sub-entries
overflow_sub-entries c =
    let tree = c.args.self.now.tree in
    let got = the_content (content_at tree c.args.path.now) c.requires.there in
    (used_without tree c.args.path.now got.0 c.entry_count-entries.result c.entry_count-entries.ensures.tree c.requires.below_root c.requires.empty got.1 (c.entry_count-entries.ensures.value ∙ ap (entry_count tree) c.parent_of.ensures)).0

pub overflow_sub-result : goal.overflow_sub-result
overflow_sub-result c =
    let tree = c.args.self.now.tree in
    let got = the_content (content_at tree c.args.path.now) c.requires.there in
    let law = (used_without tree c.args.path.now got.0 c.entry_count-entries.result c.entry_count-entries.ensures.tree c.requires.below_root c.requires.empty got.1 (c.entry_count-entries.ensures.value ∙ ap (entry_count tree) c.parent_of.ensures)).1 in
    fits _ _ _ _ _ _ _ _ law c.used.ensures c.directory_blocks.ensures c.directory_blocks-2.ensures
  where
    fits : (u' cb dn u dp all less few : ℕ) → u' + cb + dn ≡ u + dp → all ≡ u → less ≡ dp → few ≡ dn → few ≤ all + less
    fits u' cb dn u dp all less few law a l f = omega arith

pub overflow_sub-result-2 : goal.overflow_sub-result-2
overflow_sub-result-2 c =
    let tree = c.args.self.now.tree in
    (without_sum tree c.args.path.now c.entry_count-entries.result _ _ _ _ c.entry_count-entries.ensures.tree c.requires.there c.requires.below_root c.requires.empty (c.entry_count-entries.ensures.value ∙ ap (entry_count tree) c.parent_of.ensures)
    c.used.ensures c.directory_blocks.ensures c.directory_blocks-2.ensures c.blocks_at.ensures).second

pub returns-clause-used : goal.returns-clause-used
returns-clause-used c =
    let tree = c.args.self.now.tree in
    (without_sum tree c.args.path.now c.entry_count-entries.result _ _ _ _ c.entry_count-entries.ensures.tree c.requires.there c.requires.below_root c.requires.empty (c.entry_count-entries.ensures.value ∙ ap (entry_count tree) c.parent_of.ensures)
    c.used.ensures c.directory_blocks.ensures c.directory_blocks-2.ensures c.blocks_at.ensures).sum

pub returns-clause-is_tree : goal.returns-clause-is_tree
returns-clause-is_tree c = removed_is_tree c.args.self.now.tree c.args.path.now c.entry_count-entries.ensures.tree c.requires.below_root c.requires.empty
