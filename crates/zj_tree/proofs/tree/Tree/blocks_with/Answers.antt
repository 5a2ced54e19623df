use Rattle.std.proofs.Common.{ℕ, ◌≡◌, ◌+◌, ◌-◌, ap, sym, ◌∙◌}
use Rattle.zj_tree.specs.Path.{parent}
use Rattle.zj_tree.specs.Tree.{entry_count}
use Rattle.zj_tree.proofs.EntryLemmas.{inserted_is_tree, used_with}
use Rattle.zj_tree.proofs.tree.Tree.blocks_with.Goals as goal

pub returns-clause-used : goal.returns-clause-used
returns-clause-used c =
    let tree = c.args.self.now.tree in
    let n : ℕ = c.entry_count-entries.result in
    let entries : n ≡ entry_count tree (parent c.args.path.now) = c.entry_count-entries.ensures.value ∙ ap (entry_count tree) (c.parent_of.ensures ∙ ap parent c.as_slice.ensures.value) in
    let parts : c.used.result + c.content_blocks.result + (c.directory_blocks.result - c.directory_blocks-2.result) ≡ _ =
    λ i. c.used.ensures i + c.content_blocks.ensures.value i + (c.directory_blocks.ensures i - c.directory_blocks-2.ensures i) in
    parts ∙ sym (used_with tree c.args.path.now c.args.content.now n c.entry_count-entries.ensures.tree c.requires.absent c.requires.directory entries)

pub returns-clause-is_tree : goal.returns-clause-is_tree
returns-clause-is_tree c = inserted_is_tree c.args.self.now.tree c.args.path.now c.args.content.now c.entry_count-entries.ensures.tree c.as_slice.ensures.names c.requires.absent c.requires.directory
