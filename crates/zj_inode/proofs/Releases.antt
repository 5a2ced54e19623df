-- A node whose blocks are freed one by one.
use Rattle.std.proofs.Common.{◌≡◌, ℕ, ◌+◌, ◌<◌, ◌≤◌, Some, sym, ap, ◌∙◌, subst, arith, slice_index}
use Rattle.std.specs.FinMap as map_of
use Rattle.std.specs.Option.{unwrap_or}
use native.Mathlib.Decide.{dec_lt}
use Rattle.zj_block.specs.Lists.{Entries}
use Rattle.zj_block.specs.Sizes.{Numbers}
use Rattle.zj_tree.specs.Tree.{FileTree}
use Rattle.zj_layout.specs.declared.fields.Node.{Node}
use Rattle.zj_layout.specs.Node.{blocks_needed}
use Rattle.zj_layout.specs.Image.{State, Image, image_of, free_node, node_of, count_of, number_of}
use Rattle.zj_layout.specs.Stored.{IsStored}
use Rattle.zj_layout.specs.Shows.{Changes, put_blocks}
use Rattle.zj_layout.proofs.Follow.{none_some}
use Rattle.zj_changes.specs.Resized.{FreesBlocks}
use Rattle.zj_changes.specs.Tables.{SetsMap}
use Rattle.zj_changes.proofs.Built.{none_freed, one_more_freed}
use Rattle.zj_dirs.specs.Possible.{AllTaken, IsPossible, KeepsContents, Turns}

-- the first blocks of a node are free now
pub record Freeing (sizes : Numbers) (found : Entries) (before after : Changes) (number count : ℕ) : Type 0 where
  pub turns : Turns sizes found before after (λ old new. FreesBlocks old new number 0 count)
  pub taken : AllTaken found before → AllTaken found after
  pub kept : KeepsContents found before after
  pub few : map_of.len after ≤ map_of.len before + count

pub frees_none : (sizes : Numbers) (found : Entries) (before : Changes) (number : ℕ) → Freeing sizes found before before number 0
frees_none sizes found before number = record {
  turns = λ state tree p. none_freed (image_of sizes (put_blocks state before)) number 0;
  taken = λ all. all;
  kept = λ b h. h;
  few = omega arith;
}

module _ (sizes : Numbers) (image : Image) (s : IsStored sizes image) (number : ℕ) (node : Node) (is : image.node number ≡ Some node) where
  the_node : node_of image number ≡ node
  the_node = ap (λ o. unwrap_or o free_node) is

  pub count_is : count_of image number ≡ blocks_needed node
  count_is = ap blocks_needed the_node

  pub number_is : (j : ℕ) → number_of image number j ≡ slice_index node.blocks j
  number_is j = ap (λ (n : Node). slice_index n.blocks j) the_node

  pub node_within : number < sizes.nodes
  node_within = by (dec_lt number sizes.nodes)
    where
      by : Dec (number < sizes.nodes) → number < sizes.nodes
      by (yes lt) = lt
      by (no past) = absurd (none_some (sym (s.none number (omega arith)) ∙ is))

  pub block_below : (j : ℕ) → j < blocks_needed node → slice_index node.blocks j < sizes.blocks
  block_below j lt = subst (λ b. b < sizes.blocks) (number_is j) ((s.placed number node_within).in_data j (omega (arith, count_is))).1

pub frees_more : (sizes : Numbers) (found : Entries) (before between after : Changes) (number j : ℕ) (node : Node) → Freeing sizes found before between number j
    → ((state : State) (tree : FileTree) → IsPossible sizes found state tree → IsStored sizes (image_of sizes (put_blocks state before))) → ((state : State) (tree : FileTree) → IsPossible sizes found state tree → (image_of sizes (put_blocks state before)).node number ≡ Some node)
    → j < blocks_needed node → Turns sizes found between after (λ old new. slice_index node.blocks j < sizes.blocks → SetsMap sizes old new (slice_index node.blocks j) 0)
    → (AllTaken found between → AllTaken found after) → KeepsContents found between after → map_of.len after ≤ map_of.len between + 1 → Freeing sizes found before after number (j + 1)
frees_more sizes found before between after number j node f stored is lt sets taken kept few = record {
  turns = λ state tree p.
      let old = image_of sizes (put_blocks state before) in
      let s = stored state tree p in
      one_more_freed sizes old (image_of sizes (put_blocks state between)) (image_of sizes (put_blocks state after)) number 0 j (omega arith) (f.turns state tree p)
      (subst (λ b. SetsMap sizes (image_of sizes (put_blocks state between)) (image_of sizes (put_blocks state after)) b 0) (sym (number_is sizes old s number node (is state tree p) j))
      (sets state tree p (block_below sizes old s number node (is state tree p) j lt)));
  taken = λ all. taken (f.taken all);
  kept = λ b h. f.kept b (kept b h);
  few = omega (arith, few, f.few);
}
