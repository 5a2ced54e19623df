-- What the steps say that remove an entry and its node.
use Rattle.std.specs.Prelude.{◌≡◌, ◌⊎◌, ℕ, ◌<◌}
use Rattle.std.specs.FinMap as map_of
use Rattle.zj_block.specs.Lists.{Entries, AreContents}
use Rattle.zj_block.specs.Sizes.{Numbers}
use Rattle.zj_tree.specs.declared.call.Reply.{Reply}
use Rattle.zj_tree.specs.declared.call.Reply.TheVariants as replies
use Rattle.zj_tree.specs.Tree.{FileTree}
use Rattle.zj_layout.specs.declared.fields.Kind.TheVariants as kinds
use Rattle.zj_layout.specs.declared.fields.Node.{Node}
use Rattle.zj_layout.specs.Image.{State, Image, image_of, count_of, number_of, node_block, map_block}
use Rattle.zj_layout.specs.Shows.{Changes, put_blocks}
use Rattle.zj_changes.specs.Holds.{Unlinks}
use Rattle.zj_dirs.specs.Changing.{IsRemoveBlock}
use Rattle.zj_dirs.specs.Possible.{IsPossible}
use Rattle.zj_inode.specs.declared.finding.Target.{Target}
use Rattle.zj_inode.specs.declared.stopped.Stopped.{Stopped}
use Rattle.zj_inode.specs.Answering.{AfterSays, StopSays}

-- a node without entries: a file, or an empty directory
abbrev pub IsLeafNode : Node → Type 0
IsLeafNode node = (node.kind ≡ kinds.File) ⊎ (node.size ≡ 0)

-- a block that is needed to free a node: one of the map, for a block that the node names, or that of the node
abbrev pub IsReleaseBlock : Numbers → Image → ℕ → ℕ → Type 0
IsReleaseBlock sizes image number block = ((j : ℕ) × (j < count_of image number) × (block ≡ map_block (number_of image number j))) ⊎ (block ≡ node_block sizes number)

-- why an entry isn't removed, a node isn't freed, and the two aren't
abbrev pub RemoveStops : Numbers → Entries → Changes → ℕ → ℕ → Stopped → Type 0
RemoveStops sizes found written dir place = AfterSays sizes found written (λ image block. IsRemoveBlock sizes image dir place block) (λ state tree refusal. ⊥)

abbrev pub ReleaseStops : Numbers → Entries → Changes → ℕ → Stopped → Type 0
ReleaseStops sizes found written number = AfterSays sizes found written (λ image block. IsReleaseBlock sizes image number block) (λ state tree refusal. ⊥)

abbrev pub DetachStops : Numbers → Entries → Target → Stopped → Type 0
DetachStops sizes found target = StopSays sizes found (λ image block. IsRemoveBlock sizes image target.dir target.place block ⊎ IsReleaseBlock sizes image target.number block) (λ state tree refusal. ⊥)

-- An entry is removed and its node is freed, in every possible state.
pub record Detaches (sizes : Numbers) (found : Entries) (built : Changes) (target : Target) (reply : Reply) : Type 0 where
  pub done : reply ≡ replies.Done
  pub contents : AreContents (map_of.entries built)
  pub each : (state : State) (tree : FileTree) → IsPossible sizes found state tree → Unlinks sizes (image_of sizes state) (image_of sizes (put_blocks state built)) target.dir target.place target.number
