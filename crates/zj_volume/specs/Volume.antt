-- What a volume is, and what a call over blocks answers there.
use Rattle.std.specs.Prelude.{◌≡◌, ◌⊎◌, ℕ, List, Some, slice_get}
use Rattle.std.specs.FinMap as map_of
use Rattle.zj_block.specs.Lists.{Entries, content_under}
use Rattle.zj_block.specs.Sizes.{Numbers}
use Rattle.zj_tree.specs.declared.call.Call.{Call}
use Rattle.zj_tree.specs.declared.call.Reply.{Reply}
use Rattle.zj_tree.specs.Apply.{apply}
use Rattle.zj_tree.specs.Tree.{FileTree}
use Rattle.zj_layout.specs.Image.{State}
use Rattle.zj_layout.specs.Shows.{Shows, Changes, put_blocks, limits_of}
use Rattle.zj_inode.specs.Performs.{IsRefused, Looks}

-- the blocks of an image, with its sizes
pub record SizedState : Type 0 where
  pub sizes : Numbers
  pub state : State

-- Whatever tree the blocks show, a reply is the plain service's, and with new contents they show the tree that it leaves. A call that
-- is refused, or only looks, has none.
pub record Serves (sizes : Numbers) (state : State) (call : Call) (reply : Reply) (written : Changes) : Type 0 where
  pub reply_is : (tree : FileTree) → Shows sizes state tree → reply ≡ (apply (limits_of sizes) call tree).0
  pub leaves : (tree : FileTree) → Shows sizes state tree → Shows sizes (put_blocks state written) (apply (limits_of sizes) call tree).1
  pub quiet : IsRefused reply ⊎ Looks call → written ≡ map_of.empty

-- Blocks were taken as a state has them.
pub record Agrees (found : Entries) (state : State) : Type 0 where
  pub each : (block : ℕ) (content : List ℕ) → content_under found block ≡ Some content → slice_get state block ≡ Some content
