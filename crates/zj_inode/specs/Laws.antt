-- What is so of calls over blocks.
use Rattle.std.specs.Prelude.{◌≡◌, ℕ, ◌<◌, List}
use Rattle.zj_block.specs.Sizes.{Numbers}
use Rattle.zj_history.specs.Cut.{IsConsistentCut, cut}
use Rattle.zj_history.specs.Legal.{IsLegal}
use Rattle.zj_history.specs.Operation.{Operation}
use Rattle.zj_history.specs.State.{after, put}
use Rattle.zj_history.specs.Transactions.{AreNumbered, Bounds}
use Rattle.zj_tree.specs.declared.call.Call.{Call}
use Rattle.zj_tree.specs.declared.call.Reply.{Reply}
use Rattle.zj_tree.specs.Tree.{FileTree}
use Rattle.zj_layout.specs.Image.{State, image_of}
use Rattle.zj_layout.specs.Shows.{Changes, Shows, limits_of, put_blocks}
use Rattle.zj_inode.specs.Footprint.{Foot}
use Rattle.zj_inode.specs.Run.{IsServed, chosen, replies_from, tree_after}

-- In a state that shows a tree a call may take blocks of the image, and no other.
abbrev pub FootprintIsWithin : Type 0
FootprintIsWithin = (sizes : Numbers) (state : State) (tree : FileTree) (call : Call) (block : ℕ) → Shows sizes state tree → Foot sizes (image_of sizes state) call block → block < sizes.blocks

-- New contents are put into a state as a history puts them in.
abbrev pub PutsAreOne : Type 0
PutsAreOne = (state : State) (changes : Changes) → put state changes ≡ put_blocks state changes

-- A legal history that serves calls, of one core or of many, is the plain service's run of them: the replies are the
-- service's in turn, and the blocks show the tree that it leaves.
abbrev pub HistoryIsRun : Type 0
HistoryIsRun = (sizes : Numbers) (start : State) (tree : FileTree) (history : List Operation) (calls : List Call) (replies : List Reply)
    → Shows sizes start tree → IsLegal start history → IsServed sizes history calls replies
    → (replies ≡ replies_from (limits_of sizes) tree calls) × Shows sizes (after start history) (tree_after (limits_of sizes) tree calls)

-- A consistent cut of a history that serves calls is the plain service's run of the calls in the cut: their replies are the service's
-- in turn, and the blocks after the cut show the tree that it leaves.
abbrev pub CutIsRun : Type 0
CutIsRun = (sizes : Numbers) (start : State) (tree : FileTree) (first : Bounds) (history : List Operation) (bounds : Bounds) (calls : List Call) (replies : List Reply)
    → Shows sizes start tree → IsLegal start history → AreNumbered first history → IsConsistentCut history bounds → IsServed sizes history calls replies
    → (chosen history bounds replies ≡ replies_from (limits_of sizes) tree (chosen history bounds calls))
    × Shows sizes (after start (cut history bounds)) (tree_after (limits_of sizes) tree (chosen history bounds calls))
