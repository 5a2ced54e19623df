-- What the handle of a core has taken, as its pass has it.
use Rattle.std.specs.Prelude.{◌≡◌, ◌⊎◌, ℕ, ◌<◌, true, false, List, [], length, map, take, Option, Some, None, IsSome}
use Rattle.std.specs.FinMap as finmap
use Rattle.std.specs.List.{filter_map}
use Rattle.std.specs.Option.{option_map}
use Rattle.zj_block.specs.Lists.{Entries, content_under}
use Rattle.zj_block.specs.Sizes.{Numbers}
use Rattle.zj_tree.specs.declared.call.Call.{Call}
use Rattle.zj_tree.specs.declared.call.Reply.{Reply}
use Rattle.zj_tree.specs.Tree.{FileTree}
use Rattle.zj_layout.specs.Image.{State, node_block}
use Rattle.zj_layout.specs.Shows.{Changes}
use Rattle.zj_dirs.specs.Possible.{Always, IsPossible}
use Rattle.zj_inode.specs.Footprint.{Foot}
use Rattle.zj_inode.specs.Performs.{Performs}
use Rattle.zj_block.specs.declared.numbers.Writer.{Writer}
use Rattle.zj_tx.specs.Running.{HasNoted}
use Rattle.zj_turns.specs.Views.{Has, Hold, Known, found_in}
use Rattle.zj_turns.specs.Passes.{PassState, holds, mine}

-- the number of the block that each handle takes first: that of the root's node
abbrev pub root_block : Numbers → ℕ
root_block sizes = node_block sizes 0

-- the contents of the blocks that a core holds, as they were loaded, each under its number
abbrev pub entries_held : Known → Entries
entries_held k = map (λ e. (e.0, take 64 e.1.loaded)) (finmap.entries k.held)

-- the content of a block that a core holds, as it was loaded
abbrev pub content_held : Known → ℕ → Option (List ℕ)
content_held k b = option_map (λ h. take 64 h.loaded) (finmap.get k.held b)

-- a block was loaded whole, and not stored
pub record IsRead (h : Hold) : Type 0 where
  pub loaded : length h.loaded ≡ 67
  pub stored : h.stored ≡ []

-- some state shows a tree and has the blocks as they were found
pub record IsPartOfSome (sizes : Numbers) (found : Entries) : Type 0 where
  pub state : State
  pub tree : FileTree
  pub possible : IsPossible sizes found state tree

-- Nothing was taken yet; or the root's block was, and some state that shows a tree has what was taken.
abbrev pub IsBegun : Numbers → Entries → Type 0
IsBegun sizes found = (found ≡ []) ⊎ (IsSome (content_under found (root_block sizes)) × IsPartOfSome sizes found)

-- the transactions that last wrote the blocks that a core holds, as they were loaded
abbrev pub writers_held : Known → List Writer
writers_held k = filter_map (λ f. f.writer) (found_in k.held)

-- What a core holds are the blocks that were taken, as they were loaded, and their last writers were noted. It has drawn for none of
-- them.
pub record HasTaken (sizes : Numbers) (p : PassState) (found : Entries) (follows : List ℕ) : Type 0 where
  pub known : Has p.view p.core
  pub clear : (mine p).drawn ≡ false
  pub read : (b : ℕ) (h : Hold) → finmap.get (mine p).held b ≡ Some h → IsRead h
  pub same : (b : ℕ) → content_under found b ≡ content_held (mine p) b
  pub begun : IsBegun sizes found
  pub noted : HasNoted follows (writers_held (mine p))

-- A call over blocks that were taken needs another one, which it may take in every state that shows a tree and has them. The first
-- is that of the root's node.
pub record IsDue (sizes : Numbers) (found : Entries) (call : Call) (block : ℕ) : Type 0 where
  pub fresh : content_under found block ≡ None
  pub foot : Always sizes found (λ image. Foot sizes image call block)
  pub first : content_under found (root_block sizes) ≡ None → block ≡ root_block sizes
  pub within : block < sizes.blocks

-- The root's block was taken, and some reply and new contents perform a call over blocks that were taken.
pub record IsPerformed (sizes : Numbers) (found : Entries) (call : Call) : Type 0 where
  pub root : IsSome (content_under found (root_block sizes))
  pub reply : Reply
  pub written : Changes
  pub performs : Performs sizes found written call reply

-- A call needs a block next: it is due over the blocks that are held.
abbrev pub NeedsNext : Numbers → PassState → Call → ℕ → Type 0
NeedsNext sizes p call block = IsDue sizes (entries_held (mine p)) call block

-- Each block that a pass holds and did not hold before is one that the call may take, in every state that shows a tree and has
-- the blocks that are held.
abbrev pub TakesFor : Numbers → PassState → PassState → Call → Type 0
TakesFor sizes old new call = (b : ℕ) → holds new b ≡ true → holds old b ≡ false → Always sizes (entries_held (mine new)) (λ image. Foot sizes image call b)
