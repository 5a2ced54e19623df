-- When blocks that were found, and new contents of some of them, perform a call: in every state that they may be part of.
use Rattle.std.specs.Prelude.{◌≡◌, ◌≢◌, ◌⊎◌, ℕ, ◌+◌, ◌*◌, ◌/◌, ◌<◌, ◌≤◌, List, length, Some, None, IsSome}
use Rattle.std.specs.FinMap as map_of
use Rattle.zj_block.specs.Lists.{Entries, content_under}
use Rattle.zj_block.specs.Sizes.{Numbers}
use Rattle.zj_tree.specs.declared.call.Call.{Call}
use Rattle.zj_tree.specs.declared.call.Call.TheVariants as calls
use Rattle.zj_tree.specs.declared.call.Reply.{Reply}
use Rattle.zj_tree.specs.declared.call.Reply.TheVariants.{Done, Refused}
use Rattle.zj_tree.specs.Apply.{apply}
use Rattle.zj_tree.specs.Tree.{FileTree}
use Rattle.zj_layout.specs.Graph.{follow}
use Rattle.zj_layout.specs.Image.{State, Image, image_of, graph_of, item_block, node_block}
use Rattle.zj_layout.specs.Node.{byte_in}
use Rattle.zj_layout.specs.Shows.{Shows, Changes, put_blocks, limits_of}
use Rattle.zj_dirs.specs.Possible.{Always, IsOdd, IsPossible}
use Rattle.zj_inode.specs.Footprint.{Foot}
use Rattle.zj_inode.specs.declared.outcome.Outcome.{Outcome}
use Rattle.zj_inode.specs.declared.outcome.Outcome.TheVariants as outcomes

-- a call that only looks
abbrev pub Looks : Call → Type 0
Looks (calls.List path) = Unit {0}
Looks (calls.Stat path) = Unit {0}
Looks (calls.Fsync path) = Unit {0}
Looks (calls.Read path at count) = Unit {0}
Looks _ = ⊥

abbrev pub IsRefused : Reply → Type 0
IsRefused (Refused refusal) = Unit {0}
IsRefused _ = ⊥

-- a block that holds a byte of a write's range, in the state that the write leaves
abbrev pub IsWrittenOver : Image → Call → ℕ → Type 0
IsWrittenOver image (calls.Write path at bytes) block =
    (node k : ℕ) × (follow (graph_of image) 0 path ≡ Some node) × (at ≤ k) × (k < at + length bytes) × (item_block image node k ≡ block)
IsWrittenOver image _ block = ⊥

-- In one state: the reply is the plain service's, and the state with the changes shows the tree that it leaves. Each
-- changed block was found, and differs, or was free, or holds a byte of a write's range.
pub record PerformsIn (sizes : Numbers) (found : Entries) (changes : Changes) (call : Call) (reply : Reply) (state : State) (tree : FileTree) : Type 0 where
  pub replies : (apply (limits_of sizes) call tree).0 ≡ reply
  pub leaves : Shows sizes (put_blocks state changes) (apply (limits_of sizes) call tree).1
  pub changed : (block : ℕ) (content : List ℕ) → map_of.get changes block ≡ Some content
      → (content_under found block ≢ Some content) ⊎ ((image_of sizes state).map block ≡ 0) ⊎ IsWrittenOver (image_of sizes (put_blocks state changes)) call block

-- An operation performs a call with a reply where it does so in every possible state.
pub record Performs (sizes : Numbers) (found : Entries) (changes : Changes) (call : Call) (reply : Reply) : Type 0 where
  pub taken : (block : ℕ) → IsSome (map_of.get changes block) → IsSome (content_under found block)
  pub each : (state : State) (tree : FileTree) → IsPossible sizes found state tree → PerformsIn sizes found changes call reply state tree
  pub quiet : IsRefused reply ⊎ Looks call → changes ≡ map_of.empty

-- What performing a call answers: a block that wasn't taken and that the call may take in every possible state; or a reply with new
-- contents that perform the call; or that no state is possible.
abbrev pub OutcomeSays : Numbers → Entries → Call → Outcome → Type 0
OutcomeSays sizes found call (outcomes.Need block) = (content_under found block.0 ≡ None) × Always sizes found (λ image. Foot sizes image call block.0)
OutcomeSays sizes found call (outcomes.Done reply written) = Performs sizes found written call reply
OutcomeSays sizes found call outcomes.Odd = IsOdd sizes found

-- a block that is needed
abbrev pub Needs : Outcome → ℕ → Type 0
Needs (outcomes.Need block) number = block.0 ≡ number
Needs _ number = ⊥

-- Where the block of node 0 was not taken, it is the one that is needed.
abbrev pub IsRootFirst : Numbers → Entries → Outcome → Type 0
IsRootFirst sizes found outcome = content_under found (node_block sizes 0) ≡ None → Needs outcome (node_block sizes 0)

-- A block that is needed is one of the image.
abbrev pub NeedsWithin : Numbers → Outcome → Type 0
NeedsWithin sizes outcome = (block : ℕ) → Needs outcome block → block < sizes.blocks

-- the block with a byte of a file has a new content, and zeros behind the end if it was free
pub record IsWritten (old new : Image) (written : Changes) (file to k : ℕ) : Type 0 where
  pub whole : IsSome (map_of.get written (item_block new file k))
  pub zeros : old.map (item_block new file k) ≡ 0 → (i : ℕ) → i < 512 → to ≤ 512 * (k / 512) + i → byte_in (new.content (item_block new file k)) i ≡ 0

-- In every possible state each block of a range that is written has a new content, and one that was free has zeros behind
-- the range.
abbrev pub IsWhole : Numbers → Entries → List (List ℕ) → ℕ → ℕ → Outcome → Type 0
IsWhole sizes found path at count (outcomes.Done Done written) =
    (state : State) (tree : FileTree) → IsPossible sizes found state tree → (file k : ℕ) → follow (graph_of (image_of sizes state)) 0 path ≡ Some file → at ≤ k → k < at + count → IsWritten (image_of sizes state) (image_of sizes (put_blocks state written)) written file (at + count) k
IsWhole sizes found path at count _ = Unit {0}

-- a write that is done is whole
abbrev pub IsWholeWrite : Numbers → Entries → Call → Outcome → Type 0
IsWholeWrite sizes found (calls.Write path at bytes) outcome = IsWhole sizes found path at (length bytes) outcome
IsWholeWrite sizes found _ outcome = Unit {0}
