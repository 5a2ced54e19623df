-- What cutting and writing a file does in every made state, and the blocks that it needs.
use Rattle.std.specs.Prelude.{◌≡◌, ◌≢◌, ◌⊎◌, ℕ, ◌+◌, ◌-◌, ◌*◌, ◌/◌, ◌<◌, ◌≤◌, ◌==◌, if◌then◌else◌, max, List, length, Some, None, IsSome, slice_index}
use Rattle.std.specs.FinMap as map_of
use Rattle.zj_block.specs.Block.{zero_content}
use Rattle.zj_block.specs.Lists.{Entries}
use Rattle.zj_block.specs.Sizes.{Numbers, map_blocks}
use Rattle.zj_tree.specs.declared.call.Refusal.TheVariants.{NoSpace}
use Rattle.zj_tree.specs.declared.call.Reply.TheVariants.{Done}
use Rattle.zj_tree.specs.Tree.{FileTree, blocks_for}
use Rattle.zj_layout.specs.Graph.{follow}
use Rattle.zj_layout.specs.Node.{byte_in}
use Rattle.zj_layout.specs.Image.{State, Image, image_of, graph_of, node_of, node_block, map_block, item_block, count_of, number_of}
use Rattle.zj_layout.specs.Shows.{IsState, Changes, put_blocks}
use Rattle.zj_changes.specs.Resized.{CutsFile, PutsBytes, WritesBlocks, WritesRange}
use Rattle.zj_changes.specs.Tables.{SetsContent, SetsMap}
use Rattle.zj_changes.specs.Walk.{FreeAreAmong}
use Rattle.zj_dirs.specs.Looking.{IsLowestBlock, IsMapSearch}
use Rattle.zj_dirs.specs.Possible.{AllTaken, IsPossible, Turns, overlaid}
use Rattle.zj_dirs.specs.Trimming.{Counts, MakeTheSame}
use Rattle.zj_inode.specs.declared.outcome.Outcome.{Outcome}
use Rattle.zj_inode.specs.declared.outcome.Outcome.TheVariants as outcomes
use Rattle.zj_inode.specs.declared.stopped.Stopped.{Stopped}
use Rattle.zj_inode.specs.Answering.{AfterSays}
use Rattle.zj_inode.specs.Footprint.{HasBlockFor, free_below}

-- A file has its first bytes alone.
abbrev pub Cuts : Numbers → Image → Image → ℕ → ℕ → Type 0
Cuts sizes old new file size = (blocks : List ℕ) × CutsFile sizes old new file size blocks

-- a block of the map that has the byte of one that a node names, from one place up to another
abbrev pub IsMapOf : Image → ℕ → ℕ → ℕ → ℕ → Type 0
IsMapOf image number low high block = (j : ℕ) × (low ≤ j) × (j < high) × (block ≡ map_block (number_of image number j))

-- a block that is needed to cut a file: one of the map for a block that it loses, and that of its node
abbrev pub IsTruncateBlock : Numbers → Image → ℕ → ℕ → ℕ → Type 0
IsTruncateBlock sizes image file size block = IsMapOf image file (blocks_for size 512) (count_of image file) block ⊎ (block ≡ node_block sizes file)

-- ---- bytes written block by block

-- A data block whose first byte is at a place of the file has the bytes of a range that lie in it.
pub record PutsInto (sizes : Numbers) (old new : Image) (block first at : ℕ) (bytes : List ℕ) : Type 0 where
  pub content : List ℕ
  pub puts : PutsBytes (old.content block) content first at bytes
  pub sets : SetsContent sizes old new block content

-- The lowest free block is in use, and has the bytes of a range that lie in it, and else zeros.
pub record TakesBlock (sizes : Numbers) (old new : Image) (block first at : ℕ) (bytes : List ℕ) : Type 0 where
  pub marked : Image
  pub content : List ℕ
  pub puts : PutsBytes zero_content content first at bytes
  pub marks : SetsMap sizes old marked block 1
  pub sets : SetsContent sizes marked new block content

-- A block that is needed to take the lowest free one: one of the map up to it, that block, and the one of the map with its
-- byte.
pub data IsTakeBlock (sizes : Numbers) (image : Image) (block : ℕ) : Type 0 where
  searched : IsMapSearch sizes image block → IsTakeBlock sizes image block
  lowest : IsLowestBlock sizes image (Some block) → IsTakeBlock sizes image block
  map_of_lowest : (new : ℕ) → IsLowestBlock sizes image (Some new) → block ≡ map_block new → IsTakeBlock sizes image block

-- why no block is taken
abbrev pub TakeBlockStops : Numbers → Entries → Changes → Stopped → Type 0
TakeBlockStops sizes found written = AfterSays sizes found written (IsTakeBlock sizes) (λ state tree refusal. (refusal ≡ NoSpace) × IsLowestBlock sizes (image_of sizes state) None)

-- how many blocks more a file has once bytes are written up to a place
abbrev pub blocks_more : Image → ℕ → ℕ → ℕ
blocks_more image file to = blocks_for (max (node_of image file).size to) 512 - blocks_for (node_of image file).size 512

-- A block that is needed to write bytes of a file from a place up to another: one of the file's that the range touches;
-- of the blocks that it takes, one that so few lower ones are free, and a block of the map before which so few are free.
pub data IsWriteBlock (sizes : Numbers) (image : Image) (file at to block : ℕ) : Type 0 where
  of_range : (k : ℕ) → at ≤ k → k < to → HasBlockFor image file k → block ≡ item_block image file k → IsWriteBlock sizes image file at to block
  of_map : block < map_blocks sizes → free_below image (512 * block) < blocks_more image file to → IsWriteBlock sizes image file at to block
  of_new : image.map block ≡ 0 → block < sizes.blocks → free_below image block < blocks_more image file to → IsWriteBlock sizes image file at to block

-- The blocks of a file, and all free ones, are too few for bytes up to a place.
pub record LacksSpace (sizes : Numbers) (image : Image) (file to : ℕ) : Type 0 where
  pub free : List ℕ
  pub among : FreeAreAmong sizes image free
  pub few : count_of image file + length free < blocks_for (max (node_of image file).size to) 512

-- why bytes of a range are not written
abbrev pub WriteStops : Numbers → Entries → Changes → ℕ → ℕ → ℕ → Stopped → Type 0
WriteStops sizes found written file at to = AfterSays sizes found written (λ image block. IsWriteBlock sizes image file at to block) (λ state tree refusal. (refusal ≡ NoSpace) × LacksSpace sizes (image_of sizes state) file to)

-- In the blocks that a file has newly, zeros stand behind the end of the bytes that are written.
abbrev pub HasZeros : Image → Image → ℕ → ℕ → List ℕ → ℕ → Type 0
HasZeros old new file to blocks count = (j i : ℕ) → count_of old file ≤ j → j < count → i < 512 → to ≤ 512 * j + i → byte_in (new.content (slice_index blocks j)) i ≡ 0

-- So many of the first blocks of a file have the bytes of a range, each new one with zeros behind the end.
pub record HasWritten (sizes : Numbers) (old new : Image) (file at : ℕ) (bytes blocks : List ℕ) (count : ℕ) : Type 0 where
  pub writes : WritesBlocks sizes old new file at bytes blocks count
  pub fewer : (n : ℕ) → free_below old n ≤ free_below new n + (count - count_of old file)
  pub zeros : HasZeros old new file (at + length bytes) blocks count

-- the same of code: the numbers of the blocks are a node's, and each block of the range has a content
pub record WritesFirst (sizes : Numbers) (found : Entries) (before after : Changes) (file at had : ℕ) (bytes blocks : List ℕ) (count : ℕ) : Type 0 where
  pub turns : Turns sizes found before after (λ old new. HasWritten sizes old new file at bytes blocks count)
  pub named : (k : ℕ) → k < max had count → slice_index blocks k ≢ 0
  pub rest : (k : ℕ) → max had count ≤ k → slice_index blocks k ≡ 0
  pub seen : (k : ℕ) → at / 512 ≤ k → k < count → overlaid found after (slice_index blocks k) ≢ None

-- how many of the first blocks of a file are written, where some bytes are written from a place on
abbrev pub blocks_up_to : ℕ → ℕ → ℕ
blocks_up_to at count = if count == 0 then at / 512 else blocks_for (at + count) 512

-- ---- a file that is written

-- In one state and in one that changes leave: a path leads to a file that has bytes from a place on, and zeros behind the
-- end in each block that it has newly.
pub record OverwritesIn (sizes : Numbers) (before after : State) (path : List (List ℕ)) (at : ℕ) (bytes blocks : List ℕ) : Type 0 where
  pub shape : IsState sizes after
  pub file : ℕ
  pub leads : follow (graph_of (image_of sizes before)) 0 path ≡ Some file
  pub writes : WritesRange sizes (image_of sizes before) (image_of sizes after) file at bytes blocks
  pub zeros : HasZeros (image_of sizes before) (image_of sizes after) file (at + length bytes) blocks (blocks_up_to at (length bytes))

-- The same in every possible state; each block of the range has a content.
pub record Overwrites (sizes : Numbers) (found : Entries) (built : Changes) (path : List (List ℕ)) (at : ℕ) (bytes blocks : List ℕ) : Type 0 where
  pub each : (state : State) (tree : FileTree) → IsPossible sizes found state tree → OverwritesIn sizes state (put_blocks state built) path at bytes blocks
  pub seen : (k : ℕ) → at / 512 ≤ k → k < blocks_up_to at (length bytes) → overlaid found built (slice_index blocks k) ≢ None

-- some of a list's numbers are a block's
abbrev pub IsAmong : List ℕ → ℕ → ℕ → ℕ → Type 0
IsAmong blocks low high block = (k : ℕ) × (low ≤ k) × (k < high) × (slice_index blocks k ≡ block)

-- a block has the content that was built, or else the one that was found
pub record PutsSeen (found : Entries) (built before after : Changes) (block : ℕ) : Type 0 where
  pub others : (other : ℕ) → other ≢ block → map_of.get after other ≡ map_of.get before other
  pub here : (content : List ℕ) → overlaid found built block ≡ Some content → map_of.get after block ≡ Some content
  pub only : overlaid found built block ≡ None → map_of.get after block ≡ map_of.get before block

-- New contents are those of the built ones that count, and those of some blocks.
pub record TrimsAround (found : Entries) (built : Changes) (blocks : List ℕ) (low high : ℕ) (after : Changes) : Type 0 where
  pub same : MakeTheSame found built after
  pub only : (block : ℕ) (content : List ℕ) → map_of.get after block ≡ Some content → Counts found block content ⊎ IsAmong blocks low high block
  pub taken : AllTaken found built → AllTaken found after
  pub range : (k : ℕ) → low ≤ k → k < high → overlaid found built (slice_index blocks k) ≢ None → IsSome (map_of.get after (slice_index blocks k))

-- the answer isn't that a call is done
abbrev pub IsUndone : Outcome → Type 0
IsUndone (outcomes.Done Done written) = ⊥
IsUndone _ = Unit {0}
