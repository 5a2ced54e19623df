-- What adding and removing an entry of a directory does in every made state, and the blocks that it needs.
use Rattle.std.specs.Prelude.{◌≡◌, ◌≢◌, ◌⊎◌, ℕ, ◌+◌, ◌/◌, ◌%◌, ◌<◌, List, Some, None, slice_index}
use Rattle.zj_block.specs.Block.{zero_content}
use Rattle.zj_block.specs.Lists.{Entries}
use Rattle.zj_block.specs.Sizes.{Numbers}
use Rattle.zj_layout.specs.declared.fields.Kind.TheVariants as kinds
use Rattle.zj_layout.specs.declared.fields.Link.{Link}
use Rattle.zj_layout.specs.declared.fields.Node.{Node}
use Rattle.zj_layout.specs.Node.{link_in}
use Rattle.zj_layout.specs.Image.{Image, node_of, number_of, node_block, map_block, item_block, entry_at}
use Rattle.zj_layout.specs.Shows.{Changes}
use Rattle.zj_changes.specs.Entry.{Appends}
use Rattle.zj_changes.specs.Resized.{RemovesEntry}
use Rattle.zj_dirs.specs.declared.answers.Change as changes
use Rattle.zj_dirs.specs.declared.answers.Change.TheVariants as answers
use Rattle.zj_dirs.specs.Possible.{IsNeeded, IsOdd, Made, Turns}
use Rattle.zj_dirs.specs.Looking.{IsLowestBlock, IsMapSearch}

-- how many entries a directory has
abbrev pub entries_of : Image → ℕ → ℕ
entries_of image dir = (node_of image dir).size

-- a directory may have one entry more, and its last block has room for it
abbrev pub HasRoom : Image → ℕ → Type 0
HasRoom image dir = (entries_of image dir < 192) × (entries_of image dir % 16 ≢ 0)

-- a directory may have one entry more, and its blocks are full
abbrev pub NeedsBlock : Image → ℕ → Type 0
NeedsBlock image dir = (entries_of image dir < 192) × (entries_of image dir % 16 ≡ 0)

-- A block that one entry more of a directory needs: that of the node; the last block, where it has room; else the blocks
-- of the map up to one with a free block, that block, and the block of the map that has its byte.
pub data IsPlaceBlock (sizes : Numbers) (image : Image) (dir block : ℕ) : Type 0 where
  of_node : block ≡ node_block sizes dir → IsPlaceBlock sizes image dir block
  of_last : HasRoom image dir → block ≡ number_of image dir (entries_of image dir / 16) → IsPlaceBlock sizes image dir block
  of_map : NeedsBlock image dir → IsMapSearch sizes image block → IsPlaceBlock sizes image dir block
  of_new : NeedsBlock image dir → IsLowestBlock sizes image (Some block) → IsPlaceBlock sizes image dir block
  map_of_new : (new : ℕ) → NeedsBlock image dir → IsLowestBlock sizes image (Some new) → block ≡ map_block new → IsPlaceBlock sizes image dir block

-- A directory has one entry more, last. A new block for it is the lowest free one, and its other places are as of a block
-- of zeros.
pub record Places (sizes : Numbers) (old new : Image) (dir : ℕ) (link : Link) : Type 0 where
  pub appends : Appends sizes old new dir link
  pub lowest : entries_of old dir % 16 ≡ 0 → IsLowestBlock sizes old (Some appends.block)
  pub zeros : entries_of old dir % 16 ≡ 0 → (j : ℕ) → j ≢ 0 → link_in (new.content appends.block) j ≡ link_in zero_content j

-- What came of an entry that was to be added, last. NoSpace: it needs a new block, and none is free.
abbrev pub PlaceSays : Numbers → Entries → Changes → Changes → ℕ → Link → changes.Change → Type 0
PlaceSays sizes found before after dir link (answers.Need block) = IsNeeded sizes found before (λ image b. IsPlaceBlock sizes image dir b) block.0
PlaceSays sizes found before after dir link answers.Done = Turns sizes found before after (λ old new. Places sizes old new dir link)
PlaceSays sizes found before after dir link answers.DirFull = Made sizes found before (λ image. entries_of image dir ≡ 192)
PlaceSays sizes found before after dir link answers.NoSpace = Made sizes found before (λ image. NeedsBlock image dir × IsLowestBlock sizes image None)
PlaceSays sizes found before after dir link answers.Odd = IsOdd sizes found

-- A block that an entry less of a directory needs: that of the node, that of the entry, the last one, and the block of
-- the map that has the last one's byte, where it then has no entry.
pub data IsRemoveBlock (sizes : Numbers) (image : Image) (dir place block : ℕ) : Type 0 where
  of_node : block ≡ node_block sizes dir → IsRemoveBlock sizes image dir place block
  of_entry : block ≡ item_block image dir place → IsRemoveBlock sizes image dir place block
  of_last : (last : ℕ) → last + 1 ≡ entries_of image dir → block ≡ item_block image dir last → IsRemoveBlock sizes image dir place block
  map_of_last : (last : ℕ) → last + 1 ≡ entries_of image dir → last % 16 ≡ 0 → block ≡ map_block (item_block image dir last) → IsRemoveBlock sizes image dir place block

-- A directory has lost the entry at a place; its node names no longer the block that is then without an entry.
pub record Removes (sizes : Numbers) (old new : Image) (dir place : ℕ) : Type 0 where
  pub size : ℕ
  pub blocks : List ℕ
  pub is : RemovesEntry sizes old new dir size place blocks
  pub named_no_longer : size % 16 ≡ 0 → slice_index blocks (size / 16) ≡ 0

-- what came of an entry that was to be removed: it is never full, nor without space
abbrev pub RemoveSays : Numbers → Entries → Changes → Changes → ℕ → ℕ → changes.Change → Type 0
RemoveSays sizes found before after dir place (answers.Need block) = IsNeeded sizes found before (λ image b. IsRemoveBlock sizes image dir place b) block.0
RemoveSays sizes found before after dir place answers.Done = Turns sizes found before after (λ old new. Removes sizes old new dir place)
RemoveSays sizes found before after dir place answers.DirFull = ⊥
RemoveSays sizes found before after dir place answers.NoSpace = ⊥
RemoveSays sizes found before after dir place answers.Odd = IsOdd sizes found

-- The last entry of a directory is put at a place before it; at its own place it stays.
pub record FillsHole (old new : Image) (dir place last : ℕ) : Type 0 where
  pub filled : place < last → link_in (new.content (item_block old dir place)) (place % 16) ≡ entry_at old dir last
  pub rest : (j : ℕ) → j ≢ place % 16 → link_in (new.content (item_block old dir place)) j ≡ link_in (old.content (item_block old dir place)) j
  pub content : (block : ℕ) → block ≢ item_block old dir place → new.content block ≡ old.content block
  pub node : (number : ℕ) → new.node number ≡ old.node number
  pub map : (block : ℕ) → new.map block ≡ old.map block

-- A directory's node has lost the last entry, and the block that it alone stood in is free.
pub record CutsLast (old new : Image) (dir last : ℕ) (node : Node) : Type 0 where
  pub blocks : List ℕ
  pub here : new.node dir ≡ Some (record { kind = kinds.Dir; size = last; blocks = blocks })
  pub same_blocks : (j : ℕ) → j < (last + 15) / 16 → slice_index blocks j ≡ slice_index node.blocks j
  pub named_no_longer : last % 16 ≡ 0 → slice_index blocks (last / 16) ≡ 0
  pub others : (other : ℕ) → other ≢ dir → new.node other ≡ old.node other
  pub content : (block : ℕ) → new.content block ≡ old.content block
  pub freed : last % 16 ≡ 0 → new.map (slice_index node.blocks (last / 16)) ≡ 0
  pub map : (block : ℕ) → (last % 16 ≡ 0 → block ≢ slice_index node.blocks (last / 16)) → new.map block ≡ old.map block

-- a block that this needs: that of the node, and the one of the map that has the freed block's byte
abbrev pub IsCutBlock : Numbers → ℕ → ℕ → Node → ℕ → Type 0
IsCutBlock sizes dir last node block = (block ≡ node_block sizes dir) ⊎ ((last % 16 ≡ 0) × (block ≡ map_block (slice_index node.blocks (last / 16))))

-- a block that a change needs is one of the image
abbrev pub ChangesWithin : Numbers → changes.Change → Type 0
ChangesWithin sizes (answers.Need block) = block.0 < sizes.blocks
ChangesWithin sizes _ = Unit {0}
