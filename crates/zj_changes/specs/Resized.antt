-- A node with more or fewer blocks, and what a directory's, a file's or a freed node's change is of that.
use Rattle.std.specs.Prelude.{◌≡◌, ◌≢◌, ◌⊎◌, ℕ, ◌+◌, ◌-◌, ◌/◌, ◌%◌, ◌<◌, ◌≤◌, List, length, replicate, Some, IsSome, slice_index, false, max}
use Rattle.zj_block.specs.Sizes.{Numbers}
use Rattle.zj_layout.specs.declared.fields.Kind.TheVariants as kinds
use Rattle.zj_layout.specs.declared.fields.Node.{Node}
use Rattle.zj_layout.specs.declared.fields.Link.{Link}
use Rattle.zj_layout.specs.Node.{link_in, byte_in, blocks_needed, most_items}
use Rattle.zj_layout.specs.Image.{Image, node_of, count_of, number_of, item_block, entry_at, byte_at_place, names_block}
use Rattle.zj_changes.specs.Entry.{WasFree}

-- One node is new. Its first blocks are those that it named; those behind them were free, each another; if it has fewer now,
-- the last are free. Nothing else in use has changed.
pub record Resizes (sizes : Numbers) (old new : Image) (number : ℕ) (node : Node) : Type 0 where
  pub within : number < sizes.nodes
  pub here : new.node number ≡ Some node
  pub others : (other : ℕ) → other ≢ number → new.node other ≡ old.node other
  pub few : node.size ≤ most_items node.kind
  pub root : number ≡ 0 → node.kind ≡ kinds.Dir
  pub kept : (j : ℕ) → j < blocks_needed node → j < count_of old number → slice_index node.blocks j ≡ number_of old number j
  pub grown : (j : ℕ) → j < blocks_needed node → count_of old number ≤ j → WasFree sizes old (slice_index node.blocks j)
  pub grown_apart : (j k : ℕ) → j < blocks_needed node → k < blocks_needed node → count_of old number ≤ j → count_of old number ≤ k → slice_index node.blocks j ≡ slice_index node.blocks k → j ≡ k
  pub entries : node.kind ≡ kinds.Dir → (place : ℕ) → place < node.size → IsSome (link_in (new.content (slice_index node.blocks (place / 16))) (place % 16))
  pub content : (block : ℕ) → old.map block ≡ 1 → names_block old block number ≡ false → new.content block ≡ old.content block
  pub taken : (j : ℕ) → j < blocks_needed node → count_of old number ≤ j → new.map (slice_index node.blocks j) ≡ 1
  pub freed : (j : ℕ) → blocks_needed node ≤ j → j < count_of old number → new.map (number_of old number j) ≡ 0
  pub map : (block : ℕ) → ((j : ℕ) → j < blocks_needed node → count_of old number ≤ j → slice_index node.blocks j ≢ block) → ((j : ℕ) → blocks_needed node ≤ j → j < count_of old number → number_of old number j ≢ block)
      → new.map block ≡ old.map block

-- A directory has one entry less. The last entry stands in the hole; the last block is free if it then has no entry.
pub record RemovesEntry (sizes : Numbers) (old new : Image) (dir size place : ℕ) (blocks : List ℕ) : Type 0 where
  pub within : dir < sizes.nodes
  pub directory : (node_of old dir).kind ≡ kinds.Dir
  pub size_is : (node_of old dir).size ≡ size + 1
  pub hole : place ≤ size
  pub node : new.node dir ≡ Some (record { kind = kinds.Dir; size = size; blocks = blocks })
  pub others : (other : ℕ) → other ≢ dir → new.node other ≡ old.node other
  pub same_blocks : (j : ℕ) → j < (size + 15) / 16 → slice_index blocks j ≡ number_of old dir j
  pub content : (block : ℕ) → block ≢ item_block old dir place → new.content block ≡ old.content block
  pub filled : place < size → link_in (new.content (item_block old dir place)) (place % 16) ≡ entry_at old dir size
  pub rest : (j : ℕ) → j < 16 → j ≢ place % 16 → link_in (new.content (item_block old dir place)) j ≡ link_in (old.content (item_block old dir place)) j
  pub freed : size % 16 ≡ 0 → new.map (number_of old dir (size / 16)) ≡ 0
  pub map : (block : ℕ) → (size % 16 ≡ 0 → block ≢ number_of old dir (size / 16)) → new.map block ≡ old.map block

-- A directory has another entry at a place.
pub record ReplacesEntry (sizes : Numbers) (old new : Image) (dir place : ℕ) (link : Link) : Type 0 where
  pub within : dir < sizes.nodes
  pub directory : (node_of old dir).kind ≡ kinds.Dir
  pub hole : place < (node_of old dir).size
  pub node : (number : ℕ) → new.node number ≡ old.node number
  pub content : (block : ℕ) → block ≢ item_block old dir place → new.content block ≡ old.content block
  pub stands : link_in (new.content (item_block old dir place)) (place % 16) ≡ Some link
  pub rest : (j : ℕ) → j < 16 → j ≢ place % 16 → link_in (new.content (item_block old dir place)) j ≡ link_in (old.content (item_block old dir place)) j
  pub map : (block : ℕ) → new.map block ≡ old.map block

-- a node whose bytes are all zero
abbrev pub zero_node : Node
zero_node = record { kind = kinds.Free; size = 0; blocks = replicate 12 0 }

-- A node is free now, and so are the blocks that it named.
pub record FreesNode (old new : Image) (number : ℕ) : Type 0 where
  pub here : new.node number ≡ Some zero_node
  pub others : (other : ℕ) → other ≢ number → new.node other ≡ old.node other
  pub content : (block : ℕ) → new.content block ≡ old.content block
  pub freed : (j : ℕ) → j < count_of old number → new.map (number_of old number j) ≡ 0
  pub map : (block : ℕ) → ((j : ℕ) → j < count_of old number → number_of old number j ≢ block) → new.map block ≡ old.map block

-- A file's node has a new size and blocks for it, and its bytes are these.
pub record SetsBytes (sizes : Numbers) (old new : Image) (file : ℕ) (blocks bytes : List ℕ) : Type 0 where
  pub was_file : (node_of old file).kind ≡ kinds.File
  pub resizes : Resizes sizes old new file (record { kind = kinds.File; size = length bytes; blocks = blocks })
  pub each : (k : ℕ) → k < length bytes → byte_in (new.content (slice_index blocks (k / 512))) (k % 512) ≡ slice_index bytes k

-- Bytes stand in a file from a place on, and all others are as they were.
pub record WritesRange (sizes : Numbers) (old new : Image) (file at : ℕ) (bytes blocks : List ℕ) : Type 0 where
  pub was_file : (node_of old file).kind ≡ kinds.File
  pub at_most : at ≤ (node_of old file).size
  pub resizes : Resizes sizes old new file (record { kind = kinds.File; size = max (node_of old file).size (at + length bytes); blocks = blocks })
  pub inside : (k : ℕ) → k < length bytes → byte_in (new.content (slice_index blocks ((at + k) / 512))) ((at + k) % 512) ≡ slice_index bytes k
  pub outside : (k : ℕ) → k < (node_of old file).size → (k < at) ⊎ (at + length bytes ≤ k) → byte_in (new.content (slice_index blocks (k / 512))) (k % 512) ≡ byte_at_place old file k

-- A file has its first bytes alone.
pub record CutsFile (sizes : Numbers) (old new : Image) (file size : ℕ) (blocks : List ℕ) : Type 0 where
  pub was_file : (node_of old file).kind ≡ kinds.File
  pub fewer : size ≤ (node_of old file).size
  pub resizes : Resizes sizes old new file (record { kind = kinds.File; size = size; blocks = blocks })
  pub content : (j : ℕ) → j < (size + 511) / 512 → new.content (number_of old file j) ≡ old.content (number_of old file j)

-- Of the blocks that a node names, those from one place up to another are free now, and all else is as it was.
pub record FreesBlocks (old new : Image) (number low high : ℕ) : Type 0 where
  pub freed : (j : ℕ) → low ≤ j → j < high → new.map (number_of old number j) ≡ 0
  pub map : (block : ℕ) → ((j : ℕ) → low ≤ j → j < high → number_of old number j ≢ block) → new.map block ≡ old.map block
  pub node : (other : ℕ) → new.node other ≡ old.node other
  pub content : (block : ℕ) → new.content block ≡ old.content block

-- A block whose first byte is at a place of a file has those bytes of a range of the file that lie in it, and else what it had.
pub record PutsBytes (was is : List ℕ) (from at : ℕ) (bytes : List ℕ) : Type 0 where
  pub inside : (i : ℕ) → i < 512 → at ≤ from + i → from + i < at + length bytes → byte_in is i ≡ slice_index bytes (from + i - at)
  pub outside : (i : ℕ) → i < 512 → (from + i < at) ⊎ (at + length bytes ≤ from + i) → byte_in is i ≡ byte_in was i

-- Bytes are written into a file from a place on, as far as some of its first blocks; its node is not yet new.
pub record WritesBlocks (sizes : Numbers) (old new : Image) (file at : ℕ) (bytes blocks : List ℕ) (count : ℕ) : Type 0 where
  pub node : (number : ℕ) → new.node number ≡ old.node number
  pub kept : (j : ℕ) → j < count_of old file → slice_index blocks j ≡ number_of old file j
  pub grown : (j : ℕ) → count_of old file ≤ j → j < count → WasFree sizes old (slice_index blocks j)
  pub grown_apart : (j k : ℕ) → count_of old file ≤ j → count_of old file ≤ k → j < count → k < count → slice_index blocks j ≡ slice_index blocks k → j ≡ k
  pub content : (block : ℕ) → old.map block ≡ 1 → names_block old block file ≡ false → new.content block ≡ old.content block
  pub taken : (j : ℕ) → count_of old file ≤ j → j < count → new.map (slice_index blocks j) ≡ 1
  pub map : (block : ℕ) → ((j : ℕ) → count_of old file ≤ j → j < count → slice_index blocks j ≢ block) → new.map block ≡ old.map block
  pub free : (block : ℕ) → new.map block ≡ 0 → old.map block ≡ 0
  pub inside : (k : ℕ) → k < length bytes → (at + k) / 512 < count → byte_in (new.content (slice_index blocks ((at + k) / 512))) ((at + k) % 512) ≡ slice_index bytes k
  pub outside : (k : ℕ) → k < (node_of old file).size → (k < at) ⊎ (at + length bytes ≤ k) → byte_in (new.content (slice_index blocks (k / 512))) (k % 512) ≡ byte_at_place old file k
