-- A directory's nodes and blocks with one entry more.
use Rattle.std.specs.Prelude.{◌≡◌, ◌≢◌, ◌⊎◌, ℕ, ◌+◌, ◌/◌, ◌%◌, ◌<◌, ◌≤◌, List, Some, slice_index}
use Rattle.zj_block.specs.Sizes.{Numbers, first_data}
use Rattle.zj_layout.specs.declared.fields.Kind.TheVariants as kinds
use Rattle.zj_layout.specs.declared.fields.Link.{Link}
use Rattle.zj_layout.specs.Node.{link_in}
use Rattle.zj_layout.specs.Image.{Image, node_of, count_of, number_of}

-- a block that was free
pub record WasFree (sizes : Numbers) (old : Image) (block : ℕ) : Type 0 where
  pub free : old.map block ≡ 0
  pub above : first_data sizes ≤ block
  pub below : block < sizes.blocks

-- The directory's node has one entry more. The entry stands last, in the last block that the node named, or in a block
-- that was free if that one is full. In the map that block is in use.
pub record AppendsEntry (sizes : Numbers) (old new : Image) (dir size : ℕ) (blocks : List ℕ) (block : ℕ) (link : Link) : Type 0 where
  pub within : dir < sizes.nodes
  pub directory : (node_of old dir).kind ≡ kinds.Dir
  pub size_is : (node_of old dir).size ≡ size
  pub fits : size < 192
  pub node : new.node dir ≡ Some (record { kind = kinds.Dir; size = size + 1; blocks = blocks })
  pub others : (other : ℕ) → other ≢ dir → new.node other ≡ old.node other
  pub same_blocks : (j : ℕ) → j < count_of old dir → slice_index blocks j ≡ number_of old dir j
  pub block_is : slice_index blocks (size / 16) ≡ block
  pub status : (size % 16 ≢ 0) ⊎ ((size % 16 ≡ 0) × WasFree sizes old block)
  pub content : (other : ℕ) → other ≢ block → new.content other ≡ old.content other
  pub stands : link_in (new.content block) (size % 16) ≡ Some link
  pub before : (j : ℕ) → j < size % 16 → link_in (new.content block) j ≡ link_in (old.content block) j
  pub marked : new.map block ≡ 1
  pub map : (other : ℕ) → other ≢ block → new.map other ≡ old.map other

-- The same, without its numbers.
pub record Appends (sizes : Numbers) (old new : Image) (dir : ℕ) (link : Link) : Type 0 where
  pub size : ℕ
  pub blocks : List ℕ
  pub block : ℕ
  pub is : AppendsEntry sizes old new dir size blocks block link
