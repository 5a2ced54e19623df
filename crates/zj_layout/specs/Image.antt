-- The three tables of an image, as its blocks have them: its nodes, the contents of its data blocks, and its map.
use Rattle.std.specs.Prelude.{ℕ, Bool, ◌+◌, ◌/◌, ◌%◌, ◌&&◌, ◌==◌, List, [], map, Option, None, slice_index, slice_index_or, nat_lt, nat_le, if◌then◌else◌}
use Rattle.std.specs.List.{range_with_len, list_any}
use Rattle.std.specs.Option.{unwrap_or}
use Rattle.zj_block.specs.Block.{zero_content}
use Rattle.zj_block.specs.Sizes.{Numbers, map_blocks, first_data}
use Rattle.zj_layout.specs.declared.fields.Kind.{Kind}
use Rattle.zj_layout.specs.declared.fields.Kind.TheVariants as kinds
use Rattle.zj_layout.specs.declared.fields.Node.{Node}
use Rattle.zj_layout.specs.declared.fields.Link.{Link}
use Rattle.zj_layout.specs.Node.{node_in, link_in, byte_in, blocks_needed, per_block}
use Rattle.zj_layout.specs.Graph.{Holding, Nothing, Bytes, Links, Graph}

-- the blocks of an image, by their numbers
abbrev pub State : Type 0
State = List (List ℕ)

abbrev pub block_at : State → ℕ → List ℕ
block_at state block = slice_index_or state block zero_content

-- The tables: the node with a number, if its bytes are those of one; the content of a data block; the byte of the map
-- for a block.
pub record Image : Type 0 where
  pub node : ℕ → Option Node
  pub content : ℕ → List ℕ
  pub map : ℕ → ℕ

-- the block that a node stands in
abbrev pub node_block : Numbers → ℕ → ℕ
node_block sizes node = map_blocks sizes + node / 8

-- the block that the map's byte for a block stands in
abbrev pub map_block : ℕ → ℕ
map_block block = block / 512

-- whether a block is for data
abbrev pub is_data : Numbers → ℕ → Bool
is_data sizes block = nat_le (first_data sizes) block && nat_lt block sizes.blocks

-- the tables of a state
abbrev pub image_of : Numbers → State → Image
image_of sizes state = record {
  node = λ node. if nat_lt node sizes.nodes then node_in (block_at state (node_block sizes node)) (node % 8) else None;
  content = λ block. if is_data sizes block then block_at state block else [];
  map = λ block. if nat_lt block sizes.blocks then byte_in (block_at state (map_block block)) (block % 512) else 0;
}

-- a free node, which stands for one whose bytes are none
abbrev pub free_node : Node
free_node = record { kind = kinds.Free; size = 0; blocks = [] }

abbrev pub node_of : Image → ℕ → Node
node_of image node = unwrap_or (image.node node) free_node

-- how many blocks a node names
abbrev pub count_of : Image → ℕ → ℕ
count_of image node = blocks_needed (node_of image node)

-- the number of the block that a node names at a place, in the order of reading
abbrev pub number_of : Image → ℕ → ℕ → ℕ
number_of image node j = slice_index (node_of image node).blocks j

-- the block that has an item of a node, by the item's place: a byte of a file, an entry of a directory
abbrev pub item_block : Image → ℕ → ℕ → ℕ
item_block image node place = number_of image node (place / per_block (node_of image node).kind)

-- the entry at a place of a directory, if its bytes are those of one
abbrev pub entry_at : Image → ℕ → ℕ → Option Link
entry_at image dir place = link_in (image.content (item_block image dir place)) (place % 16)

-- what stands for an entry whose bytes are none
abbrev pub no_link : Link
no_link = record { node = 0; name = [] }

abbrev pub link_or_none : Image → ℕ → ℕ → Link
link_or_none image dir place = unwrap_or (entry_at image dir place) no_link

abbrev pub byte_at_place : Image → ℕ → ℕ → ℕ
byte_at_place image file place = byte_in (image.content (item_block image file place)) (place % 512)

-- what a node of a kind and a size holds: nothing, or its items in order
abbrev pub held : Kind → ℕ → (ℕ → ℕ) → (ℕ → Link) → Holding
held kinds.Free size byte link = Nothing
held kinds.File size byte link = Bytes (map byte (range_with_len 0 size))
held kinds.Dir size byte link = Links (map link (range_with_len 0 size))

-- what a node holds
abbrev pub holding_at : Image → ℕ → Holding
holding_at image node = held (node_of image node).kind (node_of image node).size (byte_at_place image node) (link_or_none image node)

abbrev pub graph_of : Image → Graph
graph_of image = λ node. holding_at image node

-- whether a node names a block, and whether one of so many nodes does
abbrev pub names_block : Image → ℕ → ℕ → Bool
names_block image block node = list_any (λ j. number_of image node j == block) (range_with_len 0 (count_of image node))

abbrev pub is_named : ℕ → Image → ℕ → Bool
is_named nodes image block = list_any (names_block image block) (range_with_len 0 nodes)
