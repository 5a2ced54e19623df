-- A node and an entry as they stand in a block.
use Rattle.std.specs.Prelude.{ℕ, zero, suc, ◌+◌, ◌*◌, Bool, ◌&&◌, not, List, take, drop, map, Option, Some, None, slice_index, nat_le, ◌==◌, if◌then◌else◌}
use Rattle.std.specs.List.{list_all, range_with_len}
use Rattle.zj_block.specs.Block.{bytes_of, u32_at}
use Rattle.zj_tree.specs.Name.{is_name}
use Rattle.zj_tree.specs.Tree.{blocks_for}
use Rattle.zj_layout.specs.declared.fields.Kind.{Kind}
use Rattle.zj_layout.specs.declared.fields.Kind.TheVariants as kinds
use Rattle.zj_layout.specs.declared.fields.Node.{Node}
use Rattle.zj_layout.specs.declared.fields.Link.{Link}

abbrev pub kind_of : ℕ → Option Kind
kind_of zero = Some kinds.Free
kind_of (suc zero) = Some kinds.File
kind_of (suc (suc zero)) = Some kinds.Dir
kind_of _ = None

-- how many items of a node one block holds: bytes of a file, entries of a directory
abbrev pub per_block : Kind → ℕ
per_block kinds.Free = 1
per_block kinds.File = 512
per_block kinds.Dir = 16

-- how many items a node has at most
abbrev pub most_items : Kind → ℕ
most_items kinds.Free = 0
most_items kinds.File = 6144
most_items kinds.Dir = 192

-- how many blocks a node has for its items
abbrev pub blocks_needed : Node → ℕ
blocks_needed node = blocks_for node.size (per_block node.kind)

-- a node names as many blocks as it needs, first, and no other
abbrev pub is_node : Node → Bool
is_node node =
    nat_le node.size (most_items node.kind)
    && list_all (λ n. not (n == 0)) (take (blocks_needed node) node.blocks)
    && list_all (λ n. n == 0) (drop (blocks_needed node) node.blocks)

-- the twelve numbers of the node at a place of a block
abbrev pub numbers_at : List ℕ → ℕ → List ℕ
numbers_at content place = map (λ j. u32_at content (64 * place + 8 + 4 * j)) (range_with_len 0 12)

abbrev pub checked_node : Option Kind → ℕ → List ℕ → Bool → Option Node
checked_node None size blocks zeros = None
checked_node (Some kind) size blocks zeros =
    let node : Node = record { kind = kind; size = size; blocks = blocks } in
    if zeros && is_node node then Some node else None

-- the node at a place of a block, if its bytes are those of one
unfoldable pub node_in : List ℕ → ℕ → Option Node
node_in content place =
    checked_node (kind_of (u32_at content (64 * place))) (u32_at content (64 * place + 4)) (numbers_at content place)
    (u32_at content (64 * place + 56) == 0 && u32_at content (64 * place + 60) == 0)

abbrev pub checked_link : ℕ → ℕ → ℕ → List ℕ → Option Link
checked_link node len zero_byte field =
    if nat_le len 26 && zero_byte == 0 && list_all (λ b. b == 0) (drop len field) && is_name (take len field)
    then Some (record { node = node; name = take len field })
    else None

-- the 26 bytes from a place on
abbrev pub field_at : List ℕ → ℕ → List ℕ
field_at content at = map (λ j. slice_index (bytes_of content) (at + j)) (range_with_len 0 26)

-- the entry at a place of a block, if its bytes are those of one
unfoldable pub link_in : List ℕ → ℕ → Option Link
link_in content place =
    checked_link (u32_at content (32 * place)) (slice_index (bytes_of content) (32 * place + 4)) (slice_index (bytes_of content) (32 * place + 5)) (field_at content (32 * place + 6))

-- the byte at a place of a block
unfoldable pub byte_in : List ℕ → ℕ → ℕ
byte_in content place = slice_index (bytes_of content) place
