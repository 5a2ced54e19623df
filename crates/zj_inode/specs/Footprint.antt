-- The blocks that a call may take, in a state.
use Rattle.std.specs.Prelude.{◌≡◌, ◌≢◌, ◌⊎◌, ℕ, ◌+◌, ◌-◌, ◌*◌, ◌/◌, ◌%◌, ◌<◌, ◌≤◌, List, length, Some, None, slice_get, ◌==◌, if◌then◌else◌, max}
use Rattle.std.specs.List.{count_by, range_with_len}
use Rattle.zj_block.specs.Sizes.{Numbers, map_blocks, node_blocks}
use Rattle.zj_tree.specs.declared.call.Call.{Call}
use Rattle.zj_tree.specs.declared.call.Call.TheVariants as calls
use Rattle.zj_tree.specs.Apply.{paths_of}
use Rattle.zj_tree.specs.Path.{parent, last_name, same_path}
use Rattle.zj_tree.specs.Tree.{blocks_for}
use Rattle.zj_layout.specs.declared.fields.Kind.TheVariants as kinds
use Rattle.zj_layout.specs.declared.fields.Link.{Link}
use Rattle.zj_layout.specs.declared.fields.Node.{Node}
use Rattle.zj_layout.specs.Node.{per_block}
use Rattle.zj_layout.specs.Graph.{follow, step, link_at}
use Rattle.zj_layout.specs.Image.{Image, graph_of, node_of, node_block, map_block, item_block, count_of, number_of}
use Rattle.zj_layout.specs.Rules.{HasPlace}
use Rattle.zj_dirs.specs.Walking.{IsOnTheWay}

-- a path of a call
abbrev pub IsPathOf : Call → List (List ℕ) → Type 0
IsPathOf call path = (k : ℕ) × (slice_get (paths_of call) k ≡ Some path)

-- a path leads to a node, to a directory, and to a file
abbrev pub LeadsTo : Image → List (List ℕ) → ℕ → Type 0
LeadsTo image path node = follow (graph_of image) 0 path ≡ Some node

pub record LeadsToDir (image : Image) (path : List (List ℕ)) (dir : ℕ) : Type 0 where
  pub leads : LeadsTo image path dir
  pub directory : (node_of image dir).kind ≡ kinds.Dir

pub record LeadsToFile (image : Image) (path : List (List ℕ)) (file : ℕ) : Type 0 where
  pub leads : LeadsTo image path file
  pub is_file : (node_of image file).kind ≡ kinds.File

abbrev pub size_of : Image → ℕ → ℕ
size_of image node = (node_of image node).size

abbrev pub kind_is_dir : Image → ℕ → Type 0
kind_is_dir image node = (node_of image node).kind ≡ kinds.Dir

-- A new entry of a path goes into a directory: there is none of the name yet.
pub record AddsEntry (image : Image) (path : List (List ℕ)) (dir : ℕ) : Type 0 where
  pub below : 0 < length path
  pub leads : LeadsToDir image (parent path) dir
  pub absent : step (graph_of image) dir (last_name path) ≡ None

-- the calls that make a node
abbrev pub Makes : Call → List (List ℕ) → Type 0
Makes (calls.Mkdir path) new = path ≡ new
Makes (calls.Create path) new = path ≡ new
Makes _ new = ⊥

-- the calls that add an entry of a path
abbrev pub Adds : Call → List (List ℕ) → Type 0
Adds (calls.Rename from to) new = to ≡ new
Adds call new = Makes call new

-- the calls that remove an entry of a path
abbrev pub Removes : Call → List (List ℕ) → Type 0
Removes (calls.Unlink path) old = path ≡ old
Removes (calls.Rmdir path) old = path ≡ old
Removes (calls.Rename from to) old = from ≡ old
Removes _ old = ⊥

-- the nodes whose entry a call removes: unlink a file's, rmdir an empty directory's, and rename any
abbrev pub RemovesNode : Call → Node → Type 0
RemovesNode (calls.Unlink path) node = node.kind ≡ kinds.File
RemovesNode (calls.Rmdir path) node = (node.kind ≡ kinds.Dir) × (node.size ≡ 0)
RemovesNode _ node = Unit {0}

-- an entry of a path stands at a place of a directory
pub record HasEntry (image : Image) (path : List (List ℕ)) (dir place : ℕ) : Type 0 where
  pub below : 0 < length path
  pub leads : LeadsToDir image (parent path) dir
  pub link : Link
  pub stands : link_at (graph_of image) dir place ≡ Some link
  pub name : link.name ≡ last_name path

-- an entry that a call removes
pub record RemovesEntry (image : Image) (call : Call) (dir place : ℕ) : Type 0 where
  pub path : List (List ℕ)
  pub removes : Removes call path
  pub entry : HasEntry image path dir place
  pub gone : RemovesNode call (node_of image entry.link.node)

-- how many blocks one item more needs
abbrev pub one_more : ℕ → ℕ
one_more size = if size % 16 == 0 then 1 else 0

-- The directory has room for one entry more, as for one that a rename takes from it.
abbrev pub HasRoom : Image → Call → ℕ → Type 0
HasRoom image (calls.Rename from to) dir = (parent from ≡ parent to) ⊎ (size_of image dir < 192)
HasRoom image call dir = size_of image dir < 192

-- how many entries the directory has as the new one is added: a rename within it has taken one away
abbrev pub size_before : Image → Call → ℕ → ℕ
size_before image (calls.Rename from to) dir = if same_path (parent from) (parent to) then size_of image dir - 1 else size_of image dir
size_before image call dir = size_of image dir

-- A call needs so many new blocks: a write that begins within its file and ends within the longest one, and an entry for
-- which the directory has room.
abbrev pub NeedsBlocks : Image → Call → ℕ → Type 0
NeedsBlocks image (calls.Write path at bytes) count =
    (file : ℕ) × LeadsToFile image path file × (at ≤ size_of image file) × (at + length bytes ≤ 6144) × (count ≡ blocks_for (max (size_of image file) (at + length bytes)) 512 - blocks_for (size_of image file) 512)
NeedsBlocks image call count = (path : List (List ℕ)) × (dir : ℕ) × Adds call path × AddsEntry image path dir × HasRoom image call dir × (count ≡ one_more (size_before image call dir))

-- A call frees the last block of a directory, which loses the only entry in it.
pub record Shrinks (image : Image) (call : Call) (block : ℕ) : Type 0 where
  pub dir : ℕ
  pub place : ℕ
  pub entry : RemovesEntry image call dir place
  pub alone : size_of image dir % 16 ≡ 1
  pub last : block ≡ item_block image dir (size_of image dir - 1)

-- the blocks of a file that is removed or replaced, and those of one that is cut, from its new end on
abbrev pub FreesOf : Image → Call → ℕ → Type 0
FreesOf image (calls.Unlink path) block = (file j : ℕ) × LeadsToFile image path file × (j < count_of image file) × (number_of image file j ≡ block)
FreesOf image (calls.Rename from to) block = (file j : ℕ) × LeadsToFile image to file × (j < count_of image file) × (number_of image file j ≡ block)
FreesOf image (calls.Truncate path size) block = (file j : ℕ) × LeadsToFile image path file × (blocks_for size 512 ≤ j) × (j < count_of image file) × (number_of image file j ≡ block)
FreesOf image _ block = ⊥

-- how many blocks below a number are free
abbrev pub free_below : Image → ℕ → ℕ
free_below image n = count_by (λ b. image.map b == 0) (range_with_len 0 n)

-- the range of bytes that a call reads or writes
abbrev pub range_of : Call → ℕ × ℕ
range_of (calls.Write path at bytes) = (at, length bytes)
range_of (calls.Read path at count) = (at, count)
range_of _ = (0, 0)

-- a node names a block for the item at a place, also where that is a place behind the last item
abbrev pub HasBlockFor : Image → ℕ → ℕ → Type 0
HasBlockFor image node place = place / per_block (node_of image node).kind < count_of image node

-- The blocks that a call may take in the state with these tables, one case for each reason: those of a range only of a
-- file, the last one of a directory only where it has room for the new entry, and those of an entry only where its node is
-- one that the call removes.
pub data Foot (sizes : Numbers) (image : Image) (call : Call) (block : ℕ) : Type 0 where
  the_root : block ≡ node_block sizes 0 → Foot sizes image call block
  on_the_way : (path : List (List ℕ)) → IsPathOf call path → IsOnTheWay sizes image path block → Foot sizes image call block
  found : (path : List (List ℕ)) (node : ℕ) → IsPathOf call path → LeadsTo image path node → block ≡ node_block sizes node → Foot sizes image call block
  listed : (path : List (List ℕ)) (dir place : ℕ) → call ≡ calls.List path → LeadsTo image path dir → HasPlace image dir place → block ≡ item_block image dir place → Foot sizes image call block
  in_range : (path : List (List ℕ)) (file k : ℕ) → IsPathOf call path → LeadsToFile image path file → (range_of call).0 ≤ k → k < (range_of call).0 + (range_of call).1 → HasBlockFor image file k → block ≡ item_block image file k → Foot sizes image call block
  last_of_parent : (path : List (List ℕ)) (dir : ℕ) → Adds call path → AddsEntry image path dir → HasRoom image call dir → 0 < size_of image dir → block ≡ item_block image dir (size_of image dir - 1) → Foot sizes image call block
  removed : (dir place : ℕ) → RemovesEntry image call dir place → (block ≡ item_block image dir place) ⊎ (block ≡ item_block image dir (size_of image dir - 1)) → Foot sizes image call block
  free_node : (path : List (List ℕ)) (dir k : ℕ) → Makes call path → AddsEntry image path dir → HasRoom image call dir → k < node_blocks sizes → block ≡ map_blocks sizes + k
      → ((node : ℕ) → node < 8 * k → (node_of image node).kind ≢ kinds.Free) → Foot sizes image call block
  map_of_freed : (freed : ℕ) → FreesOf image call freed ⊎ Shrinks image call freed → block ≡ map_block freed → Foot sizes image call block
  map_of_new : (count : ℕ) → NeedsBlocks image call count → block < map_blocks sizes → free_below image (512 * block) < count → Foot sizes image call block
  new : (count : ℕ) → NeedsBlocks image call count → image.map block ≡ 0 → block < sizes.blocks → free_below image block < count → Foot sizes image call block
