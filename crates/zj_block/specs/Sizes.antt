-- The sizes of an image as numbers, and what follows from them.
use Rattle.std.specs.Prelude.{◌≡◌, ℕ, ◌+◌, ◌-◌, ◌*◌, ◌/◌, ◌%◌, ◌<◌, ◌≤◌, ◌==◌, ◌&&◌, Bool, [], ◌∷◌, Option, nat_le, nat_lt}
use Rattle.zj_block.specs.Faults.{fault_unless, first_fault}
use Rattle.zj_block.specs.declared.sizes.SizesField.{SizesField}
use Rattle.zj_block.specs.declared.sizes.SizesField.TheVariants as field
use Rattle.zj_block.specs.declared.sizes.TheConstants.{BLOCKS_PER_MAP_BLOCK, MAX_AREA, MAX_BLOCKS, MAX_CORES, MAX_NODES, MAX_RECORD_BLOCKS, MIN_BLOCKS, MIN_CORES, MIN_NODES, NODES_PER_BLOCK, RECORD_BLOCK_LEN, RECORD_BOUND_LEN, RECORD_HEAD_LEN, VERSION}

-- the numbers that an image is made with: its version, its blocks, nodes and cores, and a journal's area in bytes
pub record Numbers : Type 0 where
  pub version : ℕ
  pub blocks : ℕ
  pub nodes : ℕ
  pub cores : ℕ
  pub area : ℕ

-- the numbers, one by one
abbrev pub numbers_of : ℕ → ℕ → ℕ → ℕ → ℕ → Numbers
numbers_of version blocks nodes cores area = record { version = version; blocks = blocks; nodes = nodes; cores = cores; area = area }

-- the bytes of a longest record: its head, a bound for each core, and its blocks, each of 512 bytes behind 16 of its own
abbrev pub max_record : Numbers → ℕ
max_record n = RECORD_HEAD_LEN + RECORD_BOUND_LEN * n.cores + RECORD_BLOCK_LEN * MAX_RECORD_BLOCKS

-- the blocks of the map, which has a byte for each block of the image
abbrev pub map_blocks : Numbers → ℕ
map_blocks n = (n.blocks + (BLOCKS_PER_MAP_BLOCK - 1)) / BLOCKS_PER_MAP_BLOCK

-- the blocks of the nodes
abbrev pub node_blocks : Numbers → ℕ
node_blocks n = n.nodes / NODES_PER_BLOCK

-- the first block behind the map and the nodes
abbrev pub first_data : Numbers → ℕ
first_data n = map_blocks n + node_blocks n

-- how many blocks there are for data
abbrev pub room : Numbers → ℕ
room n = n.blocks - first_data n

-- each number is within its limits, a block is left for data, and an area has room for two longest records
pub record IsInLimits (n : Numbers) : Type 0 where
  pub one_version : n.version ≡ VERSION
  pub least_blocks : MIN_BLOCKS ≤ n.blocks
  pub most_blocks : n.blocks ≤ MAX_BLOCKS
  pub least_nodes : MIN_NODES ≤ n.nodes
  pub most_nodes : n.nodes ≤ MAX_NODES
  pub whole_nodes : n.nodes % NODES_PER_BLOCK ≡ 0
  pub least_cores : MIN_CORES ≤ n.cores
  pub most_cores : n.cores ≤ MAX_CORES
  pub some_data : first_data n < n.blocks
  pub least_area : 2 * max_record n ≤ n.area
  pub most_area : n.area ≤ MAX_AREA

-- whether a number is within two limits
abbrev pub is_within : ℕ → ℕ → ℕ → Bool
is_within least most n = nat_le least n && nat_le n most

-- The first number that is outside its limits. That no block is left for data is told of the blocks, and that an area has no
-- room for two longest records of the area.
abbrev pub out_of_range : Numbers → Option SizesField
out_of_range n = first_fault (
    fault_unless (n.version == VERSION) field.Version ∷
    fault_unless (is_within MIN_CORES MAX_CORES n.cores) field.Cores ∷
    fault_unless (is_within MIN_BLOCKS MAX_BLOCKS n.blocks && nat_lt (first_data n) n.blocks) field.Blocks ∷
    fault_unless (is_within MIN_NODES MAX_NODES n.nodes && n.nodes % NODES_PER_BLOCK == 0) field.Nodes ∷
    fault_unless (is_within (2 * max_record n) MAX_AREA n.area) field.Area ∷ [])
