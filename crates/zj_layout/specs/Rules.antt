-- The six rules that the tables of an image meet where they show a tree, each by the block that it names.
use Rattle.std.specs.Prelude.{◌≡◌, ◌≢◌, ◌⊎◌, ℕ, zero, suc, ◌<◌, ◌≤◌, ◌||◌, List, Some, IsSome, nat_lt, if◌then◌else◌}
use Rattle.zj_block.specs.Sizes.{Numbers, first_data}
use Rattle.zj_layout.specs.declared.fields.Kind.TheVariants as kinds
use Rattle.zj_layout.specs.declared.fields.Link.{Link}
use Rattle.zj_layout.specs.Node.{most_items}
use Rattle.zj_layout.specs.Graph.{IsLive, follow, link_at}
use Rattle.zj_layout.specs.Image.{Image, node_block, map_block, node_of, count_of, number_of, item_block, entry_at, graph_of, is_named}

-- Rule 1: each node is one, its blocks are for data, and node 0 is a directory.
pub record IsPlaced (sizes : Numbers) (image : Image) (number : ℕ) : Type 0 where
  pub some : IsSome (image.node number)
  pub few : (node_of image number).size ≤ most_items (node_of image number).kind
  pub in_data : (j : ℕ) → j < count_of image number → (first_data sizes ≤ number_of image number j) × (number_of image number j < sizes.blocks)
  pub root : number ≡ 0 → (node_of image number).kind ≡ kinds.Dir

abbrev pub Rule1 : Numbers → Image → ℕ → Type 0
Rule1 sizes image block = (number : ℕ) → number < sizes.nodes → node_block sizes number ≡ block → IsPlaced sizes image number

-- Rule 2: no block is named twice, reading the nodes and their blocks in order.
abbrev pub Rule2 : Numbers → Image → ℕ → Type 0
Rule2 sizes image block = (number j earlier k : ℕ) → number < sizes.nodes → node_block sizes number ≡ block → j < count_of image number → k < count_of image earlier
    → (earlier < number) ⊎ ((earlier ≡ number) × (k < j)) → number_of image number j ≢ number_of image earlier k

-- a directory has an entry at a place
pub record HasPlace (image : Image) (dir place : ℕ) : Type 0 where
  pub directory : (node_of image dir).kind ≡ kinds.Dir
  pub within : place < (node_of image dir).size

-- Rule 3: each entry is one, and leads to a node that is there, is not free and is not the root.
abbrev pub Rule3 : Numbers → Image → ℕ → Type 0
Rule3 sizes image block = (dir place : ℕ) → HasPlace image dir place → item_block image dir place ≡ block
    → (l : Link) × (entry_at image dir place ≡ Some l) × (l.node < sizes.nodes) × (l.node ≢ 0) × IsLive (graph_of image l.node)

-- Rule 4: no name stands twice in a directory.
abbrev pub Rule4 : Image → ℕ → Type 0
Rule4 image block = (dir place earlier : ℕ) (l m : Link) → link_at (graph_of image) dir place ≡ Some l → item_block image dir place ≡ block → earlier < place → link_at (graph_of image) dir earlier ≡ Some m → l.name ≢ m.name

-- a node has exactly one entry
pub record HasOneEntry (image : Image) (number : ℕ) : Type 0 where
  pub dir : ℕ
  pub place : ℕ
  pub link : Link
  pub stands : link_at (graph_of image) dir place ≡ Some link
  pub leads : link.node ≡ number
  pub alone : (other at : ℕ) (l : Link) → link_at (graph_of image) other at ≡ Some l → l.node ≡ number → (other ≡ dir) × (at ≡ place)

-- Rule 5: each node but the root that is not free has exactly one entry, and is reached from the root.
abbrev pub Rule5 : Numbers → Image → ℕ → Type 0
Rule5 sizes image block = (number : ℕ) → number < sizes.nodes → node_block sizes number ≡ block → number ≢ 0 → IsLive (graph_of image number)
    → HasOneEntry image number × ((path : List (List ℕ)) × (follow (graph_of image) 0 path ≡ Some number))

-- Rule 6: the map has 1 for a block that is not for data or that a node names, and else 0.
abbrev pub Rule6 : Numbers → Image → ℕ → Type 0
Rule6 sizes image block = (b : ℕ) → b < sizes.blocks → map_block b ≡ block → image.map b ≡ (if nat_lt b (first_data sizes) || is_named sizes.nodes image b then 1 else 0)

-- the rule with a number from 1 to 6
abbrev pub Rule : ℕ → Numbers → Image → ℕ → Type 0
Rule (suc zero) sizes image block = Rule1 sizes image block
Rule (suc (suc zero)) sizes image block = Rule2 sizes image block
Rule (suc (suc (suc zero))) sizes image block = Rule3 sizes image block
Rule (suc (suc (suc (suc zero)))) sizes image block = Rule4 image block
Rule (suc (suc (suc (suc (suc zero))))) sizes image block = Rule5 sizes image block
Rule (suc (suc (suc (suc (suc (suc zero)))))) sizes image block = Rule6 sizes image block
Rule _ sizes image block = Unit {0}

-- The rules but the fifth say that nodes, blocks and map fit each other, entry by entry.
pub record IsLaidOut (sizes : Numbers) (image : Image) : Type 0 where
  pub nodes : (block : ℕ) → Rule1 sizes image block
  pub named_once : (block : ℕ) → Rule2 sizes image block
  pub entries : (block : ℕ) → Rule3 sizes image block
  pub names : (block : ℕ) → Rule4 image block
  pub mapped : (block : ℕ) → Rule6 sizes image block

-- an image that shows a tree
pub record IsSound (sizes : Numbers) (image : Image) : Type 0 where
  pub laid_out : IsLaidOut sizes image
  pub linked : (block : ℕ) → Rule5 sizes image block

-- This is the first rule that fails, in order, and the lowest block for which it fails.
pub record FailsFirst (sizes : Numbers) (image : Image) (rule block : ℕ) : Type 0 where
  pub known : (1 ≤ rule) × (rule ≤ 6)
  pub fails : ¬ (Rule rule sizes image block)
  pub first : (lower : ℕ) → lower < rule → (b : ℕ) → Rule lower sizes image b
  pub lowest : (b : ℕ) → b < block → Rule rule sizes image b
