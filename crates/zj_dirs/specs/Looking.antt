-- What looks at taken blocks, with the written ones put in, say of every made state.
use Rattle.std.specs.Prelude.{◌≡◌, ◌≢◌, ℕ, ◌+◌, ◌*◌, ◌<◌, List, Option, Some, None}
use Rattle.zj_block.specs.Lists.{Entries}
use Rattle.zj_block.specs.Sizes.{Numbers, map_blocks, node_blocks}
use Rattle.zj_layout.specs.declared.fields.Kind.TheVariants as kinds
use Rattle.zj_layout.specs.Graph.{link_at, step}
use Rattle.zj_layout.specs.Node.{byte_in, node_in}
use Rattle.zj_layout.specs.declared.fields.Link.{Link}
use Rattle.zj_layout.specs.declared.fields.Node.{Node}
use Rattle.zj_layout.specs.Image.{Image, entry_at, graph_of, node_of}
use Rattle.zj_layout.specs.Shows.{Changes}
use Rattle.zj_dirs.specs.declared.answers.Entry as entries
use Rattle.zj_dirs.specs.declared.answers.Find as finds
use Rattle.zj_dirs.specs.declared.answers.Find.TheVariants as answers
use Rattle.zj_dirs.specs.Possible.{IsNeeded, IsOdd, Made}
use Rattle.zj_dirs.specs.Walking.{IsStepBlock}

-- An entry of a name stands at a place of a directory and leads to a node, and it is the one that the name leads by.
pub record StandsAt (image : Image) (dir : ℕ) (name : List ℕ) (place node : ℕ) : Type 0 where
  pub stands : link_at (graph_of image) dir place ≡ Some (record { node = node; name = name })
  pub leads : step (graph_of image) dir name ≡ Some node

-- An entry of another name stands at a place of a directory.
pub record HasOther (image : Image) (dir place : ℕ) (name : List ℕ) : Type 0 where
  pub link : Link
  pub stands : entry_at image dir place ≡ Some link
  pub other : link.name ≢ name

-- the entry of a name, or that there is none
abbrev pub IsEntry : Image → ℕ → List ℕ → Option entries.Entry → Type 0
IsEntry image dir name (Some entry) = StandsAt image dir name entry.place entry.node
IsEntry image dir name None = step (graph_of image) dir name ≡ None

-- what a search for a name answers
abbrev pub FindSays : Numbers → Entries → Changes → ℕ → List ℕ → finds.Find → Type 0
FindSays sizes found written dir name (answers.Need block) = IsNeeded sizes found written (λ image b. IsStepBlock sizes image dir name b) block.0
FindSays sizes found written dir name (answers.Found place node) = Made sizes found written (λ image. StandsAt image dir name place node)
FindSays sizes found written dir name answers.Absent = Made sizes found written (λ image. step (graph_of image) dir name ≡ None)
FindSays sizes found written dir name answers.Odd = IsOdd sizes found

-- the lowest free node, or that there is none
abbrev pub IsLowestNode : Numbers → Image → Option ℕ → Type 0
IsLowestNode sizes image (Some number) = (number < sizes.nodes) × ((node_of image number).kind ≡ kinds.Free) × ((lower : ℕ) → lower < number → (node_of image lower).kind ≢ kinds.Free)
IsLowestNode sizes image None = (number : ℕ) → number < sizes.nodes → (node_of image number).kind ≢ kinds.Free

-- the node at a place of a block is free, or is not
abbrev pub IsFreeAt : List ℕ → ℕ → Type 0
IsFreeAt content place = (node : Node) → node_in content place ≡ Some node → node.kind ≡ kinds.Free

abbrev pub IsUsedAt : List ℕ → ℕ → Type 0
IsUsedAt content place = (node : Node) → node_in content place ≡ Some node → node.kind ≢ kinds.Free

-- a block of nodes, where no node of the blocks before it is free
abbrev pub IsNodeSearch : Numbers → Image → ℕ → Type 0
IsNodeSearch sizes image block = (k : ℕ) × (k < node_blocks sizes) × (block ≡ map_blocks sizes + k) × ((number : ℕ) → number < 8 * k → (node_of image number).kind ≢ kinds.Free)

-- the lowest free block, or that there is none
abbrev pub IsLowestBlock : Numbers → Image → Option ℕ → Type 0
IsLowestBlock sizes image (Some block) = (block < sizes.blocks) × (image.map block ≡ 0) × ((lower : ℕ) → lower < block → image.map lower ≢ 0)
IsLowestBlock sizes image None = (block : ℕ) → block < sizes.blocks → image.map block ≢ 0

-- a block of the map, where no block that the ones before it tell of is free
abbrev pub IsMapSearch : Numbers → Image → ℕ → Type 0
IsMapSearch sizes image block = (block < map_blocks sizes) × ((lower : ℕ) → lower < 512 * block → image.map lower ≢ 0)

-- the lowest of a block's first bytes that is 0, or that there is none
abbrev pub IsLowestZero : List ℕ → ℕ → Option ℕ → Type 0
IsLowestZero content count (Some place) = (place < count) × (byte_in content place ≡ 0) × ((lower : ℕ) → lower < place → byte_in content lower ≢ 0)
IsLowestZero content count None = (place : ℕ) → place < count → byte_in content place ≢ 0

-- a block that a search for a name needs is one of the image
abbrev pub FindsWithin : Numbers → finds.Find → Type 0
FindsWithin sizes (answers.Need block) = block.0 < sizes.blocks
FindsWithin sizes _ = Unit {0}
