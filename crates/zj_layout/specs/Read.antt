-- What is known of the blocks of an image as it is read, rule by rule.
use Rattle.std.specs.Prelude.{◌≡◌, ◌≢◌, ◌⊎◌, ℕ, ◌<◌, ◌≤◌, ◌||◌, ◌==◌, Bool, List, length, Some, slice_index_or, slice_index, false}
use Rattle.std.specs.List.{list_any}
use Rattle.zj_block.specs.Sizes.{Numbers}
use Rattle.zj_layout.specs.declared.fields.Link.{Link}
use Rattle.zj_layout.specs.Graph.{IsLive}
use Rattle.zj_layout.specs.Image.{State, Image, image_of, graph_of, entry_at, is_named, no_link}
use Rattle.zj_layout.specs.Rules.{IsPlaced, HasPlace, Rule4}

-- There are as many blocks as the sizes say, and each node is one, with its blocks for data: the first rule.
pub record HasNodes (sizes : Numbers) (state : State) : Type 0 where
  pub many : length state ≡ sizes.blocks
  pub each : (number : ℕ) → number < sizes.nodes → IsPlaced sizes (image_of sizes state) number

-- a mark for each block of an image
abbrev pub mark : List Bool → ℕ → Bool
mark marks block = slice_index_or marks block false

-- The blocks with a mark are those that the first nodes name.
pub record MarksNamed (sizes : Numbers) (image : Image) (nodes : ℕ) (marks : List Bool) : Type 0 where
  pub many : length marks ≡ sizes.blocks
  pub each : (block : ℕ) → block < sizes.blocks → mark marks block ≡ is_named nodes image block

-- Some numbers are marked besides, none of which was marked before, nor stands twice.
pub record MarksApart (old new : List Bool) (numbers : List ℕ) : Type 0 where
  pub many : length new ≡ length old
  pub marked : (block : ℕ) → block < length old → mark new block ≡ (mark old block || list_any (λ n. n == block) numbers)
  pub fresh : (j : ℕ) → j < length numbers → mark old (slice_index numbers j) ≡ false
  pub apart : (j k : ℕ) → j < length numbers → k < j → slice_index numbers k ≢ slice_index numbers j

-- One of the numbers was marked before, or stands twice.
pub record Repeats (old : List Bool) (numbers : List ℕ) : Type 0 where
  pub at : ℕ
  pub within : at < length numbers
  pub again : (mark old (slice_index numbers at) ≢ false) ⊎ ((k : ℕ) × (k < at) × (slice_index numbers k ≡ slice_index numbers at))

-- An entry is one, and leads to a node that is there, is not free and is not the root.
abbrev pub LeadsOn : Numbers → Image → ℕ → ℕ → Type 0
LeadsOn sizes image dir place = (l : Link) × (entry_at image dir place ≡ Some l) × (l.node < sizes.nodes) × (l.node ≢ 0) × IsLive (graph_of image l.node)

-- the first and the third rule
pub record HasEntries (sizes : Numbers) (state : State) : Type 0 where
  pub nodes : HasNodes sizes state
  pub each : (dir place : ℕ) → HasPlace (image_of sizes state) dir place → LeadsOn sizes (image_of sizes state) dir place

-- the first, the third and the fourth rule
pub record HasNames (sizes : Numbers) (state : State) : Type 0 where
  pub entries : HasEntries sizes state
  pub each : (block : ℕ) → Rule4 (image_of sizes state) block

-- The name of an entry is not that of an earlier one.
abbrev pub IsNewName : List Link → ℕ → Type 0
IsNewName links place = (earlier : ℕ) → earlier < place → (slice_index_or links earlier no_link).name ≢ (slice_index_or links place no_link).name

-- After a search for the lowest block of an item that is not good: each item is good or has no lower block than the
-- one that is found, and that one is the bound or the block of an item that is not good.
pub record Lowers (Has Good : ℕ → Type 0) (block : ℕ → ℕ) (bound lowest : ℕ) : Type 0 where
  pub clear : (item : ℕ) → Has item → Good item ⊎ (lowest ≤ block item)
  pub lower : lowest ≤ bound
  pub caught : (lowest ≡ bound) ⊎ ((item : ℕ) × Has item × (block item ≡ lowest) × (¬ (Good item)))
