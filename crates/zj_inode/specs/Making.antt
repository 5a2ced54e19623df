-- What the steps say that make a node and its entry.
use Rattle.std.specs.Prelude.{◌≡◌, ◌⊎◌, ℕ, Some, None}
use Rattle.zj_block.specs.Lists.{Entries}
use Rattle.zj_block.specs.Sizes.{Numbers}
use Rattle.zj_tree.specs.declared.call.Refusal.{Refusal}
use Rattle.zj_tree.specs.declared.call.Refusal.TheVariants as refusals
use Rattle.zj_layout.specs.declared.fields.Kind.{Kind}
use Rattle.zj_layout.specs.Image.{Image, image_of}
use Rattle.zj_layout.specs.Shows.{Changes}
use Rattle.zj_changes.specs.Holds.{empty_node}
use Rattle.zj_changes.specs.Tables.{SetsNode}
use Rattle.zj_changes.specs.Walk.{NoNodeFree}
use Rattle.zj_dirs.specs.Changing.{NeedsBlock, IsPlaceBlock, entries_of}
use Rattle.zj_dirs.specs.Looking.{IsLowestBlock, IsLowestNode, IsNodeSearch}
use Rattle.zj_inode.specs.declared.stopped.Stopped.{Stopped}
use Rattle.zj_inode.specs.Answering.{AfterSays, StopSays}

-- The lowest free node is an empty one of a kind now.
pub record TakesNode (sizes : Numbers) (old new : Image) (kind : Kind) (number : ℕ) : Type 0 where
  pub lowest : IsLowestNode sizes old (Some number)
  pub takes : SetsNode sizes old new number (empty_node kind)

-- why no node is taken: a block of nodes is needed, or none is free
abbrev pub TakeStops : Numbers → Entries → Stopped → Type 0
TakeStops sizes found = StopSays sizes found (IsNodeSearch sizes) (λ state tree refusal. (refusal ≡ refusals.NoNodes) × NoNodeFree sizes (image_of sizes state))

-- why a directory can't have one entry more: it has as many as it may, or it needs a new block and none is free
abbrev pub IsFull : Numbers → Image → ℕ → Refusal → Type 0
IsFull sizes image dir refusal = ((refusal ≡ refusals.DirFull) × (entries_of image dir ≡ 192)) ⊎ ((refusal ≡ refusals.NoSpace) × NeedsBlock image dir × IsLowestBlock sizes image None)

abbrev pub AddStops : Numbers → Entries → Changes → ℕ → Stopped → Type 0
AddStops sizes found written dir = AfterSays sizes found written (λ image block. IsPlaceBlock sizes image dir block) (λ state tree refusal. IsFull sizes (image_of sizes state) dir refusal)
