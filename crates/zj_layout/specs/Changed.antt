-- A change of one node, of the blocks that it names, and of free blocks.
use Rattle.std.specs.Prelude.{◌≡◌, ◌≢◌, ◌⊎◌, ℕ, ◌<◌, true, false, IsSome, if◌then◌else◌}
use Rattle.zj_block.specs.Sizes.{Numbers}
use Rattle.zj_layout.specs.Image.{Image, count_of, number_of, entry_at, names_block}
use Rattle.zj_layout.specs.Rules.{IsPlaced, HasPlace}

-- One node is new. Each block that it names now it named before, or it was free; no other block that is in use has new
-- content; the map has what the node names now, and no longer what it named.
pub record ChangesNode (sizes : Numbers) (old new : Image) (node : ℕ) : Type 0 where
  pub within : node < sizes.nodes
  pub others : (other : ℕ) → other ≢ node → new.node other ≡ old.node other
  pub placed : IsPlaced sizes new node
  pub entries : (place : ℕ) → HasPlace new node place → IsSome (entry_at new node place)
  pub once : (j k : ℕ) → j < count_of new node → k < count_of new node → number_of new node j ≡ number_of new node k → j ≡ k
  pub own : (j : ℕ) → j < count_of new node → (names_block old (number_of new node j) node ≡ true) ⊎ (old.map (number_of new node j) ≡ 0)
  pub content : (block : ℕ) → old.map block ≡ 1 → names_block old block node ≡ false → new.content block ≡ old.content block
  pub map : (block : ℕ) → block < sizes.blocks → new.map block ≡ (if names_block new block node then 1 else if names_block old block node then 0 else old.map block)
