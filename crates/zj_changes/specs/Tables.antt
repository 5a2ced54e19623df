-- One change of one table of an image.
use Rattle.std.specs.Prelude.{◌≡◌, ◌≢◌, ℕ, List, Some}
use Rattle.zj_block.specs.Sizes.{Numbers}
use Rattle.zj_layout.specs.declared.fields.Node.{Node}
use Rattle.zj_layout.specs.declared.fields.Link.{Link}
use Rattle.zj_layout.specs.Node.{link_in}
use Rattle.zj_layout.specs.Image.{Image}

-- One node is new, and all else is as it was.
pub record SetsNode (sizes : Numbers) (old new : Image) (number : ℕ) (node : Node) : Type 0 where
  pub here : new.node number ≡ Some node
  pub others : (other : ℕ) → other ≢ number → new.node other ≡ old.node other
  pub content : (block : ℕ) → new.content block ≡ old.content block
  pub map : (block : ℕ) → new.map block ≡ old.map block

-- One data block has a new content, and all else is as it was.
pub record SetsContent (sizes : Numbers) (old new : Image) (block : ℕ) (content : List ℕ) : Type 0 where
  pub here : new.content block ≡ content
  pub others : (other : ℕ) → other ≢ block → new.content other ≡ old.content other
  pub node : (number : ℕ) → new.node number ≡ old.node number
  pub map : (other : ℕ) → new.map other ≡ old.map other

-- One byte of the map is new, and all else is as it was.
pub record SetsMap (sizes : Numbers) (old new : Image) (block value : ℕ) : Type 0 where
  pub here : new.map block ≡ value
  pub others : (other : ℕ) → other ≢ block → new.map other ≡ old.map other
  pub node : (number : ℕ) → new.node number ≡ old.node number
  pub content : (other : ℕ) → new.content other ≡ old.content other

-- One data block has another entry at a place, and all else is as it was.
pub record SetsLink (sizes : Numbers) (old new : Image) (block place : ℕ) (link : Link) : Type 0 where
  pub here : link_in (new.content block) place ≡ Some link
  pub rest : (j : ℕ) → j ≢ place → link_in (new.content block) j ≡ link_in (old.content block) j
  pub others : (other : ℕ) → other ≢ block → new.content other ≡ old.content other
  pub node : (number : ℕ) → new.node number ≡ old.node number
  pub map : (other : ℕ) → new.map other ≡ old.map other
