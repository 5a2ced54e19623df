-- Why looks at the items of a node go no further: the block of an item is needed. Nothing is refused.
use Rattle.std.specs.Prelude.{◌≡◌, ℕ, ◌<◌, ◌≤◌}
use Rattle.zj_block.specs.Lists.{Entries}
use Rattle.zj_block.specs.Sizes.{Numbers}
use Rattle.zj_layout.specs.Image.{item_block, node_of}
use Rattle.zj_layout.specs.Rules.{HasPlace}
use Rattle.zj_inode.specs.declared.stopped.Stopped.{Stopped}
use Rattle.zj_inode.specs.Answering.{StopSays}

-- an entry of a directory
abbrev pub EntryStops : Numbers → Entries → ℕ → Stopped → Type 0
EntryStops sizes found dir = StopSays sizes found (λ image block. (place : ℕ) × HasPlace image dir place × (block ≡ item_block image dir place)) (λ state tree refusal. ⊥)

-- a byte of a range of a file
abbrev pub RangeStops : Numbers → Entries → ℕ → ℕ → ℕ → Stopped → Type 0
RangeStops sizes found file from to = StopSays sizes found (λ image block. (k : ℕ) × (from ≤ k) × (k < to) × (k < (node_of image file).size) × (block ≡ item_block image file k)) (λ state tree refusal. ⊥)
