-- When the blocks of an image show a tree.
use Rattle.std.specs.Prelude.{◌≡◌, ℕ, List, length, map}
use Rattle.std.specs.List.{All, range_with_len}
use Rattle.std.specs.Option.{unwrap_or}
use Rattle.std.specs.FinMap as map_of
use Rattle.std.specs.Ordering.{nat_cmp}
use Rattle.zj_block.specs.Block.{IsContent}
use Rattle.zj_block.specs.Sizes.{Numbers, IsInLimits, room}
use Rattle.zj_tree.specs.Tree.{FileTree}
use Rattle.zj_tree.specs.Apply.{Limits}
use Rattle.zj_layout.specs.Image.{State, block_at, image_of, graph_of}
use Rattle.zj_layout.specs.Rules.{IsSound}
use Rattle.zj_layout.specs.Graph.{Describes}

-- a state of an image: its sizes are within their limits, and it has as many blocks as they say, each with 64 words of 64 bits
pub record IsState (sizes : Numbers) (state : State) : Type 0 where
  pub limits : IsInLimits sizes
  pub many : length state ≡ sizes.blocks
  pub contents : All IsContent state

-- Blocks show a tree where they meet the six rules and their entries and files are the tree's.
pub record Shows (sizes : Numbers) (state : State) (tree : FileTree) : Type 0 where
  pub shape : IsState sizes state
  pub sound : IsSound sizes (image_of sizes state)
  pub describes : Describes (graph_of (image_of sizes state)) tree

-- the blocks show some tree
abbrev pub ShowsSome : Numbers → State → Type 0
ShowsSome sizes state = (tree : FileTree) × Shows sizes state tree

-- new contents of blocks, by their numbers
abbrev pub Changes : Type 0
Changes = map_of.FinMap nat_cmp (List ℕ)

-- a state with the changes put in: each block has its new content, or else the one that it had
unfoldable pub put_blocks : State → Changes → State
put_blocks state changes = map (λ block. unwrap_or (map_of.get changes block) (block_at state block)) (range_with_len 0 (length state))

-- what a tree of an image may grow to
abbrev pub limits_of : Numbers → Limits
limits_of sizes = record { nodes = sizes.nodes; room = room sizes; version = sizes.version }
