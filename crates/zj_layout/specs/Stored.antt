-- The rules but those on names and on how entries hang together, as facts on nodes, blocks and the map.
use Rattle.std.specs.Prelude.{◌≡◌, ℕ, ◌<◌, ◌≤◌, ◌||◌, None, IsSome, nat_lt, if◌then◌else◌}
use Rattle.zj_block.specs.Sizes.{Numbers, first_data}
use Rattle.zj_layout.specs.Image.{Image, count_of, number_of, entry_at, is_named}
use Rattle.zj_layout.specs.Rules.{IsPlaced, HasPlace}

pub record IsStored (sizes : Numbers) (image : Image) : Type 0 where
  pub none : (node : ℕ) → sizes.nodes ≤ node → image.node node ≡ None
  pub placed : (node : ℕ) → node < sizes.nodes → IsPlaced sizes image node
  pub apart : (node j other k : ℕ) → j < count_of image node → k < count_of image other → number_of image node j ≡ number_of image other k → (node ≡ other) × (j ≡ k)
  pub entry : (dir place : ℕ) → HasPlace image dir place → IsSome (entry_at image dir place)
  pub map : (b : ℕ) → b < sizes.blocks → image.map b ≡ (if nat_lt b (first_data sizes) || is_named sizes.nodes image b then 1 else 0)
