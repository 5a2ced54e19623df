-- What the blocks of a new image have.
use Rattle.std.specs.Prelude.{◌≡◌, ◌≢◌, ℕ, ◌+◌, ◌*◌, ◌<◌, Bool, ◌||◌, List, replicate, Some, nat_lt, nat_le, if◌then◌else◌}
use Rattle.zj_block.specs.Block.{zero_content}
use Rattle.zj_block.specs.Sizes.{Numbers, first_data}
use Rattle.zj_layout.specs.declared.fields.Kind.TheVariants as kinds
use Rattle.zj_layout.specs.Node.{node_in, byte_in}

-- whether the map of a new image has a block as in use
abbrev pub made_byte : Numbers → ℕ → Bool
made_byte sizes block = nat_lt block (first_data sizes) || nat_le sizes.blocks block

-- a block of the map of a new image
pub record IsMadeMap (sizes : Numbers) (block : ℕ) (content : List ℕ) : Type 0 where
  pub each : (j : ℕ) → j < 512 → byte_in content j ≡ (if made_byte sizes (512 * block + j) then 1 else 0)

-- the first block of nodes of a new image
pub record IsMadeRoot (content : List ℕ) : Type 0 where
  pub root : node_in content 0 ≡ Some (record { kind = kinds.Dir; size = 0; blocks = replicate 12 0 })
  pub others : (j : ℕ) → j ≢ 0 → node_in content j ≡ node_in zero_content j
