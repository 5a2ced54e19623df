-- Blocks of a transaction in the order of their numbers, and what is put among them.
use Rattle.std.specs.Prelude.{◌≡◌, ℕ, ◌+◌, ◌<◌, ◌≤◌, List, length, Some, ◌==◌, if◌then◌else◌, is_none}
use Rattle.std.specs.List.{slice_index_or}
use Rattle.std.specs.FinMap as map_of
use Rattle.std.specs.Option.{option_or}
use Rattle.zj_history.specs.Operation.{Contents}
use Rattle.zj_tx.specs.declared.part.Part.{Part}
use Rattle.zj_tx.specs.Record.{Ascends}
use Rattle.zj_tx.specs.Frozen.{Image, image_in}
use Rattle.zj_tx.specs.Running.{new_count, stamped}

-- the parts before this place are of smaller blocks, and the one there isn't
pub record IsPartPlace (parts : List Part) (block at : ℕ) : Type 0 where
  pub within : at ≤ length parts
  pub smaller : (k : ℕ) (d : Part) → k < at → (slice_index_or parts k d).block.0 < block
  pub not_smaller : (d : Part) → at < length parts → block ≤ (slice_index_or parts at d).block.0

-- the image that a part is
abbrev pub part_image : Part → Image
part_image p = record { stamp = p.stamp.0; content = p.image }

-- parts in which one was put: it is the only one of its block
pub record IsPut (old new : List Part) (p : Part) : Type 0 where
  pub images : (block : ℕ) → image_in new block ≡ (if p.block.0 == block then Some (part_image p) else image_in old block)
  pub ascending : Ascends 0 new
  pub many : length new ≡ (if is_none (image_in old p.block.0) then length old + 1 else length old)

-- parts in which each of some contents was put, with one stamp
pub record ArePut (old new : List Part) (written : Contents) (stamp : ℕ) : Type 0 where
  pub images : (block : ℕ) → image_in new block ≡ option_or (stamped stamp (map_of.get written block)) (image_in old block)
  pub ascending : Ascends 0 new
  pub many : length new ≡ length old + new_count old written
