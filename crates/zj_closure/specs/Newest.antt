-- What images have of more and more records.
use Rattle.std.specs.Prelude.{◌≡◌, ℕ, ◌==◌, if◌then◌else◌, List, Some}
use Rattle.std.specs.List.{fold}
use Rattle.zj_block.specs.declared.numbers.BlockNo.{BlockNo}
use Rattle.zj_tx.specs.declared.part.Part.{Part}
use Rattle.zj_tx.specs.Record.{Record, Ascends}
use Rattle.zj_tx.specs.Frozen.{image_in}
use Rattle.zj_tx.specs.Parts.{part_image}
use Rattle.zj_closure.specs.Recovered.{newer, newest_image}

-- the block that an image is of, and its content
abbrev pub block_content : Part → BlockNo × List ℕ
block_content p = (p.block, p.image)

-- of one block the newer of two images
pub record HasNewer (old new : List Part) (p : Part) : Type 0 where
  pub images : (block : ℕ) → image_in new block ≡ (if p.block.0 == block then newer (image_in old block) (Some (part_image p)) else image_in old block)
  pub ascending : Ascends 0 new

-- of each block the newest image that was there or that records have, in their order
pub record HasNewestOf (old new : List Part) (records : List Record) : Type 0 where
  pub images : (block : ℕ) → image_in new block ≡ fold (λ newest r. newer newest (image_in r.parts block)) (image_in old block) records
  pub ascending : Ascends 0 new

-- of each block the newest image that records have
pub record HasNewest (images : List Part) (records : List Record) : Type 0 where
  pub newest : (block : ℕ) → image_in images block ≡ newest_image records block
  pub ascending : Ascends 0 images
