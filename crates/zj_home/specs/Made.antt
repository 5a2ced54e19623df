-- What making a home leaves on its device.
use Rattle.std.specs.Prelude.{◌≡◌, ◌≢◌, ◌⊎◌, ℕ, ◌+◌, ◌<◌, true, List, ◌∷◌, ◌++◌, length, drop, slice_index, replicate, Some, IfSome}
use Rattle.std.specs.List.{flat_map, slice_index_or, slice_range}
use Rattle.std.specs.Int.{w32, w64, to_le_bytes}
use Rattle.zj_block.specs.Block.{bytes_of, zero_content}
use Rattle.zj_block.specs.Numbers.{zero_tail}
use Rattle.zj_block.specs.Sizes.{Numbers}
use Rattle.zj_block.specs.declared.numbers.Tail.{Tail}
use Rattle.zj_dev.specs.Fault.{Rose}
use Rattle.zj_dev.specs.Disk.{DiskView, IsDisk, Continues, LeadsTo}
use Rattle.zj_home.specs.Super.{OpensAs, Super, letters, image_fault, block_bytes_in}
use Rattle.zj_home.specs.declared.slot.TheConstants.{SECOND_SLOT}
use Rattle.zj_home.specs.declared.fault.HomeFault.{HomeFault}
use Rattle.zj_home.specs.declared.fault.HomeFault.TheVariants as faults

-- the super of a home that was just made
abbrev pub first_super : Numbers → Super
first_super sizes = record { slot = 0; epoch = 1; sizes = sizes; tails = replicate sizes.cores zero_tail }

-- the bytes of a tail
abbrev pub tail_bytes : Tail → List ℕ
tail_bytes tail = to_le_bytes w64 tail.place ++ to_le_bytes w64 tail.number

-- the bytes in front of the tails, with the gate open
abbrev pub field_bytes : ℕ → Numbers → List ℕ
field_bytes epoch n = 1 ∷ letters ++ to_le_bytes w64 epoch ++ to_le_bytes w32 n.version ++ to_le_bytes w32 n.cores ++ to_le_bytes w32 n.blocks ++ to_le_bytes w32 n.nodes ++ to_le_bytes w64 n.area

-- the bytes of a slot that tells a super
abbrev pub slot_bytes : Super → List ℕ
slot_bytes super = field_bytes super.epoch super.sizes ++ flat_map tail_bytes super.tails

-- the first blocks of an image are these
abbrev pub HoldsBlocks : List ℕ → List (List ℕ) → ℕ → Type 0
HoldsBlocks image blocks count = (b : ℕ) → b < count → block_bytes_in image b ≡ bytes_of (slice_index_or blocks b zero_content)

-- a device with these bytes opens, with this super, and has these blocks
pub record IsHome (super : Super) (blocks : List (List ℕ)) (image : List ℕ) : Type 0 where
  pub opens : OpensAs image super
  pub blocks_are : HoldsBlocks image blocks (length blocks)

-- the image has this slot with its gate, the other gate is closed, and it has these blocks
pub record IsLaidOut (slot : List ℕ) (blocks : List (List ℕ)) (size : ℕ) (image : List ℕ) : Type 0 where
  pub slot_is : image ≡ slot ++ drop (length slot) image
  pub closed : slice_index image SECOND_SLOT ≡ 0
  pub size_is : length image ≡ size
  pub blocks_are : HoldsBlocks image blocks (length blocks)

-- whatever a crash may leave now is such a device, and so is what a read gives
pub record IsMade (super : Super) (blocks : List (List ℕ)) (disk : DiskView) : Type 0 where
  pub left : (image : List ℕ) → disk.may_leave disk.calls image ≡ true → IsHome super blocks image
  pub given : IfSome disk.bytes (λ image. IsHome super blocks image)

-- a device with these bytes is refused as none
abbrev pub IsNoImage : List ℕ → Type 0
IsNoImage image = (at : ℕ) × (image_fault image ≡ Some (faults.NotAnImage at))

-- neither slot has the letters behind its gate, so that it is no home's, whatever the gate is
pub record HasNoLetters (image : List ℕ) : Type 0 where
  pub first : slice_range image 1 8 ≢ letters
  pub second : slice_range image (SECOND_SLOT + 1) (SECOND_SLOT + 8) ≢ letters

-- neither slot is open
pub record IsShut (image : List ℕ) : Type 0 where
  pub first : slice_index image 0 ≢ 1
  pub second : slice_index image SECOND_SLOT ≢ 1

-- Where the letters stood behind no gate, a crash at any moment since leaves no image, or the home that is made.
abbrev pub MakesOnly : Super → List (List ℕ) → DiskView → DiskView → Type 0
MakesOnly super blocks old new = LeadsTo HasNoLetters (λ image. IsNoImage image ⊎ IsHome super blocks image) old new

-- Some calls were made, and the disk is still one.
pub record GoesFurther (old new : DiskView) : Type 0 where
  pub continues : Continues old new
  pub is_disk : IsDisk new

-- Why a home was not made: the count of the device rose.
abbrev pub IsFailure : DiskView → DiskView → HomeFault → Type 0
IsFailure old new faults.DiskFault = Rose old.faults new.faults
IsFailure old new _ = ⊥
