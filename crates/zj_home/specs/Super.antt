-- What the first bytes of a home tell: its super, which stands in one of two slots, and why it is refused.
use Rattle.std.specs.Prelude.{◌≡◌, ℕ, ◌<◌, ◌≤◌, ◌+◌, ◌*◌, ◌^◌, ◌==◌, Bool, true, false, List, [], ◌∷◌, length, codes, nat_eq, map, drop, nat_lt, nat_le, if◌then◌else◌, Option, Some, None, ⊤, slice_index}
use Rattle.std.specs.List.{range_with_len, slice_range, starts_with}
use Rattle.std.specs.Option.{option_map}
use Rattle.std.specs.Int.{w32, w64, from_le_bytes}
use Rattle.zj_block.specs.Faults.{fault_unless, first_fault}
use Rattle.zj_block.specs.Sizes.{Numbers, numbers_of, max_record, out_of_range}
use Rattle.zj_block.specs.declared.numbers.Tail.{Tail}
use Rattle.zj_block.specs.declared.sizes.SizesField.{SizesField}
use Rattle.zj_block.specs.declared.sizes.SizesField.TheVariants as field
use Rattle.zj_block.specs.declared.sizes.TheConstants.{BLOCK_LEN, VERSION}
use Rattle.zj_home.specs.declared.slot.TheConstants.{HEAD_LEN, SECOND_SLOT}
use Rattle.zj_home.specs.declared.fault.HomeFault.{HomeFault}
use Rattle.zj_home.specs.declared.fault.HomeFault.TheVariants as faults

-- What a super tells: the place of the slot that it stands in, how often it was replaced, the sizes of the image, and where
-- the journal of each core begins.
pub record Super : Type 0 where
  pub slot : ℕ
  pub epoch : ℕ
  pub sizes : Numbers
  pub tails : List Tail

-- the letters behind the gate of a slot
abbrev pub letters : List ℕ
letters = codes "ZJ-HOME"

-- the number of 32 bits whose lowest byte stands there
unfoldable pub u32_in : List ℕ → ℕ → ℕ
u32_in bytes at = from_le_bytes w32 (slice_range bytes at (at + 4))

-- the number of 64 bits whose lowest byte stands there
unfoldable pub u64_in : List ℕ → ℕ → ℕ
u64_in bytes at = from_le_bytes w64 (slice_range bytes at (at + 8))

-- the bytes that both slots stand in
abbrev pub head_of : List ℕ → List ℕ
head_of image = slice_range image 0 HEAD_LEN

-- a slot is open where its gate is 1
abbrev pub is_open : List ℕ → ℕ → Bool
is_open head slot = slice_index head slot == 1

-- of two open slots the later one counts, and the first where neither is later
abbrev pub counting_of : Bool → Bool → Bool → Option ℕ
counting_of true true later = Some (if later then SECOND_SLOT else 0)
counting_of true false later = Some 0
counting_of false true later = Some SECOND_SLOT
counting_of false false later = None

-- where the slot that counts stands
unfoldable pub counting : List ℕ → Option ℕ
counting head = counting_of (is_open head 0) (is_open head SECOND_SLOT) (nat_lt (u64_in head 8) (u64_in head (SECOND_SLOT + 8)))

-- the sizes that a slot tells
abbrev pub numbers_in : List ℕ → ℕ → Numbers
numbers_in head slot = numbers_of (u32_in head (slot + 16)) (u32_in head (slot + 24)) (u32_in head (slot + 28)) (u32_in head (slot + 20)) (u64_in head (slot + 32))

-- the tail that a slot tells of a core's journal
abbrev pub tail_in : List ℕ → ℕ → ℕ → Tail
tail_in head slot core = record { place = u64_in head (slot + 40 + 16 * core); number = u64_in head (slot + 48 + 16 * core) }

-- the super that a slot tells
abbrev pub super_in : List ℕ → ℕ → Super
super_in head slot = record { slot = slot; epoch = u64_in head (slot + 8); sizes = numbers_in head slot; tails = map (λ core. tail_in head slot core) (range_with_len 0 (u32_in head (slot + 20))) }

-- the bytes of a home: its slots, and its blocks behind them
abbrev pub home_length : Numbers → ℕ
home_length n = HEAD_LEN + BLOCK_LEN * n.blocks

-- the bytes of a block
abbrev pub block_bytes_in : List ℕ → ℕ → List ℕ
block_bytes_in image block = slice_range image (HEAD_LEN + BLOCK_LEN * block) (HEAD_LEN + BLOCK_LEN * block + BLOCK_LEN)

-- a fault that the bytes of a device have, and no failure
abbrev pub IsOfBytes : HomeFault → Type 0
IsOfBytes faults.DiskFault = ⊥
IsOfBytes faults.NoMemory = ⊥
IsOfBytes _ = ⊤

-- the fault of a number that is out of range, by the place where the slot tells it
abbrev pub field_fault : ℕ → Numbers → SizesField → HomeFault
field_fault slot n field.Version = faults.Version n.version
field_fault slot n field.Cores = faults.NotAnImage (slot + 20)
field_fault slot n field.Blocks = faults.NotAnImage (slot + 24)
field_fault slot n field.Nodes = faults.NotAnImage (slot + 28)
field_fault slot n field.Area = faults.NotAnImage (slot + 32)

-- that of the first such number
abbrev pub numbers_fault : ℕ → Numbers → Option HomeFault
numbers_fault slot n = option_map (field_fault slot n) (out_of_range n)

-- a tail that leaves no room for a longest record, or whose number is too great
abbrev pub tail_fault : ℕ → Numbers → ℕ → Tail → Option HomeFault
tail_fault slot n core tail = first_fault (
    fault_unless (nat_le (tail.place + max_record n) n.area) (faults.NotAnImage (slot + 40 + 16 * core)) ∷
    fault_unless (nat_lt tail.number (2 ^ 62)) (faults.NotAnImage (slot + 48 + 16 * core)) ∷ [])

-- a tail leaves room for a longest record, and its number is not too great
abbrev pub IsTail : Numbers → Tail → Type 0
IsTail n tail = (tail.place + max_record n ≤ n.area) × (tail.number < 2 ^ 62)

-- the first tail's
abbrev pub tails_fault : List ℕ → ℕ → Numbers → ℕ → Option HomeFault
tails_fault head slot n cores = first_fault (map (λ core. tail_fault slot n core (tail_in head slot core)) (range_with_len 0 cores))

-- why the slot that counts is refused, on a device of some length
unfoldable pub slot_fault : List ℕ → ℕ → ℕ → Option HomeFault
slot_fault head len slot =
    let n = numbers_in head slot in
    first_fault (
    fault_unless (starts_with nat_eq (drop (slot + 1) head) letters) (faults.NotAnImage (slot + 1)) ∷
    fault_unless (n.version == VERSION) (faults.Version n.version) ∷
    fault_unless (nat_lt (u64_in head (slot + 8)) (2 ^ 62)) (faults.NotAnImage (slot + 8)) ∷
    numbers_fault slot n ∷
    tails_fault head slot n n.cores ∷
    fault_unless (len == home_length n) (faults.Sizes len (home_length n)) ∷ [])

-- why the slots are refused
unfoldable pub head_fault : List ℕ → ℕ → Option ℕ → Option HomeFault
head_fault head len None = Some (faults.NotAnImage 0)
head_fault head len (Some slot) = slot_fault head len slot

-- why a device with these bytes is refused
unfoldable pub image_fault : List ℕ → Option HomeFault
image_fault image = first_fault (
    fault_unless (nat_le HEAD_LEN (length image)) (faults.NotAnImage 0) ∷
    head_fault (head_of image) (length image) (counting (head_of image)) ∷ [])

-- the super of a device with these bytes
unfoldable pub super_of : List ℕ → Option Super
super_of image = option_map (λ slot. super_in (head_of image) slot) (counting (head_of image))

-- A device with these bytes opens as this super.
pub record OpensAs (image : List ℕ) (super : Super) : Type 0 where
  pub sound : image_fault image ≡ None
  pub counts : super_of image ≡ Some super
