-- What the running transaction of a core keeps of its operations.
use Rattle.std.specs.Prelude.{◌≡◌, ◌≢◌, ℕ, ◌+◌, ◌-◌, ◌<◌, ◌≤◌, ◌^◌, max, min, List, [], length, Option, None, ◌==◌, if◌then◌else◌, slice_index, count_by, is_none}
use Rattle.std.specs.List.{All, AllByRecursion, flat_map}
use Rattle.std.specs.FinMap as map_of
use Rattle.std.specs.Option.{ForSome, IsSomeAnd, option_map, option_or}
use Rattle.zj_block.specs.Numbers.{zero_bounds}
use Rattle.zj_block.specs.declared.numbers.Writer.{Writer}
use Rattle.zj_block.specs.declared.sizes.TheConstants.{MAX_RECORD_BLOCKS}
use Rattle.zj_history.specs.Operation.{Contents, Operation}
use Rattle.zj_history.specs.State.{last_write}
use Rattle.zj_history.specs.Transactions.{bound_on, writers_found}
use Rattle.zj_tx.specs.declared.fault.RoomFault.{RoomFault}
use Rattle.zj_tx.specs.declared.fault.RoomFault.TheVariants.{TxFull, NoMemory}
use Rattle.zj_tx.specs.declared.part.Part.{Part}
use Rattle.zj_tx.specs.Record.{Ascends, IsPart, Record}
use Rattle.zj_tx.specs.Frozen.{Image, image_in, image_of}

-- what a core's running transaction has: its core and how many there are, its number, how many operations were added, how
-- far these follow each core, what they leave in the blocks that they wrote, and for how many new blocks room was made
pub record Transaction : Type 0 where
  pub core : ℕ
  pub cores : ℕ
  pub number : ℕ
  pub handles : ℕ
  pub follows : List ℕ
  pub parts : List Part
  pub room : Option ℕ

-- the transaction with these
abbrev pub transaction_with : ℕ → ℕ → ℕ → ℕ → List ℕ → List Part → Option ℕ → Transaction
transaction_with core cores number handles follows parts room = record { core = core; cores = cores; number = number; handles = handles; follows = follows; parts = parts; room = room }

-- Its blocks are those of a record, in order, and memory is held for what room was made for: for so many blocks, and for
-- so many bounds.
pub record IsRunning (t : Transaction) (capacity laid : ℕ) : Type 0 where
  pub core : t.core < t.cores
  pub cores : t.cores ≤ 64
  pub parts : AllByRecursion IsPart t.parts
  pub ascending : Ascends 0 t.parts
  pub blocks : length t.parts ≤ MAX_RECORD_BLOCKS
  pub room : ForSome t.room (λ more. (length t.parts + more ≤ MAX_RECORD_BLOCKS) × (length t.parts + more ≤ capacity) × (laid ≡ t.cores))
  pub added : t.handles ≢ 0 → laid ≡ t.cores

-- a transaction of no operation
abbrev pub empty_transaction : ℕ → ℕ → ℕ → Transaction
empty_transaction core cores number = record { core = core; cores = cores; number = number; handles = 0; follows = zero_bounds; parts = []; room = None }

-- bounds after a transaction was noted: on its core at least its number plus one
pub record IsNoted (old new : List ℕ) (t : Writer) : Type 0 where
  pub each : (core : ℕ) → slice_index new core ≡ max (if t.core == core then t.number + 1 else 0) (slice_index old core)

-- bounds that are the greater of two
pub record IsRaised (old new by : List ℕ) : Type 0 where
  pub each : (core : ℕ) → slice_index new core ≡ max (slice_index old core) (slice_index by core)

-- how many contents are of blocks that parts don't have
abbrev pub new_count : List Part → Contents → ℕ
new_count parts written = count_by (λ e. is_none (image_in parts e.0)) (map_of.entries written)

-- room was made for the new blocks among contents, since an operation was added last
abbrev pub HasRoom : Transaction → Contents → Type 0
HasRoom t written = IsSomeAnd t.room (λ room. new_count t.parts written ≤ room)

-- Why no room is made for contents: with their new blocks the transaction would have more than a record has. A count of
-- new blocks past what fits its type stands at the greatest that does.
abbrev pub IsRoomCause : Transaction → Contents → RoomFault → Type 0
IsRoomCause t written (TxFull have more) = (have ≡ length t.parts) × (more ≡ min (new_count t.parts written) (2 ^ 32 - 1)) × (MAX_RECORD_BLOCKS < have + new_count t.parts written)
IsRoomCause t written NoMemory = Unit {0}

-- the image of a content with a stamp
abbrev pub stamped : ℕ → Option (List ℕ) → Option Image
stamped stamp content = option_map (λ c. record { stamp = stamp; content = c }) content

-- One operation was added: what it follows is followed, and each block that it wrote has its content, and its ticket plus
-- one as stamp.
pub record IsAdded (old new : Transaction) (ticket : ℕ) (written : Contents) (follows : List ℕ) : Type 0 where
  pub others : new ≡ record old { handles = old.handles + 1; follows = new.follows; parts = new.parts; room = None }
  pub raised : IsRaised old.follows new.follows follows
  pub many : length new.parts ≡ length old.parts + new_count old.parts written
  pub images : (block : ℕ) → image_in new.parts block ≡ option_or (stamped (ticket + 1) (map_of.get written block)) (image_in old.parts block)

-- how far a record says that a core is followed: on the own core that is 0
abbrev pub recorded_bound : ℕ → List ℕ → ℕ → ℕ
recorded_bound own follows core = if core == own then 0 else slice_index follows core

-- The record of a transaction: its number, how far it follows each core, and its parts.
pub record IsSealed (t : Transaction) (r : Record) : Type 0 where
  pub number : r.number ≡ t.number
  pub cores : length r.bounds ≡ t.cores
  pub bounds : (core : ℕ) → core < t.cores → slice_index r.bounds core ≡ recorded_bound t.core t.follows core
  pub parts : r.parts ≡ t.parts

-- bounds that are those of noted transactions: on each core the greatest number plus one, or 0
pub record HasNoted (follows : List ℕ) (noted : List Writer) : Type 0 where
  pub each : (core : ℕ) → slice_index follows core ≡ bound_on core noted

-- What a running transaction has is of these operations: how many they are, how far they follow each core, and what they
-- leave in the blocks that they wrote.
pub record Keeps (operations : List Operation) (t : Transaction) : Type 0 where
  pub count : t.handles ≡ length operations
  pub follows : HasNoted t.follows (flat_map writers_found operations)
  pub images : (block : ℕ) → image_in t.parts block ≡ option_map image_of (last_write operations block)

-- the operations found blocks that were last written on the first so many cores
abbrev pub FindsCores : ℕ → List Operation → Type 0
FindsCores cores operations = All (λ o. All (λ w. w.core < cores) (writers_found o)) operations
