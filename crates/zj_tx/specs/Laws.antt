-- What spellings of records say of each other, and what a transaction's record is.
use Rattle.std.specs.Prelude.{◌≡◌, ℕ, ◌+◌, ◌*◌, ◌<◌, false, List, [], ◌∷◌, ◌++◌, length, slice_index, IsSome}
use Rattle.std.specs.List.{All, AllByRecursion}
use Rattle.zj_block.specs.Numbers.{zero_bounds}
use Rattle.zj_block.specs.declared.numbers.Writer.{Writer}
use Rattle.zj_history.specs.Operation.{Operation}
use Rattle.zj_history.specs.Transactions.{is_of, operations_of, writers_found}
use Rattle.zj_tx.specs.declared.part.Part.{Part}
use Rattle.zj_tx.specs.Frozen.{IsFrozen, image_in}
use Rattle.zj_tx.specs.Running.{FindsCores, HasNoted, IsAdded, IsNoted, IsSealed, Keeps, Transaction, empty_transaction}
use Rattle.zj_tx.specs.Record.{Ascends, IsRecord, Record, record_bytes}

-- bytes that begin with two records begin with one: each record has one spelling, which begins no other's
abbrev pub OneSpelling : Type 0
OneSpelling = (a b : Record) (x y : List ℕ) → IsRecord a → IsRecord b → record_bytes a ++ x ≡ record_bytes b ++ y → (a ≡ b) × (x ≡ y)

-- how many bytes a record has
abbrev pub SpellingLength : Type 0
SpellingLength = (r : Record) → IsRecord r → length (record_bytes r) ≡ 24 + 8 * length r.bounds + 528 * length r.parts

-- the gate of a record, its first byte, is 1
abbrev pub GateIsOpen : Type 0
GateIsOpen = (r : Record) → slice_index (record_bytes r) 0 ≡ 1

-- A frozen transaction stays so in a longer history, where no later operation belongs to it.
abbrev pub FrozenStays : Type 0
FrozenStays = (history later : List Operation) (t : Writer) (r : Record) → IsFrozen history t r
    → All (λ o. is_of t o ≡ false) later → IsFrozen (history ++ later) t r

-- A transaction has one frozen record.
abbrev pub OneRecord : Type 0
OneRecord = (history : List Operation) (t : Writer) (r s : Record) → IsRecord r → IsRecord s → length r.bounds ≡ length s.bounds
    → IsFrozen history t r → IsFrozen history t s → r ≡ s

-- What is noted of no transaction, and of one more.
abbrev pub NoneNoted : Type 0
NoneNoted = HasNoted zero_bounds []

abbrev pub OneNotedMore : Type 0
OneNotedMore = (old new : List ℕ) (noted : List Writer) (t : Writer) → HasNoted old noted → IsNoted old new t → HasNoted new (noted ++ t ∷ [])

-- What is kept of no operation, and of one more.
abbrev pub NothingKept : Type 0
NothingKept = (core cores number : ℕ) → Keeps [] (empty_transaction core cores number)

abbrev pub KeepsOneMore : Type 0
KeepsOneMore = (operations : List Operation) (o : Operation) (old new : Transaction) (follows : List ℕ)
    → Keeps operations old → HasNoted follows (writers_found o) → IsAdded old new o.ticket o.written follows → Keeps (operations ++ o ∷ []) new

-- What is sealed, when all operations of a transaction are kept, is its frozen record.
abbrev pub SealedIsFrozen : Type 0
SealedIsFrozen = (history : List Operation) (t : Writer) (kept : Transaction) (r : Record)
    → kept.core ≡ t.core → kept.number ≡ t.number → FindsCores kept.cores history → Keeps (operations_of history t) kept → IsSealed kept r
    → IsFrozen history t r

-- Parts are within a limit where all blocks that have an image are.
abbrev pub PartsAreWithin : Type 0
PartsAreWithin = (parts : List Part) (limit : ℕ) → Ascends 0 parts → ((block : ℕ) → IsSome (image_in parts block) → block < limit)
    → AllByRecursion (λ p. p.block.0 < limit) parts
