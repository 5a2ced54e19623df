-- What is so of histories and cuts.
use Rattle.std.specs.Prelude.{◌≡◌, ◌≢◌, ◌⊎◌, ◌↔◌, ℕ, ◌+◌, ◌<◌, ◌≤◌, List, [], ◌∷◌, ◌++◌, length, slice_get, Some, None, Contains, Bool, filter}
use Rattle.std.specs.List.{All}
use Rattle.std.specs.Option.{option_map, option_or}
use Rattle.zj_block.specs.declared.numbers.Writer.{Writer}
use Rattle.zj_history.specs.Operation.{Operation, Write, transaction_of, write_of}
use Rattle.zj_history.specs.State.{BlockState, put, after, last_write}
use Rattle.zj_history.specs.Legal.{IsHistory, IsLegal, IsNext}
use Rattle.zj_history.specs.Transactions.{Bounds, AreNumbered, IsNumberedAfter, FollowsDirectly, dependency_bound}
use Rattle.zj_history.specs.Cut.{cut, IsConsistentCut, FindsOwnWrites, IsClosedPart}

-- The empty list is a legal history, and a legal history is one operation longer exactly where that one is next.
abbrev pub EmptyIsLegal : Type 0
EmptyIsLegal = (start : BlockState) → IsLegal start []

abbrev pub OneLonger : Type 0
OneLonger = (start : BlockState) (history : List Operation) (o : Operation)
    → IsLegal start (history ++ o ∷ []) ↔ (IsLegal start history × IsNext start history o)

-- So it is of the numbers.
abbrev pub EmptyIsNumbered : Type 0
EmptyIsNumbered = (first : Bounds) → AreNumbered first []

abbrev pub OneMoreNumber : Type 0
OneMoreNumber = (first : Bounds) (history : List Operation) (o : Operation)
    → AreNumbered first (history ++ o ∷ []) ↔ (AreNumbered first history × IsNumberedAfter first history o)

-- One operation more puts in what it wrote, and takes the place of the last write of each block that it wrote.
abbrev pub OnePutMore : Type 0
OnePutMore = (start : BlockState) (history : List Operation) (o : Operation) → after start (history ++ o ∷ []) ≡ put (after start history) o.written

abbrev pub OneWriteMore : Type 0
OneWriteMore = (history : List Operation) (o : Operation) (block : ℕ) → last_write (history ++ o ∷ []) block ≡ option_or (write_of block o) (last_write history block)

-- A front of a legal history is legal, and its numbers are a front of the numbers.
abbrev pub FrontIsLegal : Type 0
FrontIsLegal = (start : BlockState) (front rest : List Operation) → IsLegal start (front ++ rest) → IsLegal start front

abbrev pub FrontIsNumbered : Type 0
FrontIsNumbered = (first : Bounds) (front rest : List Operation) → AreNumbered first (front ++ rest) → AreNumbered first front

-- A legal history is a history.
abbrev pub LegalIsHistory : Type 0
LegalIsHistory = (start : BlockState) (history : List Operation) → IsLegal start history → IsHistory start history

-- A consistent cut is a history: each of its operations found what those before it in the cut left.
abbrev pub CutIsHistory : Type 0
CutIsHistory = (start : BlockState) (first : Bounds) (history : List Operation) (bounds : Bounds)
    → IsLegal start history → AreNumbered first history → IsConsistentCut history bounds → IsHistory start (cut history bounds)

-- The state after operations: of each block the content last written, else the first state's.
abbrev pub StateByBlocks : Type 0
StateByBlocks = (start : BlockState) (history : List Operation) (block : ℕ) → block < length start
    → slice_get (after start history) block ≡ option_or (option_map (λ w. w.content) (last_write history block)) (slice_get start block)

-- Operations leave the number of blocks.
abbrev pub StateKeepsLength : Type 0
StateKeepsLength = (start : BlockState) (history : List Operation) → length (after start history) ≡ length start

-- the write into a block of the greatest ticket
pub record IsNewestWrite (history : List Operation) (block : ℕ) (w : Write) : Type 0 where
  pub written : (o : Operation) × Contains history o × (write_of block o ≡ Some w)
  pub newest : (o : Operation) (other : Write) → Contains history o → write_of block o ≡ Some other → other.ticket ≤ w.ticket

-- Of any operations chosen from a legal history, the last write into a block is the one of the greatest ticket.
abbrev pub LastIsNewest : Type 0
LastIsNewest = (start : BlockState) (history : List Operation) (chosen : Operation → Bool) (block : ℕ) (w : Write)
    → IsLegal start history → (last_write (filter chosen history) block ≡ Some w) ↔ IsNewestWrite (filter chosen history) block w

-- A block has no last write exactly where no operation wrote it.
abbrev pub NoneIsUnwritten : Type 0
NoneIsUnwritten = (history : List Operation) (block : ℕ)
    → (last_write history block ≡ None) ↔ ((o : Operation) → Contains history o → write_of block o ≡ None)

-- a block after operations: what the one of the greatest ticket that wrote it put in, else what it was at first
pub record HasNewest (start : BlockState) (operations : List Operation) (block : ℕ) : Type 0 where
  pub written : (w : Write) → IsNewestWrite operations block w → slice_get (after start operations) block ≡ Some w.content
  pub unwritten : ((o : Operation) → Contains operations o → write_of block o ≡ None) → slice_get (after start operations) block ≡ slice_get start block

-- The state after a cut has in each block what the operation of the greatest ticket in the cut wrote there, else what the
-- first state had.
abbrev pub StateOfCut : Type 0
StateOfCut = (start : BlockState) (history : List Operation) (bounds : Bounds) (block : ℕ)
    → IsLegal start history → block < length start → HasNewest start (cut history bounds) block

-- Of two operations that wrote a block, where the later one is in a consistent cut, so is the earlier one.
abbrev pub EarlierIsWithin : Type 0
EarlierIsWithin = (start : BlockState) (first : Bounds) (history : List Operation) (bounds : Bounds) (block : ℕ) (earlier later : Operation) (v w : Write)
    → IsLegal start history → AreNumbered first history → IsConsistentCut history bounds
    → Contains history earlier → Contains history later → write_of block earlier ≡ Some v → write_of block later ≡ Some w
    → earlier.ticket < later.ticket → later.number < bounds later.core → earlier.number < bounds earlier.core

-- A cut is consistent where each operation of it found blocks last written in it, and only there.
abbrev pub ConsistentByOperations : Type 0
ConsistentByOperations = (start : BlockState) (first : Bounds) (history : List Operation) (bounds : Bounds)
    → IsLegal start history → AreNumbered first history → IsConsistentCut history bounds ↔ FindsOwnWrites history bounds

-- the least bound that is above all that a transaction follows directly on a core
pub record IsLeastAbove (history : List Operation) (t : Writer) (core bound : ℕ) : Type 0 where
  pub above : (u : Writer) → FollowsDirectly history t u → u.core ≡ core → u.number < bound
  pub least : (bound ≡ 0) ⊎ ((u : Writer) × FollowsDirectly history t u × (u.core ≡ core) × (bound ≡ u.number + 1))

-- On another core the dependency bound is the least one above all that is followed directly there.
abbrev pub BoundIsLeast : Type 0
BoundIsLeast = (history : List Operation) (t : Writer) (core : ℕ) → core ≢ t.core
    → IsLeastAbove history t core (dependency_bound history t core)

-- No number is below its core's first one.
abbrev pub NoneBelowFirst : Type 0
NoneBelowFirst = (first : Bounds) (history : List Operation) → AreNumbered first history → All (λ o. first o.core ≤ o.number) history

-- Bounds that part a legal history into a front below them and a rest that isn't, as where nothing runs, are a consistent cut.
abbrev pub FrontIsConsistent : Type 0
FrontIsConsistent = (start : BlockState) (front rest : List Operation) (bounds : Bounds)
    → IsLegal start (front ++ rest) → All (λ o. o.number < bounds o.core) front → All (λ o. bounds o.core ≤ o.number) rest
    → IsConsistentCut (front ++ rest) bounds × (cut (front ++ rest) bounds ≡ front)

-- A closed part, whatever it is told by, is a consistent cut.
abbrev pub ClosedPartIsCut : Type 0
ClosedPartIsCut = (start : BlockState) (history : List Operation) (keeps : Writer → Bool) → IsLegal start history → IsClosedPart history keeps
    → (bounds : Bounds) × IsConsistentCut history bounds × (filter (λ o. keeps (transaction_of o)) history ≡ cut history bounds)
