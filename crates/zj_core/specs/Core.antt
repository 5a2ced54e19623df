-- A core as its callers see it.
use Rattle.std.specs.Prelude.{◌≡◌, ◌≢◌, ◌⊎◌, ℕ, ◌+◌, ◌<◌, ◌≤◌, true, false, List, [], ◌∷◌, ◌++◌, length, Option, Some, None, IsSome, ⊤}
use Rattle.std.specs.FinMap as finmap
use Rattle.zj_block.specs.Lists.{Entries, content_under}
use Rattle.zj_block.specs.Sizes.{Numbers}
use Rattle.std.specs.List.{All}
use Rattle.zj_block.specs.Numbers.{zero_bounds}
use Rattle.zj_block.specs.declared.sizes.TheConstants.{MAX_RECORD_BLOCKS}
use Rattle.zj_area.specs.Journal.{AreaView, fullness}
use Rattle.zj_history.specs.Operation.{Contents, Operation}
use Rattle.zj_history.specs.Transactions.{operations_of}
use Rattle.zj_tx.specs.Frozen.{image_in}
use Rattle.zj_tx.specs.Record.{Ascends}
use Rattle.zj_tx.specs.Running.{Keeps, Transaction, new_count}
use Rattle.zj_tree.specs.declared.call.Call.{Call}
use Rattle.zj_tree.specs.declared.call.Reply.{Reply}
use Rattle.zj_dirs.specs.Possible.{Always}
use Rattle.zj_inode.specs.Footprint.{Foot}
use Rattle.zj_inode.specs.Performs.{Performs}
use Rattle.zj_inode.specs.Run.{contents_found}
use Rattle.zj_turns.specs.Views.{Hold}
use Rattle.zj_turns.specs.Passes.{CacheParameters, IsActive, PassState, holds, left_of, mine, now_knowing}
use Rattle.zj_core.specs.Handle.{HasTaken, IsPartOfSome, IsPerformed, IsRead, NeedsNext, TakesFor, content_held, entries_held, root_block}
use Rattle.zj_core.specs.Steps.{IsFree, IsMissed, Knows, TakesMore, with_operation}
use Rattle.zj_core.specs.declared.fault.BeginFault.{BeginFault}
use Rattle.zj_core.specs.declared.fault.BeginFault.TheVariants as begins
use Rattle.zj_core.specs.declared.fault.TakeFault.{TakeFault}
use Rattle.zj_core.specs.declared.fault.TakeFault.TheVariants as takes
use Rattle.zj_core.specs.declared.fault.CallFault.{CallFault}
use Rattle.zj_core.specs.declared.fault.CallFault.TheVariants as calls
use Rattle.zj_core.specs.declared.handles.Done.{Done}
use Rattle.zj_core.specs.declared.steps.Handle.{Handle}
use Rattle.zj_core.specs.declared.fault.StopFault.{StopFault}
use Rattle.zj_core.specs.declared.fault.StopFault.TheVariants as stops

-- its pass, its journal, the sizes of the image, the call of the handle that is open, if one is, and its running transaction
pub record CoreState (D : Type 0) : Type 0 where
  pub pass : PassState
  pub area : AreaView D
  pub sizes : Numbers
  pub begun : Option Call
  pub running : Transaction

-- the number of the transaction that runs on the core
abbrev pub number_of : {D : Type 0} → CoreState D → ℕ
number_of c = c.running.number

-- A journal that is ready to commit: its records were read, no commit of it has failed, and no record waits for its gate.
pub record IsReadyToCommit {D : Type 0} (area : AreaView D) : Type 0 where
  pub ready : area.ready ≡ true
  pub sound : area.failed ≡ false
  pub empty : area.laid ≡ None

-- ---- the running transaction

-- the core's operations that belong to its running transaction
abbrev pub operations_running : {D : Type 0} → CoreState D → List Operation
operations_running c = operations_of (mine c.pass).operations (record { core = c.pass.core; number = c.running.number })

-- The running transaction of a core keeps what the core's operations with its number found and left, and the core has none with a
-- greater number. Its blocks are blocks of the image, each once, and no more than a record has. While no commit has failed its number
-- is that of the next record, and where it has an operation a longest record has room in the journal; once one has failed it has none.
pub record Runs {D : Type 0} (c : CoreState D) : Type 0 where
  pub core : c.running.core ≡ c.pass.core
  pub cores : c.running.cores ≡ c.sizes.cores
  pub keeps : Keeps (operations_running c) c.running
  pub none_later : All (λ o. (o.core ≡ c.pass.core) × (o.number ≤ c.running.number)) (mine c.pass).operations
  pub ascending : Ascends 0 c.running.parts
  pub blocks : length c.running.parts ≤ MAX_RECORD_BLOCKS
  pub within : (block : ℕ) → IsSome (image_in c.running.parts block) → block < c.sizes.blocks
  pub number : c.area.failed ≡ false → c.running.number ≡ c.area.end.number
  pub fits : c.area.failed ≡ false → c.running.handles ≢ 0 → fullness c.area.sizes c.area.tail c.area.end ≡ None
  pub over : c.area.failed ≡ true → c.running.handles ≡ 0

-- A core may begin a handle: none of its commits has failed, it has a draw left, and its running transaction has an operation, or a
-- longest record has room in the journal.
pub record MayBegin {D : Type 0} (c : CoreState D) : Type 0 where
  pub sound : c.area.failed ≡ false
  pub left : left_of c.pass ≢ 0
  pub fits : c.running.handles ≡ 0 → fullness c.area.sizes c.area.tail c.area.end ≡ None

-- The journal of a core is its own, for its sizes; its records were read, and none waits for its gate.
pub record HasJournal {D : Type 0} (c : CoreState D) : Type 0 where
  pub core : c.area.core ≡ c.pass.core
  pub sizes_are : c.area.sizes ≡ c.sizes
  pub ready : c.area.ready ≡ true
  pub empty : c.area.laid ≡ None

-- ---- what a core keeps

-- the blocks that a handle has taken, in their order, and what it noted of their writers: none where there is no handle
abbrev pub taken_by : Option Handle → Entries
taken_by None = []
taken_by (Some handle) = handle.taken

abbrev pub noted_by : Option Handle → List ℕ
noted_by None = zero_bounds
noted_by (Some handle) = handle.follows

-- What a core keeps: its pass holds what the handle took, and noted the writers of it; a handle is open only where one may be begun; and
-- its running transaction and its journal are its own.
pub record IsCore {D : Type 0} (c : CoreState D) (handle : Option Handle) : Type 0 where
  pub has : HasTaken c.sizes c.pass (taken_by handle) (noted_by handle)
  pub may : IsSome handle → MayBegin c
  pub runs : Runs c
  pub journal : HasJournal c

-- The core is at hand, and its pass and sizes are the cache's.
pub record IsOf {D : Type 0} (cache : CacheParameters) (c : CoreState D) : Type 0 where
  pub active : IsActive cache c.pass
  pub sizes : cache.sizes ≡ c.sizes
  pub many : length cache.start ≡ c.sizes.blocks

-- A core between two calls: it has stored into none of the blocks that it holds and drawn for none. It holds blocks for an open
-- handle alone, and among them that of the root's node; and some state that shows a tree has what it loaded.
pub record IsSteady {D : Type 0} (c : CoreState D) : Type 0 where
  pub clear : (mine c.pass).drawn ≡ false
  pub read : (b : ℕ) (h : Hold) → finmap.get (mine c.pass).held b ≡ Some h → IsRead h
  pub idle : c.begun ≡ None → (mine c.pass).held ≡ finmap.empty
  pub root : (b : ℕ) → holds c.pass b ≡ true → holds c.pass (root_block c.sizes) ≡ true
  pub possible : (b : ℕ) → holds c.pass b ≡ true → IsPartOfSome c.sizes (entries_held (mine c.pass))
  pub may : IsSome c.begun → MayBegin c
  pub runs : Runs c
  pub journal : HasJournal c

-- Why a handle isn't begun. A commit of the core has failed; else no draw is left; else the running transaction has no operation, and a
-- longest record has no room in the journal; or memory ran out.
abbrev pub IsBeginCause : {D : Type 0} → CoreState D → BeginFault → Type 0
IsBeginCause c (begins.Failed core) = (c.area.failed ≡ true) × (core ≡ c.pass.core)
IsBeginCause c (begins.Spent drawn) = (c.area.failed ≡ false) × (left_of c.pass ≡ 0) × (drawn ≡ length (mine c.pass).operations)
IsBeginCause c (begins.JournalFull need free) =
    (c.area.failed ≡ false) × (left_of c.pass ≢ 0) × (c.running.handles ≡ 0) × (fullness c.area.sizes c.area.tail c.area.end ≡ Some (record { need = need; free = free }))
IsBeginCause c begins.NoMemory = ⊤

-- the next block that a call needs was taken, and nothing else was done
pub record TakesNext (cache : CacheParameters) (sizes : Numbers) (old new : PassState) (call : Call) (block : ℕ) : Type 0 where
  pub needs : NeedsNext sizes old call block
  pub held : holds new block ≡ true
  pub only : (b : ℕ) → holds new b ≡ true → (b ≡ block) ⊎ (holds old b ≡ true)
  pub takes : TakesMore cache old new
  pub knows : Knows cache new

-- A call needs no more blocks: some reply and new contents perform it on those that are held.
abbrev pub NeedsNoMore : Numbers → PassState → Call → Type 0
NeedsNoMore sizes p call = IsPerformed sizes (entries_held (mine p)) call

-- why a block that a call needs next wasn't taken
abbrev pub IsTakeCause : CacheParameters → Numbers → PassState → Call → TakeFault → Type 0
IsTakeCause cache sizes p call (takes.Busy block holder) = NeedsNext sizes p call block × IsMissed cache p block (takes.Busy block holder)
IsTakeCause cache sizes p call takes.NoMemory = ⊤

-- Some reply and new contents perform a call on the blocks that are held, which were loaded whole, and with the new ones among these the
-- running transaction would have more blocks than a record.
pub record HasNoRoom (sizes : Numbers) (p : PassState) (running : Transaction) (call : Call) (have more : ℕ) : Type 0 where
  pub root : holds p (root_block sizes) ≡ true
  pub reply : Reply
  pub written : Contents
  pub performs : Performs sizes (entries_held (mine p)) written call reply
  pub read : (b : ℕ) (h : Hold) → finmap.get (mine p).held b ≡ Some h → IsRead h
  pub have_is : have ≡ length running.parts
  pub more_is : more ≡ new_count running.parts written
  pub past : MAX_RECORD_BLOCKS < have + more

-- Why a handle wasn't stopped, as it stands then: another core has a block that it needs next; or its new contents have no room in the
-- running transaction; or memory ran out.
abbrev pub IsStopCause : CacheParameters → Numbers → PassState → Transaction → Call → StopFault → Type 0
IsStopCause cache sizes p running call (stops.Busy block holder) = IsTakeCause cache sizes p call (takes.Busy block holder)
IsStopCause cache sizes p running call (stops.TxFull have more) = HasNoRoom sizes p running call have more
IsStopCause cache sizes p running call stops.NoMemory = ⊤

-- A handle was stopped: the core has one operation more, with the ticket answered and the number of the running transaction. It found
-- what the handle held, the root's block, and blocks beside that were free and that the call may take; and on them it performs the
-- call with the reply answered. The core holds nothing any more.
pub record Performed (cache : CacheParameters) (sizes : Numbers) (number : ℕ) (old new : PassState) (call : Call) (done : Done) : Type 0 where
  pub operation : Operation
  pub ticket : operation.ticket ≡ done.ticket
  pub core : operation.core ≡ old.core
  pub number_is : operation.number ≡ number
  pub kept : (b : ℕ) (content : List ℕ) → content_held (mine old) b ≡ Some content → content_under (contents_found operation) b ≡ Some content
  pub root : IsSome (content_under (contents_found operation) (root_block sizes))
  pub free : (b : ℕ) → IsSome (content_under (contents_found operation) b) → holds old b ≡ false → IsFree old b
  pub foot : (b : ℕ) → IsSome (content_under (contents_found operation) b) → holds old b ≡ false → Always sizes (contents_found operation) (λ image. Foot sizes image call b)
  pub performs : Performs sizes (contents_found operation) operation.written call done.reply
  pub pass : new ≡ now_knowing old (with_operation (mine old) operation)
  pub knows : Knows cache new

-- A running transaction has one operation more.
abbrev pub IsOneMore : Transaction → Transaction → Type 0
IsOneMore old new = new ≡ record old { handles = old.handles + 1; follows = new.follows; parts = new.parts; room = None }

-- An operation that a pass has entered joined a running transaction: whatever operations that kept, it keeps with this one behind them.
-- The blocks that it has more are blocks of the image, and it has no more than a record.
pub record Joins (sizes : Numbers) (old new : Transaction) (before after : PassState) : Type 0 where
  pub operation : Operation
  pub entered : (mine after).operations ≡ (mine before).operations ++ operation ∷ []
  pub core : operation.core ≡ before.core
  pub number : operation.number ≡ old.number
  pub keeps : (operations : List Operation) → Keeps operations old → Keeps (operations ++ operation ∷ []) new
  pub ascending : Ascends 0 new.parts
  pub blocks : length new.parts ≤ MAX_RECORD_BLOCKS
  pub within : (block : ℕ) → IsSome (image_in new.parts block) → IsSome (image_in old.parts block) ⊎ (block < sizes.blocks)

-- On the way of a call that may be begun, blocks were taken that it may take, and there it can't be stopped.
pub record IsHeldUp {D : Type 0} (cache : CacheParameters) (c : CoreState D) (call : Call) (fault : StopFault) : Type 0 where
  pub may : MayBegin c
  pub middle : PassState
  pub taken : TakesMore cache c.pass middle
  pub foot : TakesFor c.sizes c.pass middle call
  pub cause : IsStopCause cache c.sizes middle c.running call fault

-- Why a call that is begun and stopped at once isn't made: it isn't begun; or it is held up, by another core or by want of room in the
-- running transaction; or memory ran out.
abbrev pub IsCallCause : {D : Type 0} → CacheParameters → CoreState D → Call → CallFault → Type 0
IsCallCause cache c call (calls.Failed core) = IsBeginCause c (begins.Failed core)
IsCallCause cache c call (calls.Spent drawn) = IsBeginCause c (begins.Spent drawn)
IsCallCause cache c call (calls.JournalFull need free) = IsBeginCause c (begins.JournalFull need free)
IsCallCause cache c call (calls.Busy block holder) = IsHeldUp cache c call (stops.Busy block holder)
IsCallCause cache c call (calls.TxFull have more) = IsHeldUp cache c call (stops.TxFull have more)
IsCallCause cache c call calls.NoMemory = ⊤
