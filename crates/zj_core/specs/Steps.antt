-- What taking, storing and giving do to a pass.
use Rattle.std.specs.Prelude.{◌≡◌, ◌≢◌, ◌⊎◌, ℕ, ◌<◌, true, false, [], ◌∷◌, ◌++◌, Some, ⊤}
use Rattle.std.specs.FinMap as finmap
use Rattle.zj_block.specs.Lists.{Entries}
use Rattle.zj_block.specs.Sizes.{Numbers}
use Rattle.zj_history.specs.Operation.{Contents, Operation}
use Rattle.zj_tree.specs.Tree.{FileTree}
use Rattle.zj_layout.specs.Image.{State}
use Rattle.zj_layout.specs.Shows.{ShowsSome, put_blocks}
use Rattle.zj_dirs.specs.Possible.{IsPossible}
use Rattle.zj_turns.specs.Views.{Hold, Known, found_in, hold_in, holding, giving, stored_as}
use Rattle.zj_turns.specs.Passes.{CacheParameters, KnowsHistory, PassState, holds, mine, now_knowing}
use Rattle.zj_tx.specs.declared.fault.RoomFault.{RoomFault}
use Rattle.zj_tx.specs.declared.fault.RoomFault.TheVariants as rooms
use Rattle.zj_core.specs.declared.fault.TakeFault.{TakeFault}
use Rattle.zj_core.specs.declared.fault.TakeFault.TheVariants as faults
use Rattle.zj_core.specs.declared.fault.BeginFault.{BeginFault}
use Rattle.zj_core.specs.declared.fault.BeginFault.TheVariants as begins
use Rattle.zj_core.specs.declared.fault.CallFault.{CallFault}
use Rattle.zj_core.specs.declared.fault.CallFault.TheVariants as calls
use Rattle.zj_core.specs.declared.fault.StopFault.{StopFault}
use Rattle.zj_core.specs.declared.fault.StopFault.TheVariants as stops

-- no core that a pass knows holds the block
abbrev pub IsFree : PassState → ℕ → Type 0
IsFree p b = (core : ℕ) (k : Known) → finmap.get p.view.known core ≡ Some k → finmap.contains_key k.held b ≡ false

-- One history of the cache has all that a pass knows.
abbrev pub Knows : CacheParameters → PassState → Type 0
Knows cache p = KnowsHistory (ShowsSome cache.sizes) cache.cores cache.start p.view

-- what a core holds more, and nothing else
pub record HoldsMore (old new : Known) : Type 0 where
  pub operations : new.operations ≡ old.operations
  pub drawn : new.drawn ≡ old.drawn
  pub ticket : new.ticket ≡ old.ticket
  pub number : new.number ≡ old.number
  pub kept : (b : ℕ) (h : Hold) → finmap.get old.held b ≡ Some h → finmap.get new.held b ≡ Some h

-- A pass took blocks and did nothing else: none of them was held by a core that it knows, and where it took any, one history has what
-- it knows then.
pub record TakesMore (cache : CacheParameters) (old new : PassState) : Type 0 where
  pub more : HoldsMore (mine old) (mine new)
  pub only : new ≡ now_knowing old (mine new)
  pub free : (b : ℕ) → holds new b ≡ true → holds old b ≡ false → IsFree old b
  pub knows : (new ≡ old) ⊎ Knows cache new

-- Why a block wasn't taken: another core of the cache is told, and where the pass has met that core, it holds the block; or memory ran out.
abbrev pub IsMissed : CacheParameters → PassState → ℕ → TakeFault → Type 0
IsMissed cache p b (faults.Busy block holder) = (block ≡ b) × (holder ≢ p.core) × (holder < cache.cores)
    × ((k : Known) → finmap.get p.view.known holder ≡ Some k → finmap.contains_key k.held b ≡ true)
IsMissed cache p b faults.NoMemory = ⊤

-- the fault of a block that wasn't taken, as it keeps a handle from being stopped
abbrev pub stopped_by : TakeFault → StopFault
stopped_by (faults.Busy block holder) = stops.Busy block holder
stopped_by faults.NoMemory = stops.NoMemory

-- the fault of new contents that have no room in the running transaction
abbrev pub roomless_by : RoomFault → StopFault
roomless_by (rooms.TxFull have more) = stops.TxFull have more
roomless_by rooms.NoMemory = stops.NoMemory

-- and a fault of beginning or stopping, as it keeps a call from being made
abbrev pub unbegun_by : BeginFault → CallFault
unbegun_by (begins.Failed core) = calls.Failed core
unbegun_by (begins.Spent drawn) = calls.Spent drawn
unbegun_by (begins.JournalFull need free) = calls.JournalFull need free
unbegun_by begins.NoMemory = calls.NoMemory

abbrev pub unstopped_by : StopFault → CallFault
unstopped_by (stops.Busy block holder) = calls.Busy block holder
unstopped_by (stops.TxFull have more) = calls.TxFull have more
unstopped_by stops.NoMemory = calls.NoMemory

-- contents stored into blocks that are held, one after the other from the last on
abbrev pub stored_into : Known → Entries → Known
stored_into k [] = k
stored_into k (e ∷ entries) = holding (stored_into k entries) e.0 (stored_as (hold_in (stored_into k entries) e.0).loaded e.1)

-- blocks given back, one after the other from the last on
abbrev pub given_back : Known → Entries → Known
given_back k [] = k
given_back k (e ∷ entries) = giving (given_back k entries) e.0

-- New contents leave some tree, in every state that shows one and has the blocks as they were found.
abbrev pub KeepsTree : Numbers → Entries → Contents → Type 0
KeepsTree sizes found written = (state : State) (tree : FileTree) → IsPossible sizes found state tree → ShowsSome sizes (put_blocks state written)

-- a core that holds nothing any more, and else as before
abbrev pub emptied : Known → Known
emptied k = record { operations = k.operations; held = finmap.empty; drawn = false; ticket = k.ticket; number = k.number }

-- a core with one operation more, which holds nothing any more
abbrev pub with_operation : Known → Operation → Known
with_operation k o = record { operations = k.operations ++ o ∷ []; held = finmap.empty; drawn = false; ticket = o.ticket; number = o.number }

-- A pass drew a ticket: it has one operation more, which found what was held and wrote these contents, and holds nothing any more.
pub record Draws (cache : CacheParameters) (old new : PassState) (written : Contents) (number ticket : ℕ) : Type 0 where
  pub operation : Operation
  pub ticket_is : operation.ticket ≡ ticket
  pub core_is : operation.core ≡ old.core
  pub number_is : operation.number ≡ number
  pub found : operation.found ≡ found_in (mine old).held
  pub written_is : operation.written ≡ written
  pub pass : new ≡ now_knowing old (with_operation (mine old) operation)
  pub knows : Knows cache new
