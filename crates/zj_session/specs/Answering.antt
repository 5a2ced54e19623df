-- What a line does on its core, which knows what all cores know.
use Rattle.std.specs.Prelude.{◌≡◌, ◌⊎◌, ℕ, List, ◌++◌, ◌+◌, take, drop, Option, Some, None, slice_get, slice_set, ⊤}
use Rattle.zj_tree.specs.declared.call.Call.{Call}
use Rattle.zj_tree.specs.declared.call.Call.TheVariants as calls
use Rattle.zj_script.specs.declared.line.Act.{Act}
use Rattle.zj_script.specs.declared.line.Act.TheVariants as acts
use Rattle.zj_script.specs.declared.answer.Form.{Form}
use Rattle.zj_script.specs.declared.answer.Form.TheVariants as forms
use Rattle.zj_script.specs.declared.answer.SyncForm.TheVariants as syncs
use Rattle.zj_dev.specs.Disk.{Continues, DiskView}
use Rattle.zj_dev.specs.declared.device.Device.TheVariants as devices
use Rattle.zj_area.specs.Journal.{AreaView}
use Rattle.zj_turns.specs.Passes.{CacheParameters, mine, now_knowing}
use Rattle.zj_core.specs.Handle.{TakesFor}
use Rattle.zj_core.specs.Steps.{TakesMore, emptied}
use Rattle.zj_core.specs.declared.fault.TakeFault.TheVariants as takes
use Rattle.zj_core.specs.declared.fault.BeginFault.TheVariants as begins
use Rattle.zj_core.specs.declared.fault.CommitFault.TheVariants as commits
use Rattle.zj_core.specs.declared.fault.StopFault.TheVariants as stops
use Rattle.zj_core.specs.Committing.{Commits, FailsToCommit, IsCommitCause}
use Rattle.zj_core.specs.Core.{CoreState, HasNoRoom, IsBeginCause, IsHeldUp, IsOneMore, IsTakeCause, MayBegin, NeedsNoMore, Performed, TakesNext, number_of}
use Rattle.zj_session.specs.Gathering.{gathered, passes_of}

-- the acts that are built: a whole call, and a call step by step, but for an fsync, which waits for receipts; and a commit
abbrev pub IsHandled : Act → Type 0
IsHandled (acts.Call (calls.Fsync path)) = ⊥
IsHandled (acts.Begin (calls.Fsync path)) = ⊥
IsHandled (acts.Call call) = ⊤
IsHandled (acts.Begin call) = ⊤
IsHandled acts.Take = ⊤
IsHandled acts.Stop = ⊤
IsHandled acts.Drop = ⊤
IsHandled acts.Commit = ⊤
IsHandled act = ⊥

-- a core on which no call is begun: a commit of it has failed, or its journal is full
abbrev pub IsUnbegun : {D : Type 0} → CoreState D → Form → Type 0
IsUnbegun c (forms.Sync (syncs.Failed core)) = IsBeginCause c (begins.Failed core)
IsUnbegun c (forms.Full need free) = IsBeginCause c (begins.JournalFull need free)
IsUnbegun c form = ⊥

-- What an act does to its core, and its answer says, where no handle is open. A call is performed, or held up by another core or by want of room
-- in the running transaction; a handle is begun; or neither is begun. The running transaction is committed, or has no operation, or its
-- journal's device fails, or a commit has failed before. The other acts don't suit the core.
abbrev pub DoesIdle : {D : Type 0} → (D → DiskView) → CacheParameters → CoreState D → CoreState D → Act → Form → Type 0
DoesIdle view cache old new (acts.Call call) (forms.Drew ticket reply) =
    MayBegin old × Performed cache old.sizes (number_of old) old.pass new.pass call (record { ticket = ticket; reply = reply }) × IsOneMore old.running new.running × (new ≡ record old { pass = new.pass; running = new.running })
DoesIdle view cache old new (acts.Call call) (forms.Busy block holder) = IsHeldUp cache old call (stops.Busy block holder) × (new ≡ old)
DoesIdle view cache old new (acts.Call call) (forms.TxFull have more) = IsHeldUp cache old call (stops.TxFull have more) × (new ≡ old)
DoesIdle view cache old new (acts.Call call) form = IsUnbegun old form × (new ≡ old)
DoesIdle view cache old new (acts.Begin call) forms.Begun = MayBegin old × (new ≡ record old { begun = Some call })
DoesIdle view cache old new (acts.Begin call) form = IsUnbegun old form × (new ≡ old)
DoesIdle view cache old new acts.Commit (forms.Committed number) = (number ≡ number_of old) × Commits view old new
DoesIdle view cache old new acts.Commit forms.Empty = IsCommitCause view old new commits.Empty
DoesIdle view cache old new acts.Commit (forms.Sync (syncs.Failed core)) = IsCommitCause view old new (commits.Failed core)
DoesIdle view cache old new acts.Commit (forms.Sync (syncs.Fault device)) = (device ≡ devices.Journal old.pass.core) × FailsToCommit view old new
DoesIdle view cache old new acts.Take forms.Order = new ≡ old
DoesIdle view cache old new acts.Stop forms.Order = new ≡ old
DoesIdle view cache old new acts.Drop forms.Order = new ≡ old
DoesIdle view cache old new act form = ⊥

-- What it does where a handle is open for a call: the next block is taken, or none is needed, or another core has it; the call is
-- performed, or held up by another core or by want of room, where the handle keeps what it took; the handle is dropped; and the other acts
-- don't suit.
abbrev pub DoesOpen : {D : Type 0} → CacheParameters → CoreState D → CoreState D → Call → Act → Form → Type 0
DoesOpen cache old new call acts.Take (forms.Took block) = TakesNext cache old.sizes old.pass new.pass call block × (new ≡ record old { pass = new.pass })
DoesOpen cache old new call acts.Take forms.Ready = NeedsNoMore old.sizes old.pass call × (new ≡ old)
DoesOpen cache old new call acts.Take (forms.Busy block holder) = IsTakeCause cache old.sizes old.pass call (takes.Busy block holder) × (new ≡ old)
DoesOpen cache old new call acts.Stop (forms.Drew ticket reply) =
    Performed cache old.sizes (number_of old) old.pass new.pass call (record { ticket = ticket; reply = reply }) × IsOneMore old.running new.running × (new ≡ record old { pass = new.pass; begun = None; running = new.running })
DoesOpen cache old new call acts.Stop (forms.Busy block holder) =
    TakesMore cache old.pass new.pass × TakesFor old.sizes old.pass new.pass call × IsTakeCause cache old.sizes new.pass call (takes.Busy block holder) × (new ≡ record old { pass = new.pass })
DoesOpen cache old new call acts.Stop (forms.TxFull have more) =
    TakesMore cache old.pass new.pass × TakesFor old.sizes old.pass new.pass call × HasNoRoom old.sizes new.pass old.running call have more × (new ≡ record old { pass = new.pass })
DoesOpen cache old new call acts.Drop forms.Dropped = new ≡ record old { pass = now_knowing old.pass (emptied (mine old.pass)); begun = None }
DoesOpen cache old new call (acts.Call other) forms.Order = new ≡ old
DoesOpen cache old new call (acts.Begin other) forms.Order = new ≡ old
DoesOpen cache old new call acts.Commit forms.Order = new ≡ old
DoesOpen cache old new call act form = ⊥

-- what an act does, with the handle that is open or without
abbrev pub Does : {D : Type 0} → (D → DiskView) → CacheParameters → CoreState D → CoreState D → Option Call → Act → Form → Type 0
Does view cache old new None act form = DoesIdle view cache old new act form
Does view cache old new (Some call) act form = DoesOpen cache old new call act form

-- the core without the handle that was open, which gave back what it took
abbrev pub without_handle : {D : Type 0} → CoreState D → CoreState D
without_handle c = record c { pass = now_knowing c.pass (emptied (mine c.pass)); begun = None }

-- an area with another device, another end, and failed or not
abbrev pub area_onward : {D : Type 0} → AreaView D → AreaView D → AreaView D
area_onward old new = record old { device = new.device; end = new.end; failed = new.failed }

-- what it does changes no more of a core than what that knows of itself, its handle, its running transaction, and its journal's device and end
abbrev pub OnlyOwn : {D : Type 0} → CoreState D → CoreState D → Type 0
OnlyOwn old new = new ≡ record old { pass = now_knowing old.pass (mine new.pass); begun = new.begun; running = new.running; area = area_onward old.area new.area }

-- and its journal's device goes on
abbrev pub DeviceGoesOn : {D : Type 0} → (D → DiskView) → CoreState D → CoreState D → Type 0
DeviceGoesOn view old new = Continues (view old.area.device) (view new.area.device)

-- the cores but for the one at a place
abbrev pub others_than : {D : Type 0} → ℕ → List (CoreState D) → List (CoreState D)
others_than at cores = take at cores ++ drop (at + 1) cores

-- a core that has met all others of a list
abbrev pub met_all : {D : Type 0} → ℕ → List (CoreState D) → CoreState D → CoreState D
met_all at cores c = record c { pass = gathered c.pass (passes_of (others_than at cores)) }

-- A line was answered on the core at a place: it met all others, the act was answered so, and it parted from them. The others are as
-- they were, and the core knows of no core but its own.
pub record IsAnswered {D : Type 0} (view : D → DiskView) (cache : CacheParameters) (old new : List (CoreState D)) (at : ℕ) (act : Act) (form : Form) : Type 0 where
  pub core : CoreState D
  pub at_place : slice_get old at ≡ Some core
  pub after : CoreState D
  pub does : Does view cache (met_all at old core) after core.begun act form
  pub cores : new ≡ slice_set old at (record after { pass = now_knowing core.pass (mine after.pass) })

-- The cores after a line that ran out of memory: as they were, or without the handle that was open on the core at a place.
abbrev pub IsLeftOff : {D : Type 0} → List (CoreState D) → List (CoreState D) → ℕ → Type 0
IsLeftOff {D} old new at = (new ≡ old) ⊎ ((core : CoreState D) × (slice_get old at ≡ Some core) × (new ≡ slice_set old at (without_handle core)))
