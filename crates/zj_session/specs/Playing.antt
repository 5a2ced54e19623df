-- Several cores that play the lines of a schedule.
use Rattle.std.specs.Prelude.{◌≡◌, ℕ, ◌<◌, ◌&&◌, Bool, true, false, List, [], ◌++◌, map, Option, Some, None, IfSome, IsSomeAnd, MatchOption, slice_get}
use Rattle.std.specs.List.{All, list_any}
use Rattle.zj_block.specs.declared.numbers.Tail.{Tail}
use Rattle.zj_dev.specs.Disk.{Continues, DiskView}
use Rattle.zj_dev.specs.Fault.{Rose}
use Rattle.zj_dev.specs.declared.device.Device.TheVariants as devices
use Rattle.zj_closure.specs.Found.{Journals}
use Rattle.zj_block.specs.Sizes.{Numbers}
use Rattle.zj_area.specs.Journal.{AreaView}
use Rattle.zj_history.specs.Operation.{Operation}
use Rattle.zj_tree.specs.declared.call.Call.{Call}
use Rattle.zj_script.specs.declared.line.Line.{Line}
use Rattle.zj_script.specs.declared.answer.Answer.{Answer}
use Rattle.zj_turns.specs.Passes.{CacheParameters}
use Rattle.zj_core.specs.Core.{CoreState, IsReadyToCommit}
use Rattle.zj_session.specs.declared.playing.Stopped.{Stopped}
use Rattle.zj_session.specs.declared.playing.Stopped.TheVariants as stops
use Rattle.zj_session.specs.Answering.{IsHandled, area_onward, without_handle}
use Rattle.zj_session.specs.Crashes.{AreLogged, StandAsTold}
use Rattle.zj_session.specs.Logging.{FitsLog, Standing, fails_in, is_fault}
use Rattle.zj_session.specs.Played.{Fit, Played, is_on}
use Rattle.zj_session.specs.Service.{AreTogether, IsService}

-- answers in the order of their lines, and how many more have a place
pub record AnswerList : Type 0 where
  pub answers : List Answer
  pub spare : ℕ

-- what its cache was made with, and its cores
pub record ServiceState (D : Type 0) : Type 0 where
  pub cache : CacheParameters
  pub cores : List (CoreState D)

-- No handle is open.
abbrev pub AreIdle : {D : Type 0} → List (CoreState D) → Type 0
AreIdle cores = All (λ c. c.begun ≡ None) cores

-- What a service keeps between two schedules: its cores are of one cache, and no handle is open.
pub record AreResting {D : Type 0} (cache : CacheParameters) (cores : List (CoreState D)) : Type 0 where
  pub together : AreTogether cache cores
  pub idle : AreIdle cores

-- the journals of cores
abbrev pub journals_of : {D : Type 0} → List (CoreState D) → List (AreaView D)
journals_of cores = map (λ c. c.area) cores

-- Each journal is that of its core, for these sizes, and is ready to commit.
abbrev pub AreJournals : {D : Type 0} → Numbers → List (AreaView D) → Type 0
AreJournals sizes areas = (core : ℕ) → IfSome (slice_get areas core) (λ area. (area.core ≡ core) × (area.sizes ≡ sizes) × IsReadyToCommit area)

-- the core without the handle that is open for a call, if one is
abbrev pub rested : {D : Type 0} → CoreState D → Option Call → CoreState D
rested c None = c
rested c (Some call) = without_handle c

-- the core with no handle open: one that was is dropped
abbrev pub resting : {D : Type 0} → CoreState D → CoreState D
resting c = rested c c.begun

-- the journals are there still, each with its device gone on, and its end with it
abbrev pub JournalsGoOn : {D : Type 0} → (D → DiskView) → List (AreaView D) → List (AreaView D) → Type 0
JournalsGoOn view old new = (core : ℕ) → MatchOption (slice_get old core) (slice_get new core ≡ None) (λ a. IsSomeAnd (slice_get new core) (λ b. (b ≡ area_onward a b) × Continues (view a.device) (view b.device)))

-- A line can be played on so many cores: it is one of them, and its act is one of a handle's.
pub record IsPlayable (cores : ℕ) (line : Line) : Type 0 where
  pub core : IsSomeAnd line.core (λ core. core < cores)
  pub act : IsHandled line.act

-- the answer to a line
abbrev pub answer_of : Played → Answer
answer_of p = record { line = p.0.number; core = p.0.core; form = p.1 }

-- the answers tell that a commit of a core has failed
abbrev pub fault_told : List Answer → ℕ → Bool
fault_told answers core = list_any (λ a. is_on core a.core && is_fault a.form) answers

-- The fault that ends a schedule: none where no commit has failed in it, and else that of the journal of the lowest core of which one has.
abbrev pub IsLowestFault : List Answer → Option Stopped → Type 0
IsLowestFault answers None = (core : ℕ) → fault_told answers core ≡ false
IsLowestFault answers (Some (stops.Device (devices.Journal core))) = (fault_told answers core ≡ true) × ((lower : ℕ) → lower < core → fault_told answers lower ≡ false)
IsLowestFault answers (Some fault) = ⊥

-- what was done before a schedule: the history, the records that each core sealed, and how the cores stand; by tails, and since when the journals
-- keep the records
pub record Past : Type 0 where
  pub history : List Operation
  pub sealed : Journals
  pub standing : Standing
  pub tails : List Tail
  pub from : List ℕ

-- A service has this past: its cores serve calls, and have logged their history.
pub record HasPast {D : Type 0} (view : D → DiskView) (service : ServiceState D) (past : Past) : Type 0 where
  pub serves : IsService service.cache service.cores past.history
  pub logged : AreLogged view past.from past.tails service.cores past.history past.sealed
  pub stand : StandAsTold past.standing [] service.cores

-- The device of a core's journal failed where a commit of it has.
abbrev pub FaultsRose : {D : Type 0} → (D → DiskView) → List (CoreState D) → List (CoreState D) → List Played → Type 0
FaultsRose {D} view old new played = (i : ℕ) (a b : CoreState D) → slice_get old i ≡ Some a → slice_get new i ≡ Some b → fails_in played i ≡ true → Rose (view a.area.device).faults (view b.area.device).faults

-- Lines were played, all but the rest of them, and answered so, and one history fits them and what the cores have logged.
pub record PlaysLines {D : Type 0} (view : D → DiskView) (old new : ServiceState D) (past : Past) (lines rest : List Line) (answers : List Answer) : Type 0 where
  pub played : List Played
  pub later : List Operation
  pub sealed : Journals
  pub lines_are : map (λ p. p.0) played ++ rest ≡ lines
  pub answers_are : answers ≡ map answer_of played
  pub fit : Fit old.cache.sizes old.cache.start past.history played later
  pub fits_log : FitsLog old.cache.sizes past.tails old.cache.start past.history past.standing played later
  pub service : IsService new.cache new.cores later
  pub logged : AreLogged view past.from past.tails new.cores later sealed
  pub stand : StandAsTold past.standing played new.cores
  pub rose : FaultsRose view old.cores new.cores played
