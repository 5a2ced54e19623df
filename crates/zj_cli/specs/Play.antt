-- What `play` does, by the fault that it ends with.
use Rattle.std.specs.Prelude.{◌≡◌, ◌⊎◌, ℕ, ◌+◌, ◌<◌, ◌≤◌, true, false, List, [], ◌++◌, length, map, Option, Some, None, IfSome}
use Rattle.std.specs.List.{All, flat_map}
use Rattle.zj_block.specs.declared.sizes.TheConstants.{MAX_CORES}
use Rattle.zj_dev.specs.Fault.{Rose}
use Rattle.zj_dev.specs.Disk.{Continues, DiskView}
use Rattle.zj_dev.specs.Shelf.{ShelfView}
use Rattle.zj_dev.specs.Stream.{Gave, Took}
use Rattle.zj_dev.specs.declared.device.Device.{Device}
use Rattle.zj_dev.specs.declared.device.Device.TheVariants as devices
use Rattle.zj_dev.specs.declared.span.Span.{Span}
use Rattle.zj_home.specs.Super.{Super}
use Rattle.zj_history.specs.Operation.{Operation}
use Rattle.zj_layout.specs.Image.{State}
use Rattle.zj_tree.specs.Tree.{FileTree}
use Rattle.zj_script.specs.declared.answer.Answer.{Answer}
use Rattle.zj_script.specs.declared.line.Line.{Line}
use Rattle.zj_script.specs.Answers.{answer_text}
use Rattle.zj_script.specs.declared.script.TheConstants.{MAX_BYTES}
use Rattle.zj_script.specs.Script.{IsSchedule}
use Rattle.zj_session.specs.Crashes.{CrashesRecover}
use Rattle.zj_session.specs.Logging.{FitsLog, fails_in, standing_at}
use Rattle.zj_session.specs.Played.{Fit, IsRun, Played}
use Rattle.zj_session.specs.Playing.{Past, PlaysLines, ServiceState, answer_of}
use Rattle.zj_mount.specs.Image.{HasHome, HasJournals, RoseUnder}
use Rattle.zj_mount.specs.Set.{AllBack, AllBackAs, IsBack, journal_name}
use Rattle.zj_mount.specs.Settling.{Settles}
use Rattle.zj_cli.specs.declared.phase.Phase.{Phase}
use Rattle.zj_cli.specs.declared.status.Fault.{Fault}
use Rattle.zj_cli.specs.declared.status.Fault.TheVariants as faults
use Rattle.zj_cli.specs.Asked.{AreBuilt, IsRefusedAt}
use Rattle.zj_cli.specs.Check.{IsDeviceCause}
use Rattle.zj_cli.specs.Mount.{IsTreeCause, Mounts}
use Rattle.zj_cli.specs.Outside.{IsUnwritten, Outside}
use Rattle.zj_cli.specs.Phases.{ArePhases, AreUnder, HasRound, JournalFailsIn, PhasesBegin}

-- A source gave these bytes, one more at most than a schedule may have.
pub record Reads (old new : Option (List ℕ)) (read : List ℕ) : Type 0 where
  pub gave : Gave old new read
  pub at_most : length read ≤ MAX_BYTES + 1

-- It gave all that it had, or that one byte more.
pub record ReadsInput (old new : Option (List ℕ)) (read : List ℕ) : Type 0 where
  pub reads : Reads old new read
  pub to_end : IfSome new (λ rest. rest ≡ []) ⊎ (length read ≡ MAX_BYTES + 1)

-- the lowest core of which a commit failed in lines, if one did
abbrev pub IsLowestFailed : List Played → Option ℕ → Type 0
IsLowestFailed played None = (core : ℕ) → fails_in played core ≡ false
IsLowestFailed played (Some core) = (fails_in played core ≡ true) × ((lower : ℕ) → lower < core → fails_in played lower ≡ false)

-- Lines were begun: what was read is a schedule for an image, whose acts are all built, and its first lines, or all, were played. They, their
-- answers and one history from the image's blocks on fit, also in what the answers say of the cores' transactions; the replies are the plain
-- service's in turn from the tree on; and each crash within the round recovers to a cut of that history, on the disks where they are told.
pub record LeavesCuts (super : Super) (start : State) (tree : FileTree) (Stand : List DiskView → Type 0) (left now : Option (List ℕ)) (spans : List Span) : Type 0 where
  pub read : List ℕ
  pub lines : List Line
  pub rest : List Line
  pub played : List Played
  pub history : List Operation
  pub input : ReadsInput left now read
  pub is_schedule : IsSchedule super.sizes.cores read lines
  pub built : AreBuilt lines
  pub front : map (λ p. p.0) played ++ rest ≡ lines
  pub fit : Fit super.sizes start [] played history
  pub fits_log : FitsLog super.sizes super.tails start [] (standing_at super.tails) played history
  pub run : IsRun super.sizes tree played
  pub recovers : (disks : List DiskView) → Stand disks → CrashesRecover disks spans super.sizes super.tails start tree run.calls run.replies played history

-- All lines of the schedule were played in a round, and leave such cuts. A commit of a core failed only where its journal did, and in the round,
-- as far as the disks tell. The answers were written but for the rest. This is the lowest core of which a commit failed, if one did.
pub record Plays (super : Super) (start : State) (tree : FileTree) (Stand : List DiskView → Type 0) (Rounds : List Span → Type 0) (Fails : ℕ → Type 0) (before after : Outside) (failed : Option ℕ) (rest : List ℕ) : Type 0 where
  pub spans : List Span
  pub round : Rounds spans
  pub cuts : LeavesCuts super start tree Stand before.left after.left spans
  pub all_played : cuts.rest ≡ []
  pub fails : (core : ℕ) → fails_in cuts.played core ≡ true → Fails core
  pub fails_in_round : (disks : List DiskView) → Stand disks → (core : ℕ) → fails_in cuts.played core ≡ true → JournalFailsIn disks spans core
  pub lowest : IsLowestFailed cuts.played failed
  pub written : List ℕ
  pub text : written ++ rest ≡ flat_map answer_text (map answer_of cuts.played)
  pub took : Took before.held after.held written

-- What was read is refused, at the first place that is no schedule for so many cores or asks for what isn't built.
pub record RefusesScript (cores : ℕ) (before after : Outside) (kind line column : ℕ) : Type 0 where
  pub read : List ℕ
  pub input : ReadsInput before.left after.left read
  pub place : IsRefusedAt cores read kind line column
  pub unwritten : IsUnwritten before after

-- Reading stopped early, or memory ran out.
pub record StopsEarly (before after : Outside) : Type 0 where
  pub read : List ℕ
  pub reads : Reads before.left after.left read
  pub unwritten : IsUnwritten before after

-- No line was begun.
abbrev pub IsNotBegun : (List Span → Type 0) → Type 0
IsNotBegun Rounds = (spans : List Span) → Rounds spans → ⊥

-- How reading and playing a schedule ends, on an image whose blocks show a tree.
abbrev pub ScriptEnds : Super → State → FileTree → (List DiskView → Type 0) → (List Span → Type 0) → (ℕ → Type 0) → Outside → Outside → Option Fault → Type 0
ScriptEnds super start tree Stand Rounds Fails before after None = Plays super start tree Stand Rounds Fails before after None [] × (after.input_faults ≡ before.input_faults) × (after.output_faults ≡ before.output_faults)
ScriptEnds super start tree Stand Rounds Fails before after (Some (faults.Script kind line column)) = RefusesScript super.sizes.cores before after kind line column × IsNotBegun Rounds
ScriptEnds super start tree Stand Rounds Fails before after (Some (faults.Device (devices.Journal core))) =
    (rest : List ℕ) × Plays super start tree Stand Rounds Fails before after (Some core) rest × ((rest ≡ []) ⊎ Rose before.output_faults after.output_faults)
ScriptEnds super start tree Stand Rounds Fails before after (Some faults.Memory) = StopsEarly before after
ScriptEnds super start tree Stand Rounds Fails before after (Some faults.Input) = StopsEarly before after × Rose before.input_faults after.input_faults × IsNotBegun Rounds
ScriptEnds super start tree Stand Rounds Fails before after (Some faults.Output) = ((rest : List ℕ) × Plays super start tree Stand Rounds Fails before after None rest) × Rose before.output_faults after.output_faults
ScriptEnds super start tree Stand Rounds Fails before after (Some fault) = ⊥

-- The image on the shelf shows a tree, and playing a schedule from it on ended so. Mounting it was a phase, and so was the round of its lines,
-- where these were begun.
pub record PlaysFrom (before after : Outside) (phases : List Phase) (fault : Option Fault) : Type 0 where
  pub super : Super
  pub start : State
  pub tree : FileTree
  pub mounts : Mounts before.names super start tree
  pub phases_are : ArePhases super.sizes.cores (AreUnder super.sizes.cores after.names) phases
  pub script : ScriptEnds super start tree (AreUnder super.sizes.cores after.names) (HasRound phases) (λ core. RoseUnder (before.names (journal_name core)) (after.names (journal_name core))) before after fault

-- Neither was the input read nor the output written.
abbrev pub IsUnread : Outside → Outside → Type 0
IsUnread before after = (after.left ≡ before.left) × IsUnwritten before after

-- The image was not mounted, and no stream was touched: there is no phase; or the image was opened, and there is a mount alone.
abbrev pub IsUnmounted : Outside → Outside → List Phase → Type 0
IsUnmounted before after phases = IsUnread before after × ((phases ≡ []) ⊎ ((super : Super) × HasHome before.names super × ArePhases super.sizes.cores (AreUnder super.sizes.cores after.names) phases × (length phases ≡ 1)))

-- Why a device failed before the input was read: as it was opened or read; or an image was opened, and its journal failed as it was settled.
abbrev pub IsMountDeviceCause : ShelfView → ShelfView → ℕ → ℕ → Device → Type 0
IsMountDeviceCause before now old new devices.Home = IsDeviceCause before now old new devices.Home
IsMountDeviceCause before now old new (devices.Journal core) = IsDeviceCause before now old new (devices.Journal core)
    ⊎ ((super : Super) × HasHome before super × HasJournals before super super.sizes.cores × (core < super.sizes.cores) × RoseUnder (before (journal_name core)) (now (journal_name core)))

-- How `play` ends: before the input was read, as the image gives no tree or a device failed; or with the schedule; or, where that
-- was played to its end, with a fault of closing.
abbrev pub PlayEnds : Outside → Outside → List Phase → Option Fault → Type 0
PlayEnds before after phases None = PlaysFrom before after phases None × (after.shelf_faults ≡ before.shelf_faults)
PlayEnds before after phases (Some (faults.Image fault)) = IsTreeCause before.names fault × IsUnmounted before after phases
PlayEnds before after phases (Some (faults.Device device)) = (IsMountDeviceCause before.names after.names before.shelf_faults after.shelf_faults device × IsUnmounted before after phases)
    ⊎ (PlaysFrom before after phases None × Rose before.shelf_faults after.shelf_faults)
    ⊎ PlaysFrom before after phases (Some (faults.Device device))
PlayEnds before after phases (Some faults.Memory) = StopsEarly before after
PlayEnds before after phases (Some fault) = PlaysFrom before after phases (Some fault)

-- What a round leaves of an image that stood on the shelf, whichever fault it ended with, also where memory ran out.
abbrev pub LeavesImage : Outside → Outside → List Span → Type 0
LeavesImage before after spans = (super : Super) × (start : State) × (tree : FileTree) × Mounts before.names super start tree × LeavesCuts super start tree (AreUnder super.sizes.cores after.names) before.left after.left spans

-- There is no phase, and each device was only read; or an image was opened, and these are its phases.
abbrev pub PhasesTold : Outside → Outside → List Phase → Type 0
PhasesTold before after phases = ((phases ≡ []) × AllBack before.names after.names) ⊎ ((super : Super) × HasHome before.names super × ArePhases super.sizes.cores (AreUnder super.sizes.cores after.names) phases)

-- Each journal that is in none of these phases stands again where it stood, and was only read.
abbrev pub OthersAreBack : ShelfView → ShelfView → List Phase → Type 0
OthersAreBack before after phases = (core : ℕ) → core < MAX_CORES → All (λ phase. phase.devices ≤ core + 1) phases → IsBack (before (journal_name core)) (after (journal_name core))

-- What `play` does: however it ends, each device stands again where it stood. Home was only read and synced, and the image's journals went on. The
-- phases begin as the devices were opened; and where there was a round, each crash within it recovers to a cut, whichever fault it ended with.
pub record RunsPlay (before after : Outside) (phases : List Phase) (fault : Option Fault) : Type 0 where
  pub back : AllBackAs Settles Continues before.names after.names
  pub others : OthersAreBack before.names after.names phases
  pub phases_are : PhasesTold before after phases
  pub begins : PhasesBegin before.names after.names phases
  pub cuts : (spans : List Span) → HasRound phases spans → LeavesImage before after spans
  pub ends : PlayEnds before after phases fault

-- ---- on the way

-- Why no schedule for so many cores was read from an input: it is refused, it failed, or memory ran out.
abbrev pub IsInputCause : ℕ → Option (List ℕ) → Option (List ℕ) → ℕ → ℕ → Fault → Type 0
IsInputCause cores left now old new (faults.Script kind line column) = (read : List ℕ) × ReadsInput left now read × IsRefusedAt cores read kind line column
IsInputCause cores left now old new faults.Memory = (read : List ℕ) × Reads left now read
IsInputCause cores left now old new faults.Input = ((read : List ℕ) × Reads left now read) × Rose old new
IsInputCause cores left now old new fault = ⊥

-- A service has played these lines, and its answers were written but for the rest. This is the lowest core of which a commit failed, if one did;
-- and each such core is one of the service's.
pub record PlaysRound {D : Type 0} (view : D → DiskView) (old new : ServiceState D) (past : Past) (lines : List Line) (held now : Option (List ℕ)) (failed : Option ℕ) (rest : List ℕ) : Type 0 where
  pub answers : List Answer
  pub plays : PlaysLines view old new past lines [] answers
  pub within : (core : ℕ) → fails_in plays.played core ≡ true → core < length old.cores
  pub lowest : IsLowestFailed plays.played failed
  pub written : List ℕ
  pub text : written ++ rest ≡ flat_map answer_text (map answer_of plays.played)
  pub took : Took held now written

-- How the round ends that a service plays.
abbrev pub RoundEnds : {D : Type 0} → (D → DiskView) → ServiceState D → ServiceState D → Past → List Line → Option (List ℕ) → Option (List ℕ) → ℕ → ℕ → Option Fault → Type 0
RoundEnds view old new past lines held now faults_old faults_new None = PlaysRound view old new past lines held now None [] × (faults_new ≡ faults_old)
RoundEnds view old new past lines held now faults_old faults_new (Some (faults.Device (devices.Journal core))) =
    (rest : List ℕ) × PlaysRound view old new past lines held now (Some core) rest × ((rest ≡ []) ⊎ Rose faults_old faults_new)
RoundEnds view old new past lines held now faults_old faults_new (Some faults.Memory) = now ≡ held
RoundEnds view old new past lines held now faults_old faults_new (Some faults.Output) = ((rest : List ℕ) × PlaysRound view old new past lines held now None rest) × Rose faults_old faults_new
RoundEnds view old new past lines held now faults_old faults_new (Some fault) = ⊥
