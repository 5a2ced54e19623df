-- How `play` ends, by how its schedule was read and played, and how the devices were opened and closed.
use Rattle.std.proofs.Common.{◌≡◌, ◌⊎◌, inl, inr, ◌++◌, ℕ, List, [], map, Option, Some, None, sym, ap, subst, ◌∙◌, append-nil, arith}
use Rattle.std.specs.List.{flat_map}
use Rattle.std.specs.Prelude.{IfErr, IsErr, OnErr, OnOk, Result, Ok, Err, option_map, ⊤}
use Rattle.std.specs.Result.{result_and, result_err}
use Rattle.zj_dev.specs.Fault.{Rose}
use Rattle.zj_dev.specs.Stream.{Took}
use Rattle.zj_block.specs.Sizes.{Numbers}
use Rattle.zj_history.specs.Operation.{Operation}
use Rattle.zj_layout.specs.Image.{State}
use Rattle.zj_script.specs.declared.answer.Answer.{Answer}
use Rattle.zj_session.specs.Played.{Fit, IsRun, Played}
use Rattle.zj_session.specs.Playing.{answer_of}
use Rattle.zj_tree.specs.Tree.{FileTree}
use Rattle.zj_script.specs.declared.line.Line.{Line}
use Rattle.zj_script.specs.Answers.{answer_text}
use Rattle.zj_script.specs.Script.{IsSchedule}
use Rattle.zj_cli.specs.declared.phase.Phase.{Phase}
use Rattle.zj_cli.specs.declared.status.Fault.{Fault}
use Rattle.zj_cli.specs.declared.status.Fault.TheVariants as faults
use Rattle.zj_cli.specs.Asked.{RefusesInput}
use Rattle.zj_cli.specs.Outside.{Outside}
use Rattle.zj_dev.specs.Shelf.{ShelfView}
use Rattle.zj_cli.specs.Mount.{IsTreeCause}
use Rattle.zj_cli.specs.Play.{IsInputCause, IsMountDeviceCause, IsUnmounted, IsUnread, PlayEnds, PlaysFrom, Reads, ReadsInput, StopsEarly}
use Rattle.zj_cli.specs.Faults.{fault_of_opening}
use Rattle.zj_dev.specs.declared.device.Device.TheVariants as devices
use Rattle.zj_mount.specs.declared.fault.OpenFault.{OpenFault}
use Rattle.zj_mount.specs.declared.fault.OpenFault.TheVariants as opens
use Rattle.zj_mount.specs.Opening.{IsOpenCause}
use Rattle.zj_cli.proofs.Ends.{FailsToClose}

-- ---- why no schedule was read

pub input_failed : (cores : ℕ) (left now : Option (List ℕ)) (f f' : ℕ) (fault : Fault) → (read : List ℕ) × Reads left now read → (fault ≡ faults.Memory) ⊎ ((fault ≡ faults.Input) × Rose f f') → IsInputCause cores left now f f' fault
input_failed cores left now f f' fault read (inl memory) = subst (IsInputCause cores left now f f') (sym memory) read
input_failed cores left now f f' fault read (inr input) = subst (IsInputCause cores left now f f') (sym input.0) (read, input.1)

pub input_refused : (cores : ℕ) (left now : Option (List ℕ)) (f f' : ℕ) (text : List ℕ) (fault : Fault) → RefusesInput cores text fault → ReadsInput left now text → IsInputCause cores left now f f' fault
input_refused cores left now f f' text (faults.Script kind line column) place input = (text, input, place)
input_refused cores left now f f' text faults.Memory refused input = (text, input.reads)
input_refused cores left now f f' text faults.Words refused input = cc
input_refused cores left now f f' text (faults.Image fault) refused input = cc
input_refused cores left now f f' text (faults.Device device) refused input = cc
input_refused cores left now f f' text faults.Input refused input = cc
input_refused cores left now f f' text faults.Output refused input = cc

-- ---- how `play` ends, by how the script was played and how the devices were closed

-- why the devices give no tree
abbrev pub IsTreesCause : ShelfView → ShelfView → ℕ → ℕ → Fault → Type 0
IsTreesCause before now old new (faults.Image fault) = IsTreeCause before fault
IsTreesCause before now old new (faults.Device device) = IsMountDeviceCause before now old new device
IsTreesCause before now old new faults.Memory = ⊤
IsTreesCause before now old new fault = ⊥

module _ (before after : Outside) (phases : List Phase) where
  -- the script was played, or not read at all
  abbrev pub IsPlayed : {T : Type 0} → Result T Fault → Type 0
  IsPlayed played = PlaysFrom before after phases (result_err played)
      ⊎ (IfErr played (IsTreesCause before.names after.names before.shelf_faults after.shelf_faults) × IsErr played × IsUnmounted before after phases)

  pub early : IsUnread before after → StopsEarly before after
  early unread = record { read = []; reads = record { gave = none before.left after.left unread.0; at_most = omega arith }; unwritten = unread.1 }
    where
      none : (old new : Option (List ℕ)) → new ≡ old → old ≡ option_map (λ rest. [] ++ rest) new
      none None new e = sym (ap (option_map (λ rest. [] ++ rest)) e)
      none (Some rest) new e = sym (ap (option_map (λ rest. [] ++ rest)) e)

  script : (fault : Fault) → PlaysFrom before after phases (Some fault) → PlayEnds before after phases (Some fault)
  script (faults.Script kind line column) plays = plays
  script faults.Memory plays = plays.script
  script faults.Input plays = plays
  script faults.Output plays = plays
  script faults.Words plays = absurd plays.script
  script (faults.Image fault) plays = absurd plays.script
  script (faults.Device device) plays = inr (inr plays)

  pub unplayed : (fault : Fault) → IsTreesCause before.names after.names before.shelf_faults after.shelf_faults fault → IsUnmounted before after phases → PlayEnds before after phases (Some fault)
  unplayed (faults.Image fault) cause none = (cause, none)
  unplayed (faults.Device device) cause none = inl (cause, none)
  unplayed faults.Memory cause none = early none.0
  unplayed faults.Words cause none = absurd cause
  unplayed (faults.Script kind line column) cause none = absurd cause
  unplayed faults.Input cause none = absurd cause
  unplayed faults.Output cause none = absurd cause

  dead : {T : Type 0} (x : T) → IsErr {T = T} {E = Fault} (Ok x) → ⊥
  dead x is = cc

  pub play_ends : {T U : Type 0} (played : Result T Fault) (closed : Result U Fault) → IsPlayed played → OnOk closed (after.shelf_faults ≡ before.shelf_faults) → IfErr closed (FailsToClose before after) → PlayEnds before after phases (result_err (result_and played closed))
  play_ends (Ok x) (Ok y) (inl from) quiet failed = (from, quiet)
  play_ends (Ok x) (Err fault) (inl from) quiet failed = subst (λ (f : Fault). PlayEnds before after phases (Some f)) (sym failed.1) (inr (inl (from, failed.3)))
  play_ends (Ok x) closed (inr none) quiet failed = absurd (dead x none.1)
  play_ends (Err fault) closed (inl from) quiet failed = script fault from
  play_ends (Err fault) closed (inr none) quiet failed = unplayed fault none.0 none.2

-- ---- why an image was not opened

open_trees : (before now : ShelfView) (f f' : ℕ) (fault : OpenFault) → IsOpenCause before now f f' fault → IsTreesCause before now f f' (fault_of_opening fault)
open_trees before now f f' (opens.DiskFault devices.Home) cause = inr cause
open_trees before now f f' (opens.DiskFault (devices.Journal core)) cause = absurd cause
open_trees before now f f' (opens.ShelfFault devices.Home) cause = inl cause
open_trees before now f f' (opens.ShelfFault (devices.Journal core)) cause = inl (inl cause)
open_trees before now f f' opens.NoMemory cause = tt
open_trees before now f f' (opens.Absent device) cause = inl cause
open_trees before now f f' (opens.NotAnImage at) cause = inl cause
open_trees before now f f' (opens.Version found) cause = inl cause
open_trees before now f f' (opens.Sizes device found expected) cause = inl cause

pub unopened : (before after : Outside) (phases : List Phase) (opening : OpenFault) (fault : Fault) → fault ≡ fault_of_opening opening → IsOpenCause before.names after.names before.shelf_faults after.shelf_faults opening → IsUnread before after → phases ≡ []
    → PlayEnds before after phases (Some fault)
unopened before after phases opening fault is cause unread none =
    subst (λ (f : Fault). PlayEnds before after phases (Some f)) (sym is) (unplayed before after phases (fault_of_opening opening) (open_trees before.names after.names before.shelf_faults after.shelf_faults opening cause) (unread, inl none))
