-- Commands, faults and statuses.
use Rattle.std.specs.Prelude.{◌≡◌, ◌⊎◌, ℕ, List, [], ◌∷◌, Option, Some, None, codes, decimal, ⊤}
use Rattle.zj_block.specs.Sizes.{Numbers, IsInLimits, numbers_of}
use Rattle.zj_block.specs.declared.sizes.TheConstants.{VERSION}
use Rattle.zj_cli.specs.declared.phase.Phase.{Phase}
use Rattle.zj_cli.specs.declared.status.Fault.{Fault}
use Rattle.zj_cli.specs.declared.status.Fault.TheVariants as faults
use Rattle.zj_cli.specs.declared.status.Status.{Status}
use Rattle.zj_cli.specs.declared.tool.Reading.{Reading}
use Rattle.zj_cli.specs.declared.tool.Reading.TheVariants as readings

-- the fault that a status tells
abbrev pub fault_of : Status → Option Fault
fault_of status = status.fault

-- the phases that a status tells
abbrev pub phases_of : Status → List Phase
phases_of status = status.phases.items

-- the code of a fault, and 0 where there is none
abbrev pub code_of_fault : Option Fault → ℕ
code_of_fault None = 0
code_of_fault (Some faults.Words) = 1
code_of_fault (Some (faults.Script kind line column)) = 2
code_of_fault (Some (faults.Image fault)) = 3
code_of_fault (Some (faults.Device device)) = 4
code_of_fault (Some faults.Memory) = 5
code_of_fault (Some faults.Input) = 6
code_of_fault (Some faults.Output) = 7

-- the code of a status
abbrev pub code_of : Status → ℕ
code_of status = code_of_fault (fault_of status)

-- what the words of a command line ask for
pub data Command : Type 0 where
  Make : Numbers → Command
  Play : Command
  Check : Command
  Dump : Command

-- a command that reads an image
abbrev pub command_of : Reading → Command
command_of readings.Play = Play
command_of readings.Check = Check
command_of readings.Dump = Dump

-- the sizes of an image that `make` alone makes
abbrev pub usual_sizes : Numbers
usual_sizes = numbers_of VERSION 4096 1024 4 1048576

-- the words that `make` is given sizes by
abbrev pub size_words : Numbers → List (List ℕ)
size_words sizes = decimal sizes.blocks ∷ decimal sizes.nodes ∷ decimal sizes.cores ∷ decimal sizes.area ∷ []

-- The words ask for the command. `make` may be alone, or with four numbers that an image may have.
abbrev pub Asks : List (List ℕ) → Command → Type 0
Asks words Play = words ≡ codes "play" ∷ []
Asks words Check = words ≡ codes "check" ∷ []
Asks words Dump = words ≡ codes "dump" ∷ []
Asks words (Make sizes) = IsInLimits sizes × ((words ≡ codes "make" ∷ size_words sizes) ⊎ ((words ≡ codes "make" ∷ []) × (sizes ≡ usual_sizes)))

-- The fault comes before the command writes to the output.
abbrev pub IsBeforeWriting : Command → Fault → Type 0
IsBeforeWriting Play (faults.Script kind line column) = ⊤
IsBeforeWriting Play faults.Memory = ⊤
IsBeforeWriting Play faults.Input = ⊤
IsBeforeWriting Play (faults.Image fault) = ⊤
IsBeforeWriting Check (faults.Image fault) = ⊤
IsBeforeWriting Check faults.Memory = ⊤
IsBeforeWriting Dump (faults.Image fault) = ⊤
IsBeforeWriting Dump faults.Memory = ⊤
IsBeforeWriting command fault = ⊥
