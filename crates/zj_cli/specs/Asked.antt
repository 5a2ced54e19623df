-- What the lines of a schedule ask for: which acts are built, and where an input is refused.
use Rattle.std.specs.Prelude.{◌≡◌, ℕ, ◌+◌, Bool, true, false, List, ◌∷◌, ◌++◌, ◌⊎◌, length, All, IsTrue, Option, Some, None, nat_lt, if◌then◌else◌}
use Rattle.zj_tree.specs.declared.call.Call.TheVariants as calls
use Rattle.zj_script.specs.declared.fault.ScriptFault.TheVariants as refusals
use Rattle.zj_script.specs.declared.kind.Kind.TheVariants as kinds
use Rattle.zj_script.specs.declared.line.Act.{Act}
use Rattle.zj_script.specs.declared.line.Act.TheVariants as acts
use Rattle.zj_script.specs.declared.line.Line.{Line}
use Rattle.zj_script.specs.Refusals.{kind_number}
use Rattle.zj_script.specs.Script.{IsFrontOfSchedule, IsNoSchedule}
use Rattle.zj_cli.specs.declared.status.Fault.{Fault}
use Rattle.zj_cli.specs.declared.status.Fault.TheVariants as faults

-- whether an act is built: each whole call is, but for an fsync, each step of a handle, but for a look, and a commit
abbrev pub is_built : Act → Bool
is_built (acts.Call (calls.Fsync path)) = false
is_built (acts.Begin (calls.Fsync path)) = false
is_built (acts.Call call) = true
is_built (acts.Begin call) = true
is_built acts.Take = true
is_built acts.Stop = true
is_built acts.Drop = true
is_built acts.Commit = true
is_built act = false

-- each line asks for an act that is built
abbrev pub AreBuilt : List Line → Type 0
AreBuilt lines = All (λ line. IsTrue (is_built line.act)) lines

-- the column of the word of an act: it is the first word, or stands behind a space and a core, which is below 64 and so has one
-- digit or two
abbrev pub act_column : Option ℕ → ℕ
act_column None = 1
act_column (Some core) = if nat_lt core 10 then 3 else 4

-- Of these lines, the first that asks for an act that isn't built is refused, at the word of the act.
pub record IsUnbuiltAt (lines : List Line) (kind line column : ℕ) : Type 0 where
  pub before : List Line
  pub first : Line
  pub later : List Line
  pub lines_are : lines ≡ before ++ first ∷ later
  pub built : AreBuilt before
  pub unbuilt : is_built first.act ≡ false
  pub kind_is : kind ≡ kind_number kinds.BadCall
  pub line_is : line ≡ first.number
  pub column_is : column ≡ act_column first.core

-- A line is refused that is no line of a schedule: the lines in front of it spell these lines, whose acts are all built, and the
-- kind and the column are those with which the grammar refuses it.
pub record LeavesGrammar (cores : ℕ) (input : List ℕ) (kind line column : ℕ) : Type 0 where
  pub front : List (List ℕ)
  pub lines : List Line
  pub is_front : IsFrontOfSchedule cores input front lines
  pub built : AreBuilt lines
  pub line_is : line ≡ length front + 1
  pub refused : IsNoSchedule cores input (refusals.Refused kind line column)

-- A line is refused whose act isn't built: it is the first such one of these lines, which the first lines of the input spell. What
-- stands behind them may be no line of a schedule.
pub record AsksForUnbuilt (cores : ℕ) (input : List ℕ) (kind line column : ℕ) : Type 0 where
  pub front : List (List ℕ)
  pub lines : List Line
  pub is_front : IsFrontOfSchedule cores input front lines
  pub place : IsUnbuiltAt lines kind line column

-- a fault that tells of the first of these lines that asks for an act that isn't built
abbrev pub IsUnbuiltFault : List Line → Fault → Type 0
IsUnbuiltFault lines (faults.Script kind line column) = IsUnbuiltAt lines kind line column
IsUnbuiltFault lines fault = ⊥

-- where an input is refused
abbrev pub IsRefusedAt : ℕ → List ℕ → ℕ → ℕ → ℕ → Type 0
IsRefusedAt cores input kind line column = LeavesGrammar cores input kind line column ⊎ AsksForUnbuilt cores input kind line column

-- a fault that tells where the input is refused, or of want of memory
abbrev pub RefusesInput : ℕ → List ℕ → Fault → Type 0
RefusesInput cores input (faults.Script kind line column) = IsRefusedAt cores input kind line column
RefusesInput cores input fault = fault ≡ faults.Memory
