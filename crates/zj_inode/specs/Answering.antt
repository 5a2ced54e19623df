-- What the steps of a call say where they go no further, and what a call says that goes through.
use Rattle.std.specs.Prelude.{◌≡◌, ◌⊎◌, ℕ, None}
use Rattle.std.specs.FinMap as map_of
use Rattle.zj_block.specs.Lists.{Entries, content_under}
use Rattle.zj_block.specs.Sizes.{Numbers}
use Rattle.zj_tree.specs.declared.call.Call.{Call}
use Rattle.zj_tree.specs.declared.call.Call.TheVariants as calls
use Rattle.zj_tree.specs.declared.call.Refusal.{Refusal}
use Rattle.zj_tree.specs.declared.call.Reply.{Reply}
use Rattle.zj_tree.specs.declared.call.Reply.TheVariants.{Refused}
use Rattle.zj_tree.specs.Tree.{FileTree}
use Rattle.zj_layout.specs.Image.{State, Image}
use Rattle.zj_layout.specs.Shows.{Changes, put_blocks}
use Rattle.zj_changes.specs.Holds.{Answers}
use Rattle.zj_dirs.specs.declared.answers.Halt as halts
use Rattle.zj_dirs.specs.declared.answers.Halt.TheVariants as halt
use Rattle.zj_dirs.specs.declared.answers.Stop as stops
use Rattle.zj_dirs.specs.declared.answers.Stop.TheVariants as stop
use Rattle.zj_dirs.specs.Possible.{Always, IsNeeded, IsOdd, IsPossible}
use Rattle.zj_inode.specs.declared.outcome.Outcome.{Outcome}
use Rattle.zj_inode.specs.declared.outcome.Outcome.TheVariants as outcomes
use Rattle.zj_inode.specs.declared.stopped.Stopped.{Stopped}
use Rattle.zj_inode.specs.declared.stopped.Stopped.TheVariants as stopped
use Rattle.zj_inode.specs.Footprint.{Foot}
use Rattle.zj_inode.specs.Performs.{IsRefused, Looks}

-- a stop of a look, and a halt of a change, as they stop a call
abbrev pub stopped_by : stops.Stop → Stopped
stopped_by (stop.Need block) = stopped.Need block
stopped_by stop.Odd = stopped.Odd

abbrev pub stopped_at : halts.Halt → Stopped
stopped_at (halt.Need block) = stopped.Need block
stopped_at halt.Odd = stopped.Odd
stopped_at halt.NoMemory = stopped.NoMemory

-- Why a step goes no further: a block that wasn't taken is due in every possible state, or a refusal has its cause in
-- every one, or none is possible. Want of memory says nothing.
abbrev pub StopSays : Numbers → Entries → (Image → ℕ → Type 0) → (State → FileTree → Refusal → Type 0) → Stopped → Type 0
StopSays sizes found Due Cause (stopped.Need block) = (content_under found block.0 ≡ None) × Always sizes found (λ image. Due image block.0)
StopSays sizes found Due Cause (stopped.Refused refusal) = (state : State) (tree : FileTree) → IsPossible sizes found state tree → Cause state tree refusal
StopSays sizes found Due Cause stopped.Odd = IsOdd sizes found
StopSays sizes found Due Cause stopped.NoMemory = Unit {0}

-- The same of a step that follows changes: all is said of the made states, into which the written blocks were put.
abbrev pub AfterSays : Numbers → Entries → Changes → (Image → ℕ → Type 0) → (State → FileTree → Refusal → Type 0) → Stopped → Type 0
AfterSays sizes found written Due Cause (stopped.Need block) = IsNeeded sizes found written Due block.0
AfterSays sizes found written Due Cause (stopped.Refused refusal) = (state : State) (tree : FileTree) → IsPossible sizes found state tree → Cause (put_blocks state written) tree refusal
AfterSays sizes found written Due Cause stopped.Odd = IsOdd sizes found
AfterSays sizes found written Due Cause stopped.NoMemory = Unit {0}

-- Why a call goes no further: it may take the block that is due, and it is refused as the plain service refuses it.
abbrev pub CallStops : Numbers → Entries → Call → Stopped → Type 0
CallStops sizes found call = StopSays sizes found (λ image block. Foot sizes image call block) (λ state tree refusal. Answers sizes call (Refused refusal) tree state)

-- New contents that were built answer a call with a reply, in every possible state; a call that only looks builds none.
pub record Builds (sizes : Numbers) (found : Entries) (built : Changes) (call : Call) (reply : Reply) : Type 0 where
  pub each : (state : State) (tree : FileTree) → IsPossible sizes found state tree → Answers sizes call reply tree (put_blocks state built)
  pub quiet : IsRefused reply ⊎ Looks call → built ≡ map_of.empty

-- how many new contents an outcome has
abbrev pub count_written : Outcome → ℕ
count_written (outcomes.Done reply written) = map_of.len written
count_written _ = 0

-- every call but write, which makes its own outcome
abbrev pub IsAnswered : Call → Type 0
IsAnswered (calls.Write path at bytes) = ⊥
IsAnswered _ = Unit {0}
