-- What is so of cores that answer lines.
use Rattle.std.specs.Prelude.{◌≡◌, ℕ, ◌+◌, ◌≤◌, List, [], ◌∷◌, ◌++◌, cond, length, map, Some, IsSomeAnd, slice_get, slice_index}
use Rattle.zj_block.specs.Sizes.{Numbers}
use Rattle.zj_block.specs.declared.numbers.Tail.{Tail}
use Rattle.zj_dev.specs.Crash.{LeavesIn}
use Rattle.zj_dev.specs.Disk.{DiskView}
use Rattle.zj_dev.specs.declared.span.Span.{Span}
use Rattle.zj_closure.specs.Found.{Journals}
use Rattle.zj_home.specs.Made.{HoldsBlocks}
use Rattle.zj_inode.specs.Run.{IsServed}
use Rattle.zj_tree.specs.declared.call.Call.{Call}
use Rattle.zj_tree.specs.declared.call.Reply.{Reply}
use Rattle.zj_tree.specs.Tree.{FileTree}
use Rattle.zj_layout.specs.Shows.{Shows}
use Rattle.zj_history.specs.Operation.{Operation}
use Rattle.zj_history.specs.State.{BlockState, after}
use Rattle.zj_history.specs.Legal.{IsLegal}
use Rattle.zj_script.specs.declared.line.Line.{Line}
use Rattle.zj_script.specs.declared.answer.Form.{Form}
use Rattle.zj_turns.specs.Passes.{CacheParameters}
use Rattle.zj_core.specs.Core.{CoreState, IsSteady}
use Rattle.zj_session.specs.Answering.{IsAnswered}
use Rattle.zj_session.specs.Crashes.{AreLogged, CrashesRecover, StandAsTold}
use Rattle.zj_session.specs.Logging.{FitsLog, IsRightOfLog, Standing, failed_after, running_after, standing_at, tail_at}
use Rattle.zj_session.specs.Played.{Fit, IsRight, IsRun, Played, handle_after, has_ticket, tickets_in}
use Rattle.zj_session.specs.Service.{IsService, IsServing}

-- A history has one operation more where a form has a ticket, and else none.
pub record GrowsWith (history later : List Operation) (form : Form) : Type 0 where
  pub more : List Operation
  pub later_is : later ≡ history ++ more
  pub count : length more ≡ cond (has_ticket form) 1 0

-- Whatever a line is answered on its core, the cores go on to serve calls, with one operation more where the answer has a ticket; and the
-- answer is right.
abbrev pub AnswersAreRight : Type 0 → Type 0
AnswersAreRight D = (view : D → DiskView) (cache : CacheParameters) (old new : List (CoreState D)) (played : List Played) (history : List Operation) (at : ℕ) (line : Line) (form : Form) (core : CoreState D)
    → IsServing cache old played history → line.core ≡ Some at → slice_get new at ≡ Some core → IsSteady core → IsAnswered view cache old new at line.act form
    → (later : List Operation) × IsServing cache new (played ++ (line, form) ∷ []) later × GrowsWith history later form
    × IsRight cache.sizes (after cache.start history) later (length history) (handle_after played) at line.act form

-- And so it is with the transactions of the cores: the journals go on to keep what their cores sealed, the cores stand as the lines tell, and
-- what the answer says of the transactions is right.
abbrev pub LogsAreRight : Type 0 → Type 0
LogsAreRight D = (view : D → DiskView) (cache : CacheParameters) (from : List ℕ) (tails : List Tail) (standing : Standing) (old new : List (CoreState D)) (played : List Played) (history later : List Operation) (sealed : Journals)
    (at : ℕ) (line : Line) (form : Form) (core : CoreState D)
    → IsServing cache old played history → AreLogged view from tails old history sealed → StandAsTold standing played old
    → line.core ≡ Some at → slice_get new at ≡ Some core → IsSteady core → IsAnswered view cache old new at line.act form
    → IsServing cache new (played ++ (line, form) ∷ []) later → GrowsWith history later form
    → (then_sealed : Journals) × AreLogged view from tails new later then_sealed × StandAsTold standing (played ++ (line, form) ∷ []) new
    × IsRightOfLog cache.sizes (tail_at tails at) (after cache.start history) history later (running_after standing played at) (failed_after standing played at) (handle_after played at) line.act form

-- Lines, answers and a history that fit the transactions of the cores go on to fit them with one line more.
abbrev pub LogFitsFurther : Type 0
LogFitsFurther = (sizes : Numbers) (tails : List Tail) (start : BlockState) (before : List Operation) (standing : Standing) (played : List Played) (history later : List Operation) (core : ℕ) (line : Line) (form : Form)
    → FitsLog sizes tails start before standing played history → length history ≡ length before + tickets_in played → line.core ≡ Some core → GrowsWith history later form
    → IsRightOfLog sizes (tail_at tails core) (after start history) history later (running_after standing played core) (failed_after standing played core) (handle_after played core) line.act form
    → FitsLog sizes tails start before standing (played ++ (line, form) ∷ []) later

-- The spans are those of the journals of cores, each from a moment on until now.
abbrev pub AreSpansOf : {D : Type 0} → (D → DiskView) → List ℕ → List (CoreState D) → List Span → Type 0
AreSpansOf {D} view from cores spans = (i : ℕ) (c : CoreState D) → slice_get cores i ≡ Some c → IsSomeAnd (slice_get spans i) (λ s. (s.from ≡ slice_index from i) × (s.to ≡ (view c.area.device).calls))

-- THE LAW OF A ROUND: where cores have logged the history of calls that they served, from the tails of an image on, and stand as lines tell, and
-- home holds the image's blocks whatever a crash leaves of it, each crash within the round recovers to a cut of that history.
abbrev pub RoundRecovers : Type 0 → Type 0
RoundRecovers D = (view : D → DiskView) (cache : CacheParameters) (from : List ℕ) (tails : List Tail) (cores : List (CoreState D)) (history : List Operation) (sealed : Journals)
    (home : DiskView) (span : Span) (spans : List Span) (tree : FileTree) (calls : List Call) (replies : List Reply) (played : List Played)
    → IsService cache cores history → AreLogged view from tails cores history sealed → StandAsTold (standing_at tails) played cores → AreSpansOf view from cores spans
    → Shows cache.sizes cache.start tree → IsServed cache.sizes history calls replies
    → ((moment : ℕ) (image : List ℕ) → LeavesIn home span moment image → HoldsBlocks image cache.start (length cache.start))
    → CrashesRecover (home ∷ map (λ c. view c.area.device) cores) (span ∷ spans) cache.sizes tails cache.start tree calls replies played history

-- Lines, answers and a history that fit go on to fit with one line more, where its answer is right.
abbrev pub FitsFurther : Type 0
FitsFurther = (sizes : Numbers) (start : BlockState) (before : List Operation) (played : List Played) (history later : List Operation) (core : ℕ) (line : Line) (form : Form)
    → Fit sizes start before played history → line.core ≡ Some core → IsLegal start later → GrowsWith history later form
    → IsRight sizes (after start history) later (length history) (handle_after played) core line.act form
    → Fit sizes start before (played ++ (line, form) ∷ []) later

-- Where lines and answers fit a history from blocks on that show a tree, the replies are the plain service's in turn, and the history serves the
-- calls.
abbrev pub FitIsRun : Type 0
FitIsRun = (sizes : Numbers) (start : BlockState) (tree : FileTree) (played : List Played) (history : List Operation)
    → Shows sizes start tree → Fit sizes start [] played history → (run : IsRun sizes tree played) × IsServed sizes history run.calls run.replies
