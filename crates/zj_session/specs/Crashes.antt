-- What the journals of cores keep, at each moment, of the transactions that their cores sealed; and what recovery makes of a crash.
use Rattle.std.specs.Prelude.{◌≡◌, ◌⊎◌, ℕ, ◌+◌, ◌*◌, ◌≤◌, ◌<◌, true, false, cond, List, ◌∷◌, length, take, Option, Some, None, slice_get, slice_index}
use Rattle.zj_block.specs.Sizes.{Numbers}
use Rattle.zj_block.specs.declared.numbers.Tail.{Tail}
use Rattle.zj_block.specs.declared.numbers.Writer.{Writer}
use Rattle.zj_dev.specs.Crash.{IsCrashSet}
use Rattle.zj_dev.specs.Disk.{DiskView}
use Rattle.zj_dev.specs.declared.span.Span.{Span}
use Rattle.zj_history.specs.Cut.{IsConsistentCut, cut}
use Rattle.zj_history.specs.Operation.{Operation}
use Rattle.zj_history.specs.State.{BlockState, after}
use Rattle.zj_history.specs.Transactions.{AreNumbered, Bounds, last_number}
use Rattle.zj_home.specs.Made.{HoldsBlocks}
use Rattle.zj_tree.specs.declared.call.Call.{Call}
use Rattle.zj_tree.specs.declared.call.Reply.{Reply}
use Rattle.zj_tree.specs.Tree.{FileTree}
use Rattle.zj_layout.specs.Shows.{Shows, limits_of}
use Rattle.zj_inode.specs.Run.{chosen, replies_from, tree_after}
use Rattle.zj_tx.specs.Frozen.{IsFrozen}
use Rattle.zj_tx.specs.Record.{Record}
use Rattle.zj_area.specs.Journal.{AreaView, IsAtRest, JournalView, journal_of}
use Rattle.zj_area.specs.Ring.{Holds}
use Rattle.zj_closure.specs.Found.{IsFoundAs, Journals, end_of, records_of, tail_of}
use Rattle.zj_closure.specs.Kept.{AreKept}
use Rattle.zj_closure.specs.Recovered.{kept_records, recovered}
use Rattle.zj_turns.specs.Passes.{CacheParameters}
use Rattle.zj_core.specs.Committing.{calls_of_commit}
use Rattle.zj_core.specs.Core.{CoreState}
use Rattle.zj_session.specs.Logging.{AreSealed, Standing, commits_in, end_behind, failed_after, fails_in, running_after, tail_at}
use Rattle.zj_session.specs.Played.{Played}

-- ---- what the journals keep

-- The bytes of a journal hold the first of these records, so many.
pub record HoldsFirst (sizes : Numbers) (core : ℕ) (tail : Tail) (records : List Record) (count : ℕ) (image : List ℕ) : Type 0 where
  pub within : count ≤ length records
  pub end : Tail
  pub holds : Holds sizes core image tail (take count records) end

-- Of commits that began at a moment, one after the other, each that has made its calls by another moment is among the first so many.
abbrev pub HasCommitted : ℕ → ℕ → ℕ → ℕ → Type 0
HasCommitted from commits moment count = (n : ℕ) → n ≤ commits → from + calls_of_commit * n ≤ moment → n ≤ count

-- So many commits were made of a journal since a moment, and one more where that failed, and no other call. Whatever a crash leaves of it, at a
-- moment since, holds some of the records that its core sealed, from the first on, and each that was committed by then. While none has failed
-- the journal is at rest with all.
pub record KeepsRecords (from : ℕ) (j : JournalView) (records : List Record) : Type 0 where
  pub commits : ℕ
  pub sealed : length records ≡ commits + cond j.failed 1 0
  pub images : (moment : ℕ) (image : List ℕ) → from ≤ moment → moment ≤ j.disk.calls → j.disk.may_leave moment image ≡ true
      → (count : ℕ) × HoldsFirst j.sizes j.core j.tail records count image × HasCommitted from commits moment count
  pub made : from + calls_of_commit * commits ≤ j.disk.calls
  pub at_most : j.disk.calls ≤ from + calls_of_commit * length records
  pub at_rest : j.failed ≡ false → IsAtRest j records
  pub end : j.failed ≡ false → j.end ≡ end_behind j.sizes j.tail records

-- An operation of the core with this number would go on with the numbers of a history.
pub record IsNextNumber (first : Bounds) (history : List Operation) (core number : ℕ) : Type 0 where
  pub begins : last_number core history ≡ None → number ≡ first core
  pub goes_on : (last : ℕ) → last_number core history ≡ Some last → (number ≡ last) ⊎ (number ≡ last + 1)

-- What a core has logged of a history since a moment: its journal, which begins at the tail, keeps the records of all its transactions
-- before the one that runs.
pub record HasLogged {D : Type 0} (view : D → DiskView) (from : ℕ) (tails : List Tail) (core : ℕ) (c : CoreState D) (history : List Operation) (records : List Record) : Type 0 where
  pub tail : c.area.tail ≡ tail_at tails core
  pub keeps : KeepsRecords from (journal_of view c.area) records
  pub sealed : AreSealed c.sizes core c.area.tail history records
  pub number : c.running.number ≡ c.area.tail.number + length records
  pub next : IsNextNumber (tail_of tails) history core c.running.number

-- A core runs the transaction that lines tell, or, where a commit of that one has failed, the one behind it.
pub record RunsAsTold {D : Type 0} (standing : Standing) (played : List Played) (core : ℕ) (c : CoreState D) : Type 0 where
  pub failed : c.area.failed ≡ failed_after standing played core
  pub number : c.area.failed ≡ false → c.running.number ≡ (running_after standing played core).number
  pub behind : c.area.failed ≡ true → c.running.number ≡ (running_after standing played core).number + 1

-- What cores that serve calls have logged of their history, each since a moment: the history's numbers begin at the tails, and each core's
-- journal keeps its records.
pub record AreLogged {D : Type 0} (view : D → DiskView) (from : List ℕ) (tails : List Tail) (cores : List (CoreState D)) (history : List Operation) (sealed : Journals) : Type 0 where
  pub numbered : AreNumbered (tail_of tails) history
  pub many : length sealed ≡ length cores
  pub each : (i : ℕ) (c : CoreState D) → slice_get cores i ≡ Some c → HasLogged view (slice_index from i) tails i c history (records_of sealed i)

-- and they stand as lines tell
abbrev pub StandAsTold : {D : Type 0} → Standing → List Played → List (CoreState D) → Type 0
StandAsTold {D} standing played cores = (i : ℕ) (c : CoreState D) → slice_get cores i ≡ Some c → RunsAsTold standing played i c

-- ---- what recovery makes of a crash

-- Of a cut of a history, which begins on these blocks with this tree: it is a consistent cut, and no greater one was found. What is recovered
-- is the state after it, which shows the tree that the plain service makes of the calls in the cut, in turn, and these had the service's
-- replies.
pub record IsCutFound (sizes : Numbers) (start : BlockState) (tree : FileTree) (calls : List Call) (replies : List Reply) (history : List Operation)
    (tails : Bounds) (found : Journals) (home : BlockState) (kept : Bounds) : Type 0 where
  pub consistent : IsConsistentCut history kept
  pub greatest : (bounds : Bounds) → IsConsistentCut history bounds → ((core : ℕ) → bounds core ≤ end_of tails found core) → (core : ℕ) → bounds core ≤ kept core
  pub state : recovered (kept_records found kept) home ≡ after start (cut history kept)
  pub shows : Shows sizes (after start (cut history kept)) (tree_after (limits_of sizes) tree (chosen history kept calls))
  pub replies_are : chosen history kept replies ≡ replies_from (limits_of sizes) tree (chosen history kept calls)

-- So many transactions of a core were found after a crash at a moment of a span of its journal. The commits that were answered to be done made
-- their calls within the span, one after the other, from its first moment on, and no other call was made but those of a commit that failed.
-- Each that had made them by the moment of the crash was found, and no more, but where a commit failed that one too.
pub record HoldsCommitted (played : List Played) (core : ℕ) (span : Span) (moment count : ℕ) : Type 0 where
  pub made : span.from + calls_of_commit * commits_in played core ≤ span.to
  pub at_most : span.to ≤ span.from + calls_of_commit * (commits_in played core + cond (fails_in played core) 1 0)
  pub least : HasCommitted span.from (commits_in played core) moment count
  pub most : (count ≤ commits_in played core) ⊎ ((fails_in played core ≡ true) × (count ≡ commits_in played core + 1))

-- What is found in images of home and of the journals, home first, which crashes at these moments left: records in each journal, each of which
-- is the transaction of its core and number, and all that were committed by its moment; and blocks in home. Whatever is the greatest
-- consistent cut found of them, recovery leaves that cut of the history.
pub record RecoversCut (sizes : Numbers) (tails : List Tail) (start : BlockState) (tree : FileTree) (calls : List Call) (replies : List Reply) (played : List Played) (history : List Operation)
    (spans : List Span) (moments : List ℕ) (images : List (List ℕ)) : Type 0 where
  pub found : Journals
  pub many : length found ≡ sizes.cores
  pub holds : (core : ℕ) (image : List ℕ) → core < sizes.cores → slice_get images (core + 1) ≡ Some image → (end : Tail) × Holds sizes core image (tail_at tails core) (records_of found core) end
  pub transactions : (t : Writer) (r : Record) → IsFoundAs (tail_of tails) found t r → IsFrozen history t r
  pub committed : (core moment : ℕ) (span : Span) → core < sizes.cores → slice_get spans (core + 1) ≡ Some span → slice_get moments (core + 1) ≡ Some moment → HoldsCommitted played core span moment (length (records_of found core))
  pub home : BlockState
  pub many_blocks : length home ≡ sizes.blocks
  pub blocks : (image : List ℕ) → slice_get images 0 ≡ Some image → HoldsBlocks image home (length home)
  pub recovers : (kept : Bounds) → AreKept (tail_of tails) found kept → IsCutFound sizes start tree calls replies history (tail_of tails) found home kept

-- The images of home and of journals, home first, that a crash within these spans may leave, recover to a cut of the history.
abbrev pub CrashesRecover : List DiskView → List Span → Numbers → List Tail → BlockState → FileTree → List Call → List Reply → List Played → List Operation → Type 0
CrashesRecover disks spans sizes tails start tree calls replies played history =
    (moments : List ℕ) (images : List (List ℕ)) → IsCrashSet disks spans moments images → RecoversCut sizes tails start tree calls replies played history spans moments images
