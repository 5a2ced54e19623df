-- What a commit does, at each moment of its device calls.
use Rattle.std.specs.Prelude.{◌≡◌, ◌≢◌, ◌⊎◌, ℕ, ◌+◌, ◌≤◌, true, false, List, [], ◌∷◌, ◌++◌, Result, Ok, Err}
use Rattle.zj_dev.specs.Fault.{Rose}
use Rattle.zj_dev.specs.Disk.{Continues, DiskView, EachImageSince, IsDisk}
use Rattle.zj_tx.specs.Record.{IsRecord, Accepts, Record}
use Rattle.zj_tx.specs.Running.{IsSealed, empty_transaction}
use Rattle.zj_area.specs.Ring.{Holds, behind}
use Rattle.zj_area.specs.Journal.{IsAtRest, journal_of}
use Rattle.zj_core.specs.Core.{CoreState}
use Rattle.zj_core.specs.declared.fault.CommitFault.{CommitFault}
use Rattle.zj_core.specs.declared.fault.CommitFault.TheVariants as commits

-- how many calls a commit makes of its journal's device: it writes the record with its gate closed, and the gate behind it, and syncs; then it
-- opens the gate, and syncs
abbrev pub calls_of_commit : ℕ
calls_of_commit = 5

-- The running transaction was sealed as a record that fits the journal, and the next one runs. Nothing else of the core changed but its
-- journal, of which no more than a commit's calls were made; and whatever a crash leaves there, at a moment of the commit, holds the records
-- before, or those with the new one.
pub record Seals {D : Type 0} (view : D → DiskView) (old new : CoreState D) (r : Record) : Type 0 where
  pub sound : old.area.failed ≡ false
  pub some : old.running.handles ≢ 0
  pub sealed : IsSealed old.running r
  pub is_record : IsRecord r
  pub accepted : Accepts old.area.sizes old.area.core old.area.end.number r
  pub next : new ≡ record old { area = new.area; running = empty_transaction old.running.core old.running.cores (old.running.number + 1) }
  pub area : new.area ≡ record old.area { device = new.area.device; end = new.area.end; failed = new.area.failed }
  pub continues : Continues (view old.area.device) (view new.area.device)
  pub calls_at_most : (view new.area.device).calls ≤ (view old.area.device).calls + calls_of_commit
  pub is_disk : IsDisk (view new.area.device)
  pub images : (records : List Record) → IsAtRest (journal_of view old.area) records → EachImageSince (view old.area.device).calls (view new.area.device)
      (λ image. Holds old.area.sizes old.area.core image old.area.tail records old.area.end ⊎ Holds old.area.sizes old.area.core image old.area.tail (records ++ r ∷ []) (behind old.area.sizes old.area.end r))

-- A commit that was answered Ok: once its calls were made the journal holds the new record behind the others, and goes on behind it.
pub record Commits {D : Type 0} (view : D → DiskView) (old new : CoreState D) : Type 0 where
  pub sealed_as : Record
  pub seals : Seals view old new sealed_as
  pub end : new.area.end ≡ behind old.area.sizes old.area.end sealed_as
  pub sound : new.area.failed ≡ false
  pub calls : (view new.area.device).calls ≡ (view old.area.device).calls + calls_of_commit
  pub at_rest : (records : List Record) → IsAtRest (journal_of view old.area) records → IsAtRest (journal_of view new.area) (records ++ sealed_as ∷ [])

-- A commit whose device failed: the core has failed from then on.
pub record FailsToCommit {D : Type 0} (view : D → DiskView) (old new : CoreState D) : Type 0 where
  pub sealed_as : Record
  pub seals : Seals view old new sealed_as
  pub end : new.area.end ≡ old.area.end
  pub failed : new.area.failed ≡ true
  pub rose : Rose (view old.area.device).faults (view new.area.device).faults

-- Why the running transaction isn't committed: an earlier commit has failed; else it has no operation; else the device failed.
abbrev pub IsCommitCause : {D : Type 0} → (D → DiskView) → CoreState D → CoreState D → CommitFault → Type 0
IsCommitCause view old new (commits.Failed core) = (old.area.failed ≡ true) × (core ≡ old.pass.core) × (new ≡ old)
IsCommitCause view old new commits.Empty = (old.area.failed ≡ false) × (old.running.handles ≡ 0) × (new ≡ old)
IsCommitCause view old new commits.DiskFault = FailsToCommit view old new

-- What a commit answers: the number of the transaction that it committed, or why it committed none.
abbrev pub AnswersCommit : {D : Type 0} → (D → DiskView) → CoreState D → CoreState D → Result ℕ CommitFault → Type 0
AnswersCommit view old new (Ok number) = (number ≡ old.running.number) × Commits view old new
AnswersCommit view old new (Err fault) = IsCommitCause view old new fault
