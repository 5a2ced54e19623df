-- A commit: what a crash leaves at each moment of it, and the core that it leaves.
use Rattle.std.proofs.Common.{◌≡◌, ◌≢◌, ◌⊎◌, inl, ℕ, ◌+◌, ◌≤◌, true, false, true≢false, is_some, List, [], ◌∷◌, ◌++◌, Option, Some, None, IfSome, IsSome, sym, ap, ◌∙◌, subst}
use Rattle.std.specs.Option.{option_map}
use Rattle.zj_block.specs.Sizes.{Numbers}
use Rattle.zj_block.specs.declared.numbers.Tail.{Tail}
use Rattle.zj_dev.specs.Disk.{Continues, DiskView, EachImageSince}
use Rattle.zj_dev.proofs.DiskLaws.{each_then}
use Rattle.zj_tx.specs.Record.{Record}
use Rattle.zj_area.specs.Commit.{KeepsRecords, OpensGate}
use Rattle.zj_area.specs.Journal.{AreaView, IsAtRest, IsLaid, journal_of}
use Rattle.zj_area.specs.Ring.{Holds, behind}
use Rattle.zj_dev.specs.Disk.{IsDisk}
use Rattle.zj_dev.specs.Fault.{Rose}
use Rattle.zj_tx.specs.Laws.{NothingKept}
use Rattle.zj_tx.specs.Record.{Accepts, IsRecord}
use Rattle.zj_tx.specs.Running.{IsSealed, Transaction, empty_transaction}
use Rattle.zj_turns.specs.Passes.{PassState}
use Rattle.zj_core.specs.declared.steps.Handle.{Handle}
use Rattle.zj_core.specs.Committing.{FailsToCommit, calls_of_commit}
use Rattle.zj_core.specs.Core.{CoreState, IsCore}
use Rattle.zj_core.proofs.Running.{runs_next, shown}

module _ {D : Type 0} (view : D → DiskView) (old mid new : AreaView D) (r : Record) where
  -- an image with the records before, or those with the new one
  abbrev IsEither : List Record → List ℕ → Type 0
  IsEither records image = Holds old.sizes old.core image old.tail records old.end ⊎ Holds old.sizes old.core image old.tail (records ++ r ∷ []) (behind old.sizes old.end r)

  -- it was laid, and its gate was opened, or not
  pub opened_images : KeepsRecords (journal_of view old) (journal_of view mid) → ((records : List Record) → IsAtRest (journal_of view old) records → IsLaid (journal_of view mid) records r (behind old.sizes old.end r))
      → mid ≡ record { device = mid.device; sizes = old.sizes; core = old.core; tail = old.tail; end = old.end; ready = old.ready; failed = old.failed; laid = Some (behind old.sizes old.end r) }
      → IfSome mid.laid (OpensGate (journal_of view mid) (journal_of view new)) → Continues (view mid.device) (view new.device)
      → (records : List Record) → IsAtRest (journal_of view old) records → EachImageSince (view old.device).calls (view new.device) (IsEither records)
  opened_images keeps lays is opens continues records rest =
      let gate : OpensGate (journal_of view mid) (journal_of view new) (behind old.sizes old.end r) = subst (λ (o : Option Tail). IfSome o (OpensGate (journal_of view mid) (journal_of view new))) (ap (λ (a : AreaView D). a.laid) is) opens in
      each_then (view old.device).calls (view mid.device) (view new.device) (IsEither records) continues
      (λ moment image since to may. inl (keeps records rest moment image since to may))
      (λ moment image since to may.
      subst (λ (a : AreaView D). Holds a.sizes a.core image a.tail records a.end ⊎ Holds a.sizes a.core image a.tail (records ++ r ∷ []) (behind old.sizes old.end r)) is
      (gate records r (lays records rest) moment image since to may))

-- ---- the core that it leaves

module _ {D : Type 0} (p : PassState) (area : AreaView D) (sizes : Numbers) (handle : Option Handle) (old : Transaction) (keeps : IsCore (shown p area sizes handle old) handle) (before : CoreState D) (is : shown p area sizes handle old ≡ before) (idle : before.begun ≡ None)
    (sound : area.failed ≡ false) (nothing : NothingKept) (after : AreaView D) (next : Transaction) (next_is : next ≡ empty_transaction old.core old.cores (old.number + 1)) where
  never_open : (o : Option Handle) → option_map (λ (h : Handle). h.call) o ≡ None → IsSome o → ⊥
  never_open None none some = true≢false (sym some)
  never_open (Some h) none some = true≢false (ap is_some none)

  core_next : after.core ≡ area.core → after.sizes ≡ area.sizes → after.ready ≡ area.ready → after.laid ≡ area.laid → (after.failed ≡ false → after.end.number ≡ area.end.number + 1) → IsCore (shown p after sizes handle next) handle
  core_next core sizes_same ready laid numbered = subst (λ (t : Transaction). IsCore {D = D} (shown p after sizes handle t) handle) (sym next_is) (record {
    has = keeps.has;
    may = λ some. absurd (never_open handle (ap (λ (x : CoreState D). x.begun) is ∙ idle) some);
    runs = runs_next p area sizes handle old keeps.runs sound after nothing numbered;
    journal = record { core = core ∙ keeps.journal.core; sizes_are = sizes_same ∙ keeps.journal.sizes_are; ready = ready ∙ keeps.journal.ready; empty = laid ∙ keeps.journal.empty };
  })

  pub core_commits : (r : Record) → after ≡ record { device = after.device; sizes = area.sizes; core = area.core; tail = area.tail; end = behind area.sizes area.end r; ready = area.ready; failed = area.failed; laid = area.laid } → IsCore (shown p after sizes handle next) handle
  core_commits r ends = core_next (ap (λ (a : AreaView D). a.core) ends) (ap (λ (a : AreaView D). a.sizes) ends) (ap (λ (a : AreaView D). a.ready) ends) (ap (λ (a : AreaView D). a.laid) ends) (λ fine. ap (λ (a : AreaView D). a.end.number) ends)

  pub core_fails : after ≡ record { device = after.device; sizes = area.sizes; core = area.core; tail = area.tail; end = area.end; ready = area.ready; failed = true; laid = area.laid } → IsCore (shown p after sizes handle next) handle
  core_fails fails = core_next (ap (λ (a : AreaView D). a.core) fails) (ap (λ (a : AreaView D). a.sizes) fails) (ap (λ (a : AreaView D). a.ready) fails) (ap (λ (a : AreaView D). a.laid) fails)
      (λ fine. absurd (true≢false (sym (ap (λ (a : AreaView D). a.failed) fails) ∙ fine)))

  pub fails_to_commit : (view : D → DiskView) (r : Record) → old.handles ≢ 0 → IsSealed old r → IsRecord r → Accepts area.sizes area.core area.end.number r
      → after ≡ record { device = after.device; sizes = area.sizes; core = area.core; tail = area.tail; end = area.end; ready = area.ready; failed = true; laid = area.laid }
      → ((records : List Record) → IsAtRest (journal_of view area) records → EachImageSince (view area.device).calls (view after.device)
      (λ image. Holds area.sizes area.core image area.tail records area.end ⊎ Holds area.sizes area.core image area.tail (records ++ r ∷ []) (behind area.sizes area.end r)))
      → Continues (view area.device) (view after.device) → (view after.device).calls ≤ (view area.device).calls + calls_of_commit → IsDisk (view after.device) → Rose (view area.device).faults (view after.device).faults → FailsToCommit view before (shown p after sizes handle next)
  fails_to_commit view r some sealed is_record accepted fails images continues calls is_disk rose = subst (λ (x : CoreState D). FailsToCommit view x (shown p after sizes handle next)) is (record {
    sealed_as = r;
    seals = record {
      sound = sound;
      some = some;
      sealed = sealed;
      is_record = is_record;
      accepted = accepted;
      next = ap (shown p after sizes handle) next_is;
      area = fails ∙ (λ i. record { device = after.device; sizes = area.sizes; core = area.core; tail = area.tail; end = sym (ap (λ (a : AreaView D). a.end) fails) i; ready = area.ready; failed = sym (ap (λ (a : AreaView D). a.failed) fails) i; laid = area.laid });
      continues = continues;
      calls_at_most = calls;
      is_disk = is_disk;
      images = images;
    };
    end = ap (λ (a : AreaView D). a.end) fails;
    failed = ap (λ (a : AreaView D). a.failed) fails;
    rose = rose;
  })
