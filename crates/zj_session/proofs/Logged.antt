-- What cores have logged stays so where handles are dropped; and the device of a core's journal failed where a commit of it has.
use Rattle.std.proofs.Common.{◌≡◌, ⊎_elim, ◌⊎◌, inl, inr, ℕ, ◌&&◌, ◌||◌, Bool, true, false, true≢false, eqb-true, List, [], ◌∷◌, ◌++◌, length, map, Option, Some, None, slice_get, slice_index, refl, sym, ap, ◌∙◌, subst}
use Rattle.std.proofs.lemmas.List.{length-map}
use Rattle.std.proofs.lemmas.List.Folds.{list_any-append}
use Rattle.zj_block.specs.declared.numbers.Tail.{Tail}
use Rattle.zj_area.specs.Journal.{AreaView}
use Rattle.zj_dev.specs.Disk.{DiskView}
use Rattle.zj_dev.specs.Fault.{Rose}
use Rattle.zj_dev.proofs.DiskLaws.{rose_since, rose_until}
use Rattle.zj_closure.specs.Found.{Journals, records_of}
use Rattle.zj_history.specs.Operation.{Operation}
use Rattle.zj_layout.proofs.Follow.{some_is}
use Rattle.zj_script.specs.declared.line.Act.{Act}
use Rattle.zj_script.specs.declared.line.Act.TheVariants as acts
use Rattle.zj_script.specs.declared.line.Line.{Line}
use Rattle.zj_script.specs.declared.answer.Form.{Form}
use Rattle.zj_script.specs.declared.answer.Form.TheVariants as forms
use Rattle.zj_script.specs.declared.answer.SyncForm.TheVariants as syncs
use Rattle.zj_tree.specs.declared.call.Call.{Call}
use Rattle.zj_turns.specs.Passes.{CacheParameters, mine, now_knowing}
use Rattle.zj_core.specs.Core.{CoreState}
use Rattle.zj_session.specs.Answering.{Does, DoesIdle, DoesOpen, IsAnswered, met_all}
use Rattle.zj_session.specs.Crashes.{AreLogged, HasLogged, RunsAsTold, StandAsTold}
use Rattle.zj_session.specs.Logging.{Standing, fails_in, is_fault}
use Rattle.zj_session.specs.Played.{Played, is_on}
use Rattle.zj_session.specs.Playing.{FaultsRose, JournalsGoOn, journals_of, resting}
use Rattle.zj_session.proofs.Devices.{core_then, journal_at}
use Rattle.zj_session.proofs.Resting.{area_rest, by_begun, each_rest}
use Rattle.zj_session.proofs.Lists.{set_here}

-- ---- handles are dropped

module _ {D : Type 0} (view : D → DiskView) (cores : List (CoreState D)) where
  logged_one : (from : ℕ) (tails : List Tail) (i : ℕ) (c : CoreState D) (history : List Operation) (records : List _) → HasLogged view from tails i c history records → HasLogged view from tails i (resting c) history records
  logged_one from tails i c history records logged = by_begun c (λ r. HasLogged view from tails i r history records) (λ is. logged)
      (λ call is. record { tail = logged.tail; keeps = logged.keeps; sealed = logged.sealed; number = logged.number; next = logged.next })

  pub logged_rest : (from : List ℕ) (tails : List Tail) (history : List Operation) (sealed : Journals) → AreLogged view from tails cores history sealed → AreLogged view from tails (map resting cores) history sealed
  logged_rest from tails history sealed logged = record {
    numbered = logged.numbered;
    many = logged.many ∙ sym (length-map cores (resting {D = D}));
    each = each_rest cores (λ i r. HasLogged view (slice_index from i) tails i r history (records_of sealed i)) (λ i c there. logged_one (slice_index from i) tails i c history (records_of sealed i) (logged.each i c there));
  }

  pub stand_rest : (standing : Standing) (played : List Played) → StandAsTold standing played cores → StandAsTold standing played (map resting cores)
  stand_rest standing played stand = each_rest cores (λ i r. RunsAsTold standing played i r)
      (λ i c there. let runs = stand i c there in by_begun c (λ r. RunsAsTold standing played i r) (λ is. runs) (λ call is. record { failed = runs.failed; number = runs.number; behind = runs.behind }))

  pub rose_rest : (first : List (CoreState D)) (played : List Played) → FaultsRose view first cores played → FaultsRose view first (map resting cores) played
  rose_rest first played rose i a r at there fails = each_rest cores (λ i r. slice_get first i ≡ Some a → fails_in played i ≡ true → Rose (view a.area.device).faults (view r.area.device).faults)
      (λ i c there at fails. subst (λ (d : AreaView D). Rose (view a.area.device).faults (view d.device).faults) (sym (area_rest c)) (rose i a c at there fails)) i r there at fails

-- ---- a commit fails

-- an act where a handle is open fails no commit
open_fails : {D : Type 0} (cache : CacheParameters) (old new : CoreState D) (call : Call) (act : Act) (form : Form) → DoesOpen cache old new call act form → is_fault form ≡ true → ⊥
open_fails cache old new call acts.Take (forms.Sync (syncs.Fault device)) d fault = absurd d
open_fails cache old new call acts.Look (forms.Sync (syncs.Fault device)) d fault = absurd d
open_fails cache old new call acts.Stop (forms.Sync (syncs.Fault device)) d fault = absurd d
open_fails cache old new call acts.Drop (forms.Sync (syncs.Fault device)) d fault = absurd d
open_fails cache old new call acts.Commit (forms.Sync (syncs.Fault device)) d fault = absurd d
open_fails cache old new call acts.Sync (forms.Sync (syncs.Fault device)) d fault = absurd d
open_fails cache old new call acts.Checkpoint (forms.Sync (syncs.Fault device)) d fault = absurd d
open_fails cache old new call (acts.Call other) (forms.Sync (syncs.Fault device)) d fault = absurd d
open_fails cache old new call (acts.Begin other) (forms.Sync (syncs.Fault device)) d fault = absurd d
open_fails cache old new call act form d fault = absurd (true≢false (sym fault))

idle_fails : {D : Type 0} (view : D → DiskView) (cache : CacheParameters) (old new : CoreState D) (act : Act) (form : Form) → DoesIdle view cache old new act form → is_fault form ≡ true → Rose (view old.area.device).faults (view new.area.device).faults
idle_fails view cache old new acts.Commit (forms.Sync (syncs.Fault device)) d fault = d.1.rose
idle_fails view cache old new acts.Take (forms.Sync (syncs.Fault device)) d fault = absurd d
idle_fails view cache old new acts.Look (forms.Sync (syncs.Fault device)) d fault = absurd d
idle_fails view cache old new acts.Stop (forms.Sync (syncs.Fault device)) d fault = absurd d
idle_fails view cache old new acts.Drop (forms.Sync (syncs.Fault device)) d fault = absurd d
idle_fails view cache old new acts.Sync (forms.Sync (syncs.Fault device)) d fault = absurd d
idle_fails view cache old new acts.Checkpoint (forms.Sync (syncs.Fault device)) d fault = absurd d
idle_fails view cache old new (acts.Call call) (forms.Sync (syncs.Fault device)) d fault = absurd d.0
idle_fails view cache old new (acts.Begin call) (forms.Sync (syncs.Fault device)) d fault = absurd d.0
idle_fails view cache old new act form d fault = absurd (true≢false (sym fault))

does_fail : {D : Type 0} (view : D → DiskView) (cache : CacheParameters) (old new : CoreState D) (begun : Option Call) (act : Act) (form : Form) → Does view cache old new begun act form → is_fault form ≡ true
    → Rose (view old.area.device).faults (view new.area.device).faults
does_fail view cache old new None act form d fault = idle_fails view cache old new act form d fault
does_fail view cache old new (Some call) act form d fault = absurd (open_fails cache old new call act form d fault)

both_true : (one other : Bool) → (one && other) ≡ true → (one ≡ true) × (other ≡ true)
both_true true other is = (refl, is)
both_true false other is = absurd (true≢false (sym is))

one_true : (one last : Bool) → (one || (last || false)) ≡ true → (one ≡ true) ⊎ (last ≡ true)
one_true true last is = inl refl
one_true false true is = inr refl
one_true false false is = absurd (true≢false (sym is))

module _ {D : Type 0} (view : D → DiskView) (cache : CacheParameters) (first cores after : List (CoreState D)) (at : ℕ) (line : Line) (form : Form) (on : line.core ≡ Some at) (answered : IsAnswered view cache cores after at line.act form) where
  abbrev gone : CoreState D
  gone = record answered.after { pass = now_knowing answered.core.pass (mine answered.after.pass) }

  rose_now : (i : ℕ) (c b : CoreState D) → at ≡ i → slice_get cores i ≡ Some c → slice_get after i ≡ Some b → is_fault form ≡ true → Rose (view c.area.device).faults (view b.area.device).faults
  rose_now i c b is there here fault =
      let core_is : answered.core ≡ c = some_is (sym answered.at_place ∙ ap (slice_get cores) is ∙ there) in
      let gone_is : gone ≡ b = some_is (sym (ap (λ l. slice_get l at) answered.cores ∙ set_here cores at answered.core gone answered.at_place) ∙ ap (slice_get after) is ∙ here) in
      subst (λ (x : CoreState D × CoreState D). Rose (view x.0.area.device).faults (view x.1.area.device).faults) (λ j. (core_is j, gone_is j))
      (does_fail view cache (met_all at cores answered.core) answered.after answered.core.begun line.act form answered.does fault)

  pub rose_line : (played : List Played) → JournalsGoOn view (journals_of first) (journals_of cores) → JournalsGoOn view (journals_of cores) (journals_of after) → FaultsRose view first cores played → FaultsRose view first after (played ++ (line, form) ∷ [])
  rose_line played before since rose i a b at_first at_after fails =
      let c = core_then view first cores before i a at_first in
      let goes_first = journal_at view first cores i a c.0 before at_first c.1 in
      let goes_after = journal_at view cores after i c.0 b since c.1 at_after in
      ⊎_elim
      (λ earlier. rose_until _ _ _ (rose i a c.0 at_first c.1 earlier) goes_after.1.no_fewer)
      (λ now. let parts = both_true (is_on i line.core) (is_fault form) now in
      rose_since _ _ _ goes_first.1.no_fewer (rose_now i c.0 b (eqb-true at i (sym (ap (is_on i) on) ∙ parts.0)) c.1 at_after parts.1))
      (one_true (fails_in played i) (is_on i line.core && is_fault form) (sym (list_any-append (λ (p : Played). is_on i p.0.core && is_fault p.1) played ((line, form) ∷ [])) ∙ fails))
