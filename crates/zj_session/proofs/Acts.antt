-- What an act changes of its core.
use Rattle.std.proofs.Common.{◌≡◌, ◌≢◌, ℕ, false, true≢false, Option, Some, None, IsSome, IfSome, refl, sym, ap, ◌∙◌, subst}
use Rattle.std.specs.FinMap as finmap
use Rattle.zj_tree.specs.declared.call.Call.{Call}
use Rattle.zj_script.specs.declared.line.Act.{Act}
use Rattle.zj_script.specs.declared.line.Act.TheVariants as acts
use Rattle.zj_script.specs.declared.answer.Form.TheVariants as forms
use Rattle.zj_dev.specs.Disk.{Continues, DiskView}
use Rattle.zj_dev.proofs.DiskLaws.{continues_refl}
use Rattle.zj_tx.specs.Record.{Record}
use Rattle.zj_tx.specs.Running.{Transaction}
use Rattle.zj_area.specs.Journal.{AreaView}
use Rattle.zj_turns.specs.Views.{Has, Known}
use Rattle.zj_core.specs.Committing.{Seals}
use Rattle.zj_turns.specs.Passes.{CacheParameters, PassState, mine, now_knowing}
use Rattle.zj_core.specs.Core.{CoreState, IsOf, Performed}
use Rattle.zj_core.specs.declared.handles.Done.{Done}
use Rattle.zj_core.specs.Steps.{TakesMore, emptied, with_operation}
use Rattle.zj_core.proofs.Knowing.{knowing_again, knowing_same, mine_is}
use Rattle.zj_session.specs.Answering.{DeviceGoesOn, DoesIdle, DoesOpen, IsHandled, OnlyOwn, area_onward, without_handle}

-- the device of a journal that stays as it was goes on
pub device_same : {D : Type 0} (view : D → DiskView) (old new : CoreState D) → new.area ≡ old.area → DeviceGoesOn view old new
device_same view old new is = subst (λ (a : AreaView _). Continues (view old.area.device) (view a.device)) (sym is) (continues_refl (view old.area.device))

module _ {D : Type 0} (old new : CoreState D) where
  -- nothing
  pub only_same : Has old.pass.view old.pass.core → new ≡ old → OnlyOwn old new
  only_same known is = subst (OnlyOwn old) (sym is) (ap (λ (p : PassState). record old { pass = p }) (sym (knowing_same old.pass known)))

  -- what the core knows of itself, its handle, and its running transaction
  pub only_by : (k : Known) (begun : Option Call) (running : Transaction) → new ≡ record old { pass = now_knowing old.pass k; begun = begun; running = running } → OnlyOwn old new
  only_by k begun running is = is ∙ (λ i. record old {
    pass = now_knowing old.pass (sym (mine_is old.pass new.pass k (ap (λ (c : CoreState D). c.pass) is)) i);
    begun = sym (ap (λ (c : CoreState D). c.begun) is) i;
    running = sym (ap (λ (c : CoreState D). c.running) is) i;
    area = area_onward old.area (sym (ap (λ (c : CoreState D). c.area) is) i);
  })

  -- its pass is as told
  pub only_pass : (k : Known) (begun : Option Call) (running : Transaction) → new ≡ record old { pass = new.pass; begun = begun; running = running } → new.pass ≡ now_knowing old.pass k → OnlyOwn old new
  only_pass k begun running is pass = only_by k begun running (is ∙ ap (λ (p : PassState). record old { pass = p; begun = begun; running = running }) pass)

  -- blocks were taken
  pub only_takes : (cache : CacheParameters) → new ≡ record old { pass = new.pass } → TakesMore cache old.pass new.pass → OnlyOwn old new
  only_takes cache is takes = only_pass (mine new.pass) old.begun old.running is takes.only

  -- a handle was begun
  pub only_begun : (call : Call) → Has old.pass.view old.pass.core → new ≡ record old { begun = Some call } → OnlyOwn old new
  only_begun call known is = only_by (mine old.pass) (Some call) old.running (is ∙ ap (λ (p : PassState). record old { pass = p; begun = Some call }) (sym (knowing_same old.pass known)))

  -- the running transaction was sealed
  pub only_sealed : (view : D → DiskView) (r : Record) → Has old.pass.view old.pass.core → Seals view old new r → OnlyOwn old new
  only_sealed view r known seals = seals.next ∙ (λ i. record old {
    pass = (sym (knowing_same old.pass known) ∙ ap (λ (c : CoreState D). now_knowing old.pass (mine c.pass)) (sym seals.next)) i;
    begun = sym (ap (λ (c : CoreState D). c.begun) seals.next) i;
    running = sym (ap (λ (c : CoreState D). c.running) seals.next) i;
    area = seals.area i;
  })

  -- it is of its cache still
  pub of_only : (cache : CacheParameters) → OnlyOwn old new → IsOf cache old → IsOf cache new
  of_only cache only of = subst (IsOf cache) (sym only) (record { active = record { table = of.active.table; not_away = of.active.not_away }; sizes = of.sizes; many = of.many })

-- blocks were taken, and the handle is dropped
pub taken_dropped : {D : Type 0} (cache : CacheParameters) (old mid new : CoreState D) → mid ≡ record old { pass = mid.pass } → TakesMore cache old.pass mid.pass → new ≡ without_handle mid → new ≡ without_handle old
taken_dropped {D} cache old mid new is takes drops =
    drops
    ∙ ap (λ (c : CoreState D). without_handle (record c { pass = mid.pass })) is
    ∙ ap (λ (k : Known). record old { pass = now_knowing mid.pass k; begun = None }) same
    ∙ ap (λ (p : PassState). record old { pass = now_knowing p (emptied (mine old.pass)); begun = None }) takes.only
    ∙ ap (λ (p : PassState). record old { pass = p; begun = None }) (knowing_again old.pass (mine mid.pass) (emptied (mine old.pass)))
  where
    same : emptied (mine mid.pass) ≡ emptied (mine old.pass)
    same = λ i. record { operations = takes.more.operations i; held = finmap.empty; drawn = false; ticket = takes.more.ticket i; number = takes.more.number i }

-- a handle is dropped
pub only_dropped : {D : Type 0} (old new : CoreState D) → new ≡ without_handle old → OnlyOwn old new
only_dropped old new is = only_by old new (emptied (mine old.pass)) None old.running is

-- a call was performed
pub only_performed : {D : Type 0} (cache : CacheParameters) (old new : CoreState D) (begun made : Option Call) (number : ℕ) (done : Done) → IsSome made
    → IfSome made (λ call. Performed cache old.sizes number old.pass new.pass call done) → new ≡ record old { pass = new.pass; begun = begun; running = new.running } → OnlyOwn old new
only_performed cache old new begun None number done some performed is = absurd (true≢false (sym some))
only_performed cache old new begun (Some call) number done some performed is = only_pass old new (with_operation (mine old.pass) performed.operation) begun new.running is performed.pass

-- an act that doesn't suit a core without a handle
pub idle_order : {D : Type 0} (view : D → DiskView) (cache : CacheParameters) (core : CoreState D) (act : Act) → IsHandled act → ((call : Call) → act ≢ acts.Call call) → ((call : Call) → act ≢ acts.Begin call) → act ≢ acts.Commit → DoesIdle view cache core core act forms.Order
idle_order view cache core (acts.Call call) handled no_call no_begin no_commit = absurd (no_call call refl)
idle_order view cache core (acts.Begin call) handled no_call no_begin no_commit = absurd (no_begin call refl)
idle_order view cache core acts.Take handled no_call no_begin no_commit = refl
idle_order view cache core acts.Look handled no_call no_begin no_commit = absurd handled
idle_order view cache core acts.Stop handled no_call no_begin no_commit = refl
idle_order view cache core acts.Drop handled no_call no_begin no_commit = refl
idle_order view cache core acts.Commit handled no_call no_begin no_commit = absurd (no_commit refl)
idle_order view cache core acts.Sync handled no_call no_begin no_commit = absurd handled
idle_order view cache core acts.Checkpoint handled no_call no_begin no_commit = absurd handled

-- and one that doesn't suit a core whose handle is open
open_at : {D : Type 0} (cache : CacheParameters) (core : CoreState D) (begun : Call) (act : Act) → IsHandled act → act ≢ acts.Take → act ≢ acts.Stop → act ≢ acts.Drop → DoesOpen cache core core begun act forms.Order
open_at cache core begun (acts.Call call) handled no_take no_stop no_drop = refl
open_at cache core begun (acts.Begin call) handled no_take no_stop no_drop = refl
open_at cache core begun acts.Take handled no_take no_stop no_drop = absurd (no_take refl)
open_at cache core begun acts.Look handled no_take no_stop no_drop = absurd handled
open_at cache core begun acts.Stop handled no_take no_stop no_drop = absurd (no_stop refl)
open_at cache core begun acts.Drop handled no_take no_stop no_drop = absurd (no_drop refl)
open_at cache core begun acts.Commit handled no_take no_stop no_drop = refl
open_at cache core begun acts.Sync handled no_take no_stop no_drop = absurd handled
open_at cache core begun acts.Checkpoint handled no_take no_stop no_drop = absurd handled

pub open_order : {D : Type 0} (cache : CacheParameters) (core : CoreState D) (begun : Option Call) (act : Act) → IsHandled act → act ≢ acts.Take → act ≢ acts.Stop → act ≢ acts.Drop → IfSome begun (λ call. DoesOpen cache core core call act forms.Order)
open_order cache core None act handled no_take no_stop no_drop = tt
open_order cache core (Some call) act handled no_take no_stop no_drop = open_at cache core call act handled no_take no_stop no_drop
