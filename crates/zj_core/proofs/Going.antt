-- A core goes on as one of its cache's, whatever it was answered.
use Rattle.std.proofs.Common.{◌≡◌, ℕ, Option, Some, None, IfSome, IsSome, Result, Ok, Err, sym, ap, ◌∙◌, subst}
use Rattle.std.specs.Prelude.{IfOk, IfNone, OnOk, OnErr}
use Rattle.zj_block.specs.declared.numbers.BlockNo.{BlockNo}
use Rattle.zj_tree.specs.declared.call.Call.{Call}
use Rattle.zj_turns.specs.Views.{Known}
use Rattle.zj_turns.specs.Passes.{CacheParameters, PassState, mine, now_knowing}
use Rattle.zj_core.specs.Core.{CoreState, IsOf, Performed, TakesNext}
use Rattle.zj_core.specs.Steps.{with_operation}
use Rattle.zj_core.specs.declared.handles.Done.{Done}
use Rattle.zj_core.specs.declared.fault.CallFault.{CallFault}
use Rattle.zj_core.specs.declared.fault.TakeFault.{TakeFault}

module _ {D : Type 0} (cache : CacheParameters) (old new : CoreState D) (of : IsOf cache old) where
  -- it knows something else of itself
  pub of_knowing : (k : Known) → new.pass ≡ now_knowing old.pass k → new.sizes ≡ old.sizes → IsOf cache new
  of_knowing k knows sizes = record {
    active = record { table = ap (λ (p : PassState). p.table) knows ∙ of.active.table; not_away = ap (λ (p : PassState). p.away) knows ∙ of.active.not_away };
    sizes = of.sizes ∙ sym sizes;
    many = of.many ∙ ap (λ s. s.blocks) (sym sizes);
  }

  of_same : new ≡ old → IsOf cache new
  of_same same = subst (IsOf cache) (sym same) of

  -- it took a block, or none
  pub of_taken : (result : Result (Option BlockNo) TakeFault) → IsSome old.begun
      → IfOk result (λ next. IfSome next (λ block. IfSome old.begun (λ call. TakesNext cache old.sizes old.pass new.pass call block.0)))
      → IfOk result (λ next. IfNone next (new ≡ old)) → OnErr result (new ≡ old) → new.sizes ≡ old.sizes → IsOf cache new
  of_taken (Ok (Some block)) begun took idle err sizes = by old.begun begun took
    where
      by : (o : Option Call) → IsSome o → IfSome o (λ call. TakesNext cache old.sizes old.pass new.pass call block.0) → IsOf cache new
      by (Some call) some next = of_knowing (mine new.pass) next.takes.only sizes
      by None some next = absurd (cc)
  of_taken (Ok None) begun took idle err sizes = of_same idle
  of_taken (Err fault) begun took idle err sizes = of_same err

  -- it made a call, or not
  pub of_called : (result : Result Done CallFault) (call : Call) (number : ℕ) → IfOk result (Performed cache old.sizes number old.pass new.pass call) → OnErr result (new ≡ old) → OnOk result (new.sizes ≡ old.sizes) → IsOf cache new
  of_called (Ok done) call number performed err sizes = of_knowing (with_operation (mine old.pass) performed.operation) performed.pass sizes
  of_called (Err fault) call number performed err sizes = of_same err

  -- and its handle is as before
  pub begun_called : (result : Result Done CallFault) → OnOk result (new ≡ record old { pass = new.pass; running = new.running }) → OnErr result (new ≡ old) → new.begun ≡ old.begun
  begun_called (Ok done) closed err = ap (λ (x : CoreState D). x.begun) closed
  begun_called (Err fault) closed err = ap (λ (x : CoreState D). x.begun) err

  pub sizes_called : (result : Result Done CallFault) → OnOk result (new ≡ record old { pass = new.pass; running = new.running }) → OnOk result (new.sizes ≡ old.sizes)
  sizes_called (Ok done) closed = ap (λ (x : CoreState D). x.sizes) closed
  sizes_called (Err fault) closed = tt
