-- The block that is due is taken.
use Rattle.std.proofs.Common.{Option, subst}
use Rattle.std.specs.Option.{IfSome, IfNone}
use Rattle.std.proofs.lemmas.Result.{err_from_is_err_and}
use Rattle.zj_block.specs.declared.numbers.BlockNo.{BlockNo}
use Rattle.zj_core.specs.Handle.{IsDue, IsPerformed}
use Rattle.zj_core.proofs.Needing.{missed_next, needs_next, needs_no_more}
use Rattle.zj_core.proofs.steps.take_next.Goals as goal

pub returns-in_default-clause-ready : goal.returns-in_default-clause-ready
returns-in_default-clause-ready c =
    needs_no_more c.args.sizes.now c.args.pass.now c.args.handle.now.taken c.args.handle.now.call c.requires.has
    (subst (λ (next : Option BlockNo). IfNone next (IsPerformed c.args.sizes.now c.args.handle.now.taken c.args.handle.now.call)) c.in_default.is c.in_ok-block.ensures.none)

pub returns-in_err-take_block-clause-cause : goal.returns-in_err-take_block-clause-cause
returns-in_err-take_block-clause-cause c =
    let p = err_from_is_err_and c.from_residual-in_err-take_block.result c.from_residual-in_err-take_block.ensures.1 in
    let due = subst (λ (next : Option BlockNo). IfSome next (λ block. IsDue c.args.sizes.now c.args.handle.now.taken c.args.handle.now.call block.0)) c.in-Some.is c.in_ok-block.ensures.some in
    rw (p.1, p.2) (missed_next c.args.cache.now c.args.sizes.now c.args.pass.now c.args.handle.now.taken c.args.handle.now.call c.requires.has c.in-Some.block.0 due c.in_err-take_block.field-0.0 c.in_err-take_block.ensures.missed)

pub returns-clause-took : goal.returns-clause-took
returns-clause-took c = record {
  needs = needs_next c.args.sizes.now c.args.pass.now c.args.handle.now.taken c.args.handle.now.call c.requires.has c.in-Some.block.0
      (subst (λ (next : Option BlockNo). IfSome next (λ block. IsDue c.args.sizes.now c.args.handle.now.taken c.args.handle.now.call block.0)) c.in-Some.is c.in_ok-block.ensures.some);
  held = c.in_ok-take_block.ensures.held;
  only = c.in_ok-take_block.ensures.only;
  takes = c.in_ok-take_block.ensures.takes;
  knows = c.in_ok-take_block.ensures.knows;
}
