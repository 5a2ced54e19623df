-- One block after the other is taken.
use Rattle.std.proofs.Common.{◌<◌, ◌∙◌, ℕ, refl, sym, subst, true≢false}
use Rattle.std.proofs.lemmas.Result.{err_from_is_err_and}
use Rattle.zj_block.specs.Sizes.{Numbers}
use Rattle.zj_tree.specs.declared.call.Call.{Call}
use Rattle.zj_inode.specs.Performs.{OutcomeSays}
use Rattle.zj_turns.specs.Passes.{PassState}
use Rattle.zj_core.specs.Core.{IsTakeCause}
use Rattle.zj_core.specs.Handle.{HasTaken, IsDue, TakesFor}
use Rattle.zj_core.proofs.Needing.{for_call, is_due, missed_next, takes_none, takes_then}
use Rattle.zj_core.proofs.steps.take_all.Goals as goal

pub loop-block-init : goal.loop-block-init
loop-block-init c = record {
  has = c.requires.has;
  call = refl;
  takes = takes_none c.args.cache.now c.args.sizes.now c.args.pass.now c.args.handle.now.taken c.requires.has;
  foot = λ b here was. absurd (true≢false (sym here ∙ was));
}

pub take_block-requires-clause-within : goal.take_block-requires-clause-within
take_block-requires-clause-within c =
    subst (λ (n : ℕ). c.in-Need.block.0 < n) (sym c.requires.many)
    (is_due c.args.sizes.now c.loop-block.handle.taken c.args.handle.now.call c.in_ok-block.field-0 c.in-Need.block c.in-Need.is (subst (λ (call : Call). OutcomeSays c.args.sizes.now c.loop-block.handle.taken call c.in_ok-block.field-0) c.loop-block.invariant.call c.in_ok-block.ensures.says) c.in_ok-block.ensures.root c.in_ok-block.ensures.within).within

pub loop-block-preserved : goal.loop-block-preserved
loop-block-preserved c =
    let due : IsDue c.args.sizes.now c.loop-block.handle.taken c.args.handle.now.call c.in-Need.block.0 = is_due c.args.sizes.now c.loop-block.handle.taken c.args.handle.now.call c.in_ok-block.field-0 c.in-Need.block c.in-Need.is (subst (λ (call : Call). OutcomeSays c.args.sizes.now c.loop-block.handle.taken call c.in_ok-block.field-0) c.loop-block.invariant.call c.in_ok-block.ensures.says) c.in_ok-block.ensures.root c.in_ok-block.ensures.within in
    record {
      has = subst (λ (n : Numbers). HasTaken n c.take_block.new.pass c.take_block.new.taken c.take_block.new.follows) c.requires.sizes c.in_ok-take_block-in-Need.ensures.has;
      call = c.loop-block.invariant.call;
      takes = takes_then c.args.cache.now c.args.pass.now c.loop-block.pass c.take_block.new.pass c.loop-block.invariant.takes c.in_ok-take_block-in-Need.ensures.takes;
      foot = for_call c.args.cache.now c.args.sizes.now c.args.pass.now c.loop-block.pass c.take_block.new.pass c.args.handle.now.call c.in_ok-take_block-in-Need.ensures.takes c.loop-block.handle.taken c.in-Need.block.0 c.loop-block.invariant.has due c.in_ok-take_block-in-Need.ensures.only c.loop-block.invariant.foot;
    }

pub returns-in_err-take_block-in-Need-clause-cause : goal.returns-in_err-take_block-in-Need-clause-cause
returns-in_err-take_block-in-Need-clause-cause c =
    let p = err_from_is_err_and c.from_residual-in_err-take_block-in-Need.result c.from_residual-in_err-take_block-in-Need.ensures.1 in
    let due : IsDue c.args.sizes.now c.loop-block.handle.taken c.args.handle.now.call c.in-Need.block.0 = is_due c.args.sizes.now c.loop-block.handle.taken c.args.handle.now.call c.in_ok-block.field-0 c.in-Need.block c.in-Need.is (subst (λ (call : Call). OutcomeSays c.args.sizes.now c.loop-block.handle.taken call c.in_ok-block.field-0) c.loop-block.invariant.call c.in_ok-block.ensures.says) c.in_ok-block.ensures.root c.in_ok-block.ensures.within in
    rw (p.1, p.2)
    (subst (λ (q : PassState). IsTakeCause c.args.cache.now c.args.sizes.now q c.args.handle.now.call c.in_err-take_block-in-Need.field-0.0) (sym c.in_err-take_block-in-Need.ensures.pass)
    (missed_next c.args.cache.now c.args.sizes.now c.loop-block.pass c.loop-block.handle.taken c.args.handle.now.call c.loop-block.invariant.has c.in-Need.block.0 due c.in_err-take_block-in-Need.field-0.0 c.in_err-take_block-in-Need.ensures.missed))

pub returns-in_err-take_block-in-Need-clause-foot : goal.returns-in_err-take_block-in-Need-clause-foot
returns-in_err-take_block-in-Need-clause-foot c =
    subst (λ (q : PassState). TakesFor c.args.sizes.now c.args.pass.now q c.args.handle.now.call) (sym c.in_err-take_block-in-Need.ensures.pass) c.loop-block.invariant.foot
