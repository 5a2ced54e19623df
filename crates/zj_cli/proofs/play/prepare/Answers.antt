use Rattle.std.proofs.Common.{◌∙◌, ap, inl}
use Rattle.std.proofs.lemmas.Result.{err_from_is_err_and}
use Rattle.zj_block.specs.Sizes.{Numbers}
use Rattle.zj_cli.proofs.PlayLemmas.{input_failed, input_refused}
use Rattle.zj_cli.proofs.play.prepare.Goals as goal

pub returns-in_err-text-clause-cause : goal.returns-in_err-text-clause-cause
returns-in_err-text-clause-cause g c =
    let p = err_from_is_err_and c.from_residual-in_err-text.result c.from_residual-in_err-text.ensures.1 in
    let mounted = c.in_ok-recovered in
    rw (p.1, p.2) (inl (mounted.recovered.blocks, mounted.recovered.tree.tree, mounted.ensures.tree, input_failed c.args.home.now.told.sizes.cores _ _ _ _ _ c.in_err-text.ensures.err c.in_err-text.ensures.cause))

pub returns-in_err-schedule-clause-cause : goal.returns-in_err-schedule-clause-cause
returns-in_err-schedule-clause-cause g c =
    let p = err_from_is_err_and c.from_residual-in_err-schedule.result c.from_residual-in_err-schedule.ensures.1 in
    let mounted = c.in_ok-recovered in
    let cores = c.cores.ensures.value ∙ ap (λ (n : Numbers). n.cores) (c.sizes.ensures ∙ mounted.ensures.sizes) in
    rw (p.1, p.2) (inl (mounted.recovered.blocks, mounted.recovered.tree.tree, mounted.ensures.tree, input_refused c.args.home.now.told.sizes.cores _ _ _ _ c.in_ok-text.text.items _ (rw (cores, c.deref.ensures.value) at c.in_err-schedule.ensures.err) c.in_ok-text.ensures.ok))

pub returns-clause-settled : goal.returns-clause-settled
returns-clause-settled g c = c.in_ok-recovered.ensures.settled.home_rests
