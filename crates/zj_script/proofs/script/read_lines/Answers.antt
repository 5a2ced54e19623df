use Rattle.std.proofs.Common.{◌+◌, Bool, List, ap, sym, ◌∙◌, subst}
use Rattle.zj_script.specs.declared.line.Line.{Line}
use Rattle.zj_script.specs.Lines.{lines_left}
use Rattle.zj_script.specs.Script.{past_limit}
use Rattle.std.proofs.lemmas.Result.{err_from_is_err_and}
use Rattle.zj_script.proofs.Inputs.{HasRead, front_limit, front_whole, none_read, read_none, read_one}
use Rattle.zj_script.proofs.script.read_lines.Goals as goal

pub loop-text-init : goal.loop-text-init
loop-text-init c =
    subst (λ (lines : List Line). HasRead c.args.acts c.args.cores c.args.input.now c.new-texts.result.cut (lines_left c.new-texts.result) 0 lines) (sym c.requires.none)
    (none_read c.args.acts c.args.cores c.args.input.now _ _ c.new-texts.ensures.lines c.new-texts.ensures.cut)

pub loop-text-preserved-in_ok-push : goal.loop-text-preserved-in_ok-push
loop-text-preserved-in_ok-push c =
    let text = c.in-Some.text.now in
    let h = subst (λ (cut : Bool). HasRead c.args.acts c.args.cores c.args.input.now cut (lines_left c.loop-text.texts) c.loop-text.number c.loop-text.lines.items) (sym c.next.ensures.cut) c.loop-text.invariant in
    let limits = sym (ap (λ (cut : Bool). past_limit (c.loop-text.number + 1) text cut) c.is_cut.ensures) ∙ c.in_ok-check_limits.ensures.ok in
    subst (λ (lines : List Line). HasRead c.args.acts c.args.cores c.args.input.now c.next.new.self.cut (lines_left c.next.new.self) (c.loop-text.number + 1) lines) (sym c.in_ok-push.ensures.items)
    (read_one _ _ _ _ _ _ _ _ text c.in_ok-read_line.field-0 h c.in-Some.ensures.line limits (sym c.has_act.ensures ∙ c.if-has_act.true) c.in_ok-read_line.ensures.ok)

pub loop-text-preserved : goal.loop-text-preserved
loop-text-preserved c =
    let text = c.in-Some.text.now in
    let h = subst (λ (cut : Bool). HasRead c.args.acts c.args.cores c.args.input.now cut (lines_left c.loop-text.texts) c.loop-text.number c.loop-text.lines.items) (sym c.next.ensures.cut) c.loop-text.invariant in
    let limits = sym (ap (λ (cut : Bool). past_limit (c.loop-text.number + 1) text cut) c.is_cut.ensures) ∙ c.in_ok-check_limits.ensures.ok in
    read_none _ _ _ _ _ _ _ _ text h c.in-Some.ensures.line limits (sym c.has_act.ensures ∙ c.if-has_act.false)

pub returns-in_err-check_limits-clause-front : goal.returns-in_err-check_limits-clause-front
returns-in_err-check_limits-clause-front c =
    let p = err_from_is_err_and c.from_residual.result c.from_residual.ensures.1 in
    rw (p.1, p.2)
    (front_limit c.args.acts c.args.cores c.args.input.now c.loop-text.texts.cut (lines_left c.loop-text.texts) c.loop-text.number c.loop-text.lines.items _ c.in_err-check_limits.field-0.0 c.loop-text.invariant c.in_err-check_limits.ensures.err)

pub returns-clause-front : goal.returns-clause-front
returns-clause-front c = front_whole c.args.acts c.args.cores c.args.input.now c.loop-text.texts.cut (lines_left c.loop-text.texts) c.loop-text.number c.loop-text.lines.items c.loop-text.invariant
