use Rattle.std.proofs.Common.{◌≡◌, ◌≤◌, ◌-◌, ◌∷◌, ◌++◌, [], length, take, drop, append-nil, refl, ap, ◌∙◌, arith}
use Rattle.std.proofs.lemmas.List.{take-append-drop, take_all}
use Rattle.std.proofs.lemmas.Result.{err_from_is_err_and}
use Rattle.zj_turns.specs.Passes.{left_of}
use Rattle.zj_session.specs.Playing.{journals_of}
use Rattle.zj_session.proofs.Devices.{go_on_then}
use Rattle.zj_session.proofs.Lists.{at_all}
use Rattle.zj_session.proofs.Onward.{off_together}
use Rattle.zj_session.proofs.Resting.{rest_off}
use Rattle.zj_session.proofs.Schedules.{plays_end, plays_first, plays_step}
use Rattle.zj_session.proofs.playing.play_lines.Goals as goal

pub loop-line-init : goal.loop-line-init
loop-line-init g c = plays_first g.D.Disk.view c.args.cache.now c.args.cores.now (length c.args.lines.now - 0) c.args.out.now.answers c.requires.together c.requires.idle
    (λ i core there. let left = at_all (λ x. length c.args.lines.now ≤ left_of x.pass) c.args.cores.now c.requires.left i core there in omega arith)

pub returns-in_err-reserve-clause-stops : goal.returns-in_err-reserve-clause-stops
returns-in_err-reserve-clause-stops g c =
    let p = err_from_is_err_and c.from_residual.result c.from_residual.ensures.1 in
    rw p.1 (λ past before.
    let e = plays_end g.D.Disk.view c.args.cache.now c.args.cores.now c.loop-line.cores c.loop-line.cores (length c.args.lines.now - c.loop-line.line-index) c.args.lines.now (take c.loop-line.line-index c.args.lines.now)
    (drop c.loop-line.line-index c.args.lines.now) c.args.out.now.answers c.loop-line.out.answers (take-append-drop c.loop-line.line-index c.args.lines.now) (λ _. refl) c.loop-line.invariant past before in
    (drop c.loop-line.line-index c.args.lines.now, e.0, c.reserve.ensures.answers ∙ e.1, e.2))

pub returns-in_err-reserve-clause-together : goal.returns-in_err-reserve-clause-together
returns-in_err-reserve-clause-together g c = c.loop-line.invariant.together

pub returns-in_err-reserve-clause-journals : goal.returns-in_err-reserve-clause-journals
returns-in_err-reserve-clause-journals g c = c.loop-line.invariant.journals

pub answer_line-requires-clause-together : goal.answer_line-requires-clause-together
answer_line-requires-clause-together g c = c.loop-line.invariant.together

pub answer_line-requires-clause-left : goal.answer_line-requires-clause-left
answer_line-requires-clause-left g c = λ core there none. let left = c.loop-line.invariant.left c.unwrap-core.result core there in omega arith

pub returns-in_err-form-clause-stops : goal.returns-in_err-form-clause-stops
returns-in_err-form-clause-stops g c =
    let p = err_from_is_err_and c.from_residual-in_err-form.result c.from_residual-in_err-form.ensures.1 in
    rw p.1 (λ past before.
    let e = plays_end g.D.Disk.view c.args.cache.now c.args.cores.now c.loop-line.cores c.answer_line.new.cores (length c.args.lines.now - c.loop-line.line-index) c.args.lines.now (take c.loop-line.line-index c.args.lines.now)
    (drop c.loop-line.line-index c.args.lines.now) c.args.out.now.answers c.loop-line.out.answers (take-append-drop c.loop-line.line-index c.args.lines.now)
    (λ steady. rest_off c.args.cache.now c.loop-line.cores c.loop-line.invariant.together c.answer_line.new.cores c.unwrap-core.result steady c.in_err-form.ensures.err) c.loop-line.invariant past before in
    (drop c.loop-line.line-index c.args.lines.now, e.0, c.reserve.ensures.answers ∙ e.1, e.2))

pub returns-in_err-form-clause-together : goal.returns-in_err-form-clause-together
returns-in_err-form-clause-together g c = off_together c.args.cache.now c.loop-line.cores c.answer_line.new.cores c.unwrap-core.result c.in_err-form.ensures.err c.loop-line.invariant.together

pub returns-in_err-form-clause-journals : goal.returns-in_err-form-clause-journals
returns-in_err-form-clause-journals g c = go_on_then g.D.Disk.view (journals_of c.args.cores.now) (journals_of c.loop-line.cores) (journals_of c.answer_line.new.cores) c.loop-line.invariant.journals c.answer_line.ensures.journals

pub loop-line-preserved : goal.loop-line-preserved
loop-line-preserved g c =
    plays_step c.logs_are_right.ensures c.log_fits_further.ensures g.D.Disk.view c.args.cache.now c.args.cores.now c.loop-line.cores c.answer_line.new.cores c.args.lines.now c.loop-line.line-index c.args.out.now.answers c.loop-line.out.answers c.push.new.self.answers
    c.unwrap-core.result c.line-item.result c.in_ok-form.form c.loop-line-test.true c.line-item.is c.unwrap-core.ensures c.loop-line.invariant c.in_ok-form.ensures.answered c.answer_line.ensures.steady c.answer_line.ensures.journals
    (c.push.ensures ∙ ap (λ l. l ++ record { line = c.line-item.result.number; core = c.line-item.result.core; form = c.in_ok-form.form } ∷ []) c.reserve.ensures.answers)

pub returns-clause-plays : goal.returns-clause-plays
returns-clause-plays g c = λ past before.
    let all : take c.loop-line.line-index c.args.lines.now ≡ c.args.lines.now = take_all c.loop-line.line-index c.args.lines.now c.loop-line-test.false in
    plays_end g.D.Disk.view c.args.cache.now c.args.cores.now c.loop-line.cores c.loop-line.cores (length c.args.lines.now - c.loop-line.line-index) c.args.lines.now (take c.loop-line.line-index c.args.lines.now)
    [] c.args.out.now.answers c.loop-line.out.answers (append-nil (take c.loop-line.line-index c.args.lines.now) ∙ all) (λ _. refl) c.loop-line.invariant past before

pub returns-clause-together : goal.returns-clause-together
returns-clause-together g c = c.loop-line.invariant.together

pub returns-clause-journals : goal.returns-clause-journals
returns-clause-journals g c = c.loop-line.invariant.journals
