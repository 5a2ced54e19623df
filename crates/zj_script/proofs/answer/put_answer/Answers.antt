use Rattle.std.proofs.Common.{decimal}
use Rattle.zj_script.specs.Answers.{answer_core, form_words}
use Rattle.zj_script.proofs.Adding.{adds_answer}
use Rattle.zj_script.proofs.answer.put_answer.Goals as goal

pub returns : goal.returns
returns c =
    let answer = c.args.answer.now in
    adds_answer c.extend.result c.args.out.now _ _ _ c.extend.new.self (decimal answer.line) (answer_core answer.core) (form_words answer.form)
    (rw c.from.ensures at c.in_ok-put_number.ensures.all) c.in_ok-put_core.ensures.all c.in_ok-put_form.ensures.all c.extend.ensures.ok c.extend.ensures.err
