use Rattle.zj_script.specs.Grammar.{act_parts, core_word, words_of}
use Rattle.zj_script.proofs.Adding.{adds_line}
use Rattle.zj_script.proofs.writing.put_line.Goals as goal

pub returns : goal.returns
returns c =
    let line = c.args.line.now in
    adds_line c.extend.result c.args.out.now _ _ c.extend.new.self (core_word line.core) (words_of (act_parts line.act))
    c.in_ok-put_core.ensures.all c.in_ok-put_act.ensures.all c.extend.ensures.ok c.extend.ensures.err
