use Rattle.std.proofs.Common.{arith}
use Rattle.std.proofs.lemmas.Fmt.{decimal_digit, decimal_step}
use Rattle.zj_script.proofs.Adding.{adds_behind, adds_one}
use Rattle.zj_script.proofs.put.+put_number.Goals as goal

pub returns-then-number-lt10 : goal.returns-then-number-lt10
returns-then-number-lt10 t c = adds_one c.extend.result c.args.out.now c.extend.new.self _ _ (decimal_digit c.args.number c.if-number-lt10.true) c.extend.ensures.ok c.extend.ensures.err

pub returns : goal.returns
returns t c =
    adds_behind c.extend-2.result c.args.out.now c.put_number.new.out c.extend-2.new.self _ _ _ c.in_ok-put_number.ensures.all (decimal_step c.args.number c.if-number-lt10.false (omega arith)) c.extend-2.ensures.ok c.extend-2.ensures.err
