use Rattle.std.proofs.Common.{refl, arith}
use Rattle.zj_script.proofs.LineEnds.{line_left, text_is}
use Rattle.zj_script.proofs.script.read_line.Goals as goal

pub overflow_sub-result : goal.overflow_sub-result
overflow_sub-result c =
    let s = rw c.in-Err-Refused.field-0-is at c.in-Err-Refused.ensures.err in
    omega (arith, s.2, line_left c.args.acts c.args.cores c.args.text.now c.in-Err-Refused.kind s.0 s.1)

pub returns-in-Ok-clause-ok : goal.returns-in-Ok-clause-ok
returns-in-Ok-clause-ok c =
    let ok = c.in-Ok.ensures.ok in
    record { number_is = refl; text_is = text_is c.args.text.now _ ok.2; can_stand = record { core = ok.0; act = ok.1 } }

pub returns-in-Err-Refused-clause-err : goal.returns-in-Err-Refused-clause-err
returns-in-Err-Refused-clause-err c =
    let s = rw c.in-Err-Refused.field-0-is at c.in-Err-Refused.ensures.err in (
      refl,
      record {
        has_act = c.requires.act;
        due = c.in-Err-Refused.kind;
        rest = s.0;
        leaves = s.1;
        kind_is = c.number.ensures;
        column_is = omega (arith, s.2, line_left c.args.acts c.args.cores c.args.text.now c.in-Err-Refused.kind s.0 s.1);
      },
    )
