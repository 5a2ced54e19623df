use Rattle.zj_cli.proofs.AskedLemmas.{all_built, got, one_more_built, unbuilt_at}
use Rattle.zj_cli.proofs.asked.refuse_unbuilt.Goals as goal

pub returns-then-not-is_built-clause-err : goal.returns-then-not-is_built-clause-err
returns-then-not-is_built-clause-err c =
    rw (c.number.ensures, c.act_column.ensures)
    (unbuilt_at c.args.lines.now c.loop-line.line-index c.line-item.result c.loop-line.invariant (got c.args.lines.now c.loop-line.line-index c.line-item.result c.loop-line-test.true c.line-item.is) (cc (c.is_built.ensures, c.if-not-is_built.true)))

pub loop-line-preserved : goal.loop-line-preserved
loop-line-preserved c =
    one_more_built c.args.lines.now c.loop-line.line-index c.line-item.result c.loop-line.invariant (got c.args.lines.now c.loop-line.line-index c.line-item.result c.loop-line-test.true c.line-item.is) (cc (c.is_built.ensures, c.if-not-is_built.false))

pub returns-clause-built : goal.returns-clause-built
returns-clause-built c = all_built c.args.lines.now c.loop-line.line-index c.loop-line.invariant c.loop-line-test.false
