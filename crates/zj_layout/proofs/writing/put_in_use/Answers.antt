use Rattle.std.proofs.Common.{arith}
use Rattle.zj_layout.specs.Node.{byte_in}
use Rattle.zj_layout.proofs.Kept.{byte_kept}
use Rattle.zj_layout.proofs.writing.put_in_use.Goals as goal

pub returns-clause-here : goal.returns-clause-here
unfolding byte_in
returns-clause-here c = grind arith

pub returns-clause-others : goal.returns-clause-others
returns-clause-others c j ne = byte_kept c.args.b.now c.put_byte.new.b c.args.i j ne c.put_byte.ensures.others
