use Rattle.std.proofs.Common.{arith}
use Rattle.zj_block.proofs.Copies.{write_all, write_more}
use Rattle.zj_block.proofs.block.Block.to_bytes.Goals as goal

pub loop-i-preserved : goal.loop-i-preserved
loop-i-preserved c = write_more c.loop-i.out c.self.inside.words c.write_u64.new.buf c.loop-i.i c.loop-i.invariant.0 c.self.invariant.many c.loop-i-test.true c.loop-i.invariant.1 c.write_u64.ensures

pub returns-clause-bytes : goal.returns-clause-bytes
returns-clause-bytes c = rw (← c.self.view_is) (write_all c.loop-i.out c.self.inside.words c.loop-i.invariant.0 c.self.invariant.many (λ m below. c.loop-i.invariant.1 m (omega arith)))
