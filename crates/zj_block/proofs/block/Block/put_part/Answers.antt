use Rattle.std.proofs.Common.{arith}
use Rattle.zj_block.proofs.Parts.{bytes_of-put}
use Rattle.zj_block.proofs.block.Block.put_part.Goals as goal

pub returns-clause-bytes : goal.returns-clause-bytes
returns-clause-bytes c =
    rw (← c.self.view_is) (bytes_of-put c.self.inside.words c.args.i c.args.from c.args.count c.args.value c.with_part.result (omega (arith, c.self.invariant.many)) c.requires.inside c.with_part.ensures.below c.with_part.ensures.part c.with_part.ensures.above)
