use Rattle.std.proofs.Common.{◌*◌, arith}
use Rattle.zj_block.specs.Block.{u32_at}
use Rattle.zj_dirs.proofs.Named.{kind_stands, zero_is_free}
use Rattle.zj_dirs.proofs.searching.is_free.Goals as goal

pub returns : goal.returns
returns c = λ node at.
    zero_is_free c.get_u32.result (u32_at c.args.content.now (64 * c.args.place)) c.eq.result node.kind (c.get_u32.ensures.some.1 (omega (arith, c.requires))) c.get_u32.ensures.value c.eq.ensures (kind_stands c.args.content.now c.args.place node at)
