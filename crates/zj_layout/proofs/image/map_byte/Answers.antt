use Rattle.std.proofs.Common.{arith}
use Rattle.zj_layout.specs.Node.{byte_in}
use Rattle.zj_layout.proofs.Ruled.{byte_read}
use Rattle.zj_layout.proofs.image.map_byte.Goals as goal

pub returns-in-Some : goal.returns-in-Some
unfolding byte_in
returns-in-Some c = byte_read c.args.sizes.now c.args.blocks.now c.args.block c.in-Some.content.now c.byte.result c.requires.within (omega (arith, c.requires.many)) c.in-Some.ensures.block c.byte.ensures
