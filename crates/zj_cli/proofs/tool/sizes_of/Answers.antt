use Rattle.std.proofs.Common.{arith}
use Rattle.zj_cli.proofs.WordLemmas.{no_sizes}
use Rattle.zj_cli.proofs.tool.sizes_of.Goals as goal

pub returns-clause-none : goal.returns-clause-none
returns-clause-none c = no_sizes c.new.result c.args.blocks c.args.nodes c.args.cores c.args.area (omega (arith, c.ranges.blocks.fits)) (omega (arith, c.ranges.nodes.fits)) (omega (arith, c.ranges.cores.fits)) (omega (arith, c.ranges.area.fits)) (rw c.from.ensures at c.new.ensures.limits).1
