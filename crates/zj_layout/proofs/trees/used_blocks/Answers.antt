use Rattle.std.proofs.Common.{sym, arith}
use Rattle.zj_layout.proofs.Gathered.{named_more, used_total}
use Rattle.zj_layout.proofs.trees.used_blocks.Goals as goal

pub loop-number-preserved : goal.loop-number-preserved
loop-number-preserved c =
    let more = named_more c.args.sizes.now c.args.blocks.now c.loop-number.number c.node_of-node.result (omega arith) (sym c.node_of-node.ensures) c.loop-number.used c.numbers.result.now c.numbers.ensures c.loop-number.invariant.named c.loop-number.invariant.few in
    record { named = more.0; few = more.1 }

pub returns : goal.returns
returns c = λ tree describes. used_total c.args.sizes.now c.args.blocks.now c.nodes-number-end.ensures.limits c.requires.sound tree describes c.loop-number.used c.loop-number.number (omega arith) c.loop-number.invariant.named
