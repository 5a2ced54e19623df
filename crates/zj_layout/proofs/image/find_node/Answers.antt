use Rattle.std.proofs.Common.{◌<◌, sym, subst}
use Rattle.zj_layout.proofs.Ruled.{block_not_read, node_read}
use Rattle.zj_layout.proofs.image.find_node.Goals as goal

pub returns-in_err-content : goal.returns-in_err-content
returns-in_err-content c = absurd (block_not_read c.args.blocks.now c.node_block.result (subst (λ n. c.node_block.result < n) (sym c.requires.many) c.node_block.ensures.within) c.in_err-content.ensures.block)

pub returns : goal.returns
returns c = node_read c.args.sizes.now c.args.blocks.now c.args.number c.node_block.result c.in_ok-content.content.now c.node_at.result c.requires.within c.node_block.ensures.value (subst (λ n. c.node_block.result < n) (sym c.requires.many) c.node_block.ensures.within) c.in_ok-content.ensures.block c.node_at.ensures
