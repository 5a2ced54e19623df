use Rattle.zj_dirs.proofs.Unwritten.{unwritten_stored}
use Rattle.zj_dirs.proofs.tests.lowest_node.Goals as goal

pub free_node-requires : goal.free_node-requires
free_node-requires c = record { stored = unwritten_stored c.args.sizes.now c.args.taken.now c.args.written.now c.requires }
