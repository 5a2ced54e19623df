use Rattle.std.proofs.Common.{length, ap, arith}
use Rattle.zj_tree.proofs.PathsLemmas.{has_set_more}
use Rattle.zj_tree.proofs.tree.rename.set_paths.Goals as goal

pub loop-entry-preserved : goal.loop-entry-preserved
loop-entry-preserved c = has_set_more c.args.from.now c.args.to.now c.args.entries.now.items c.loop-entry.entry-items c.loop-entry.paths.items c.set_path.new.paths.items c.loop-entry.entry-index c.entry-item.result c.set_path.new.entry c.loop-entry.invariant (omega (arith, ap length c.deref_mut-entry-items.ensures.value)) c.set_path.ensures
