use Rattle.zj_tree.proofs.PathsLemmas.{HasSet}
use Rattle.zj_tree.proofs.tree.rename.set_paths.Given as goal

abbrev pub invariant-loop-entry : goal.invariant-loop-entry
invariant-loop-entry l = HasSet l.from l.to l.fn.entries.items l.entry-items l.paths.items l.entry-index
