use Rattle.std.proofs.Common.{ap, arith}
use Rattle.zj_tree.specs.Tree.{FileTree}
use Rattle.zj_tree.proofs.GatheredLemmas.{gathered_is, gathered_kept}
use Rattle.zj_tree.proofs.tree.Tree.from_entries.Goals as goal

pub invariant_of-result : goal.invariant_of-result
invariant_of-result c =
    gathered_kept c.args.entries.items c.sort.new.entries.items c.requires.once c.sort.ensures.permutation c.sort.ensures.sorted c.args.blocks c.args.nodes c.args.room c.args.version
    c.requires.tree c.requires.blocks c.requires.within (omega arith) (omega arith)

pub returns : goal.returns
returns c =
    ap (λ (t : FileTree). record { limits = record { nodes = c.args.nodes; room = c.args.room; version = c.args.version }; tree = t })
    (gathered_is c.args.entries.items c.sort.new.entries.items c.requires.once c.sort.ensures.permutation c.sort.ensures.sorted)
