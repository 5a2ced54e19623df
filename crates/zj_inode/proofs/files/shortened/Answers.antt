-- The node with fewer blocks is a node.
use Rattle.std.proofs.Common.{rules, arith}
use Rattle.zj_inode.proofs.Cuts.{cut_node}
use Rattle.zj_inode.proofs.files.shortened.Goals as goal

pub returns-clause-spelled : goal.returns-clause-spelled
returns-clause-spelled c = cut_node c.args.node.now c.args.size c.first_blocks.result (search rules) (search rules) c.requires.spelled c.requires.is_file c.requires.few c.requires.fewer
    (λ j lt. c.first_blocks.ensures.first j (omega (arith, c.requires.keeps))) (λ j le. c.first_blocks.ensures.zeros j (omega (arith, c.requires.keeps)))
