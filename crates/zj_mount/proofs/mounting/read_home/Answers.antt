use Rattle.std.proofs.lemmas.Result.{err_from_is_err_and}
use Rattle.zj_mount.proofs.MountLemmas.{blocks_cause, tree_cause}
use Rattle.zj_mount.proofs.mounting.read_home.Goals as goal

pub returns-in_err-blocks-clause-cause : goal.returns-in_err-blocks-clause-cause
returns-in_err-blocks-clause-cause g c =
    let p = err_from_is_err_and c.from_residual.result c.from_residual.ensures.1 in
    rw (p.1, p.2) (blocks_cause g.D.Disk.view c.args.home.now.told c.args.home.now.device c.read_blocks.new.home.device c.in_err-blocks.field-0.0 c.in_err-blocks.ensures.cause)

pub returns-in_err-tree-clause-cause : goal.returns-in_err-tree-clause-cause
returns-in_err-tree-clause-cause g c =
    let p = err_from_is_err_and c.from_residual-in_err-tree.result c.from_residual-in_err-tree.ensures.1 in
    rw (p.1, p.2)
    (tree_cause g.D.Disk.view c.args.home.now.told c.args.home.now.device c.read_blocks.new.home.device c.in_ok-blocks.blocks c.in_err-tree.field-0.0 c.in_ok-blocks.ensures.many c.in_ok-blocks.ensures.held
    (rw (c.sizes.ensures, c.in_ok-blocks.ensures.told) at c.in_err-tree.ensures.fault))
