use Rattle.zj_dirs.proofs.Unwritten.{unwritten_root, unwritten_stored}
use Rattle.zj_dirs.proofs.tests.place_in_root.Goals as goal

pub place-requires-clause-stored : goal.place-requires-clause-stored
place-requires-clause-stored c = unwritten_stored c.args.sizes.now c.args.taken.now c.args.written.now c.requires

pub place-requires-clause-directory : goal.place-requires-clause-directory
place-requires-clause-directory c = unwritten_root c.args.sizes.now c.args.taken.now c.args.written.now c.requires
