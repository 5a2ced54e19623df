use Rattle.zj_layout.specs.Image.{image_of}
use Rattle.zj_layout.specs.Shows.{put_blocks}
use Rattle.zj_dirs.proofs.Unwritten.{stands_within, unwritten_root, unwritten_stored}
use Rattle.zj_dirs.proofs.tests.remove_from_root.Goals as goal

pub find-requires-clause-stored : goal.find-requires-clause-stored
find-requires-clause-stored c = unwritten_stored c.args.sizes.now c.args.taken.now c.args.written.now c.requires

pub find-requires-clause-directory : goal.find-requires-clause-directory
find-requires-clause-directory c = unwritten_root c.args.sizes.now c.args.taken.now c.args.written.now c.requires

pub remove-requires-clause-stored : goal.remove-requires-clause-stored
remove-requires-clause-stored c = unwritten_stored c.args.sizes.now c.args.taken.now c.args.written.now c.requires

pub remove-requires-clause-place : goal.remove-requires-clause-place
remove-requires-clause-place c = λ state tree p.
    stands_within (image_of c.args.sizes.now (put_blocks state c.args.written.now)) 0 c.in-Found.place c.in-Found.node c.args.name.now (c.in-Found.ensures.says state tree p)
