use Rattle.zj_dirs.proofs.Unwritten.{nothing_taken}
use Rattle.zj_dirs.proofs.tests.rebuilt.Goals as goal

pub returns : goal.returns
returns g c = c.set_content-set-3.ensures.taken (c.set_content-set-2.ensures.taken (c.set_content-set.ensures.taken (nothing_taken c.args.taken.now c.new-built.result c.new-built.ensures)))
