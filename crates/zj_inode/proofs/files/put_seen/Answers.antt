-- The content is the one that is seen.
use Rattle.std.proofs.Common.{sym}
use Rattle.zj_dirs.proofs.Written.{one_more}
use Rattle.zj_inode.proofs.Around.{puts_seen}
use Rattle.zj_inode.proofs.files.put_seen.Goals as goal

pub returns-clause-puts : goal.returns-clause-puts
returns-clause-puts c = puts_seen c.args.taken.now c.args.built.now c.args.written.now c.put.new.self c.args.block.0 c.in-Some.content.now c.in_ok-put.ensures.ok (sym c.in-Some.ensures.content)

pub returns-clause-few : goal.returns-clause-few
returns-clause-few c = one_more c.args.written.now c.put.new.self c.args.block.0 c.in-Some.content.now c.in_ok-put.ensures.ok
