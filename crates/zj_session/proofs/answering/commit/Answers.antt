use Rattle.zj_session.proofs.Acts.{only_same, only_sealed}
use Rattle.zj_session.proofs.answering.commit.Goals as goal

pub returns-in-Ok-clause-only : goal.returns-in-Ok-clause-only
returns-in-Ok-clause-only g c = only_sealed c.args.core.now c.commit.new.self g.D.Disk.view c.in-Ok.ensures.1.sealed_as c.requires.known c.in-Ok.ensures.1.seals

pub returns-in-Err-Empty-clause-only : goal.returns-in-Err-Empty-clause-only
returns-in-Err-Empty-clause-only g c = only_same c.args.core.now c.commit.new.self c.requires.known (rw c.in-Err-Empty.field-0-is at c.in-Err-Empty.ensures).2

pub returns-in-Err-Failed-clause-only : goal.returns-in-Err-Failed-clause-only
returns-in-Err-Failed-clause-only g c = only_same c.args.core.now c.commit.new.self c.requires.known (rw c.in-Err-Failed.field-0-is at c.in-Err-Failed.ensures).2

pub returns-in-Err-DiskFault-clause-only : goal.returns-in-Err-DiskFault-clause-only
returns-in-Err-DiskFault-clause-only g c = only_sealed c.args.core.now c.commit.new.self g.D.Disk.view (rw c.in-Err-DiskFault.field-0-is at c.in-Err-DiskFault.ensures).sealed_as c.requires.known (rw c.in-Err-DiskFault.field-0-is at c.in-Err-DiskFault.ensures).seals
