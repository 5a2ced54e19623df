use Rattle.zj_session.proofs.Acts.{only_same}
use Rattle.zj_session.proofs.answering.take.Goals as goal

pub returns-in-Ok-None-clause-only : goal.returns-in-Ok-None-clause-only
returns-in-Ok-None-clause-only g c = only_same c.args.core.now c.take.new.self c.requires.known (rw c.in-Ok-None.field-0-is at c.in-Ok-None.ensures.idle)

pub returns-in-Err-Busy-clause-only : goal.returns-in-Err-Busy-clause-only
returns-in-Err-Busy-clause-only g c = only_same c.args.core.now c.take.new.self c.requires.known c.in-Err-Busy.ensures.err

pub returns-in-Err-NoMemory-clause-only : goal.returns-in-Err-NoMemory-clause-only
returns-in-Err-NoMemory-clause-only g c = only_same c.args.core.now c.take.new.self c.requires.known c.in-Err-NoMemory.ensures.err
