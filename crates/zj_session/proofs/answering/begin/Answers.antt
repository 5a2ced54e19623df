use Rattle.zj_session.proofs.Acts.{only_begun, only_same}
use Rattle.zj_session.proofs.answering.begin.Goals as goal

pub returns-in-Ok-clause-only : goal.returns-in-Ok-clause-only
returns-in-Ok-clause-only g c = only_begun c.args.core.now c.begin.new.self c.args.call.now c.requires.known c.in-Ok.ensures.begun

pub returns-in-Err-Failed-clause-only : goal.returns-in-Err-Failed-clause-only
returns-in-Err-Failed-clause-only g c = only_same c.args.core.now c.begin.new.self c.requires.known c.in-Err-Failed.ensures.err

pub returns-in-Err-JournalFull-clause-only : goal.returns-in-Err-JournalFull-clause-only
returns-in-Err-JournalFull-clause-only g c = only_same c.args.core.now c.begin.new.self c.requires.known c.in-Err-JournalFull.ensures.err

pub returns-in-Err-NoMemory-clause-only : goal.returns-in-Err-NoMemory-clause-only
returns-in-Err-NoMemory-clause-only g c = only_same c.args.core.now c.begin.new.self c.requires.known c.in-Err-NoMemory.ensures.err
