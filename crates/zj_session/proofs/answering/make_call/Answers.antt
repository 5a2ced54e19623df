use Rattle.std.proofs.Common.{Some, refl}
use Rattle.zj_core.specs.Core.{number_of}
use Rattle.zj_session.proofs.Acts.{only_performed, only_same}
use Rattle.zj_session.proofs.answering.make_call.Goals as goal

pub returns-in-Ok-clause-only : goal.returns-in-Ok-clause-only
returns-in-Ok-clause-only g c =
    only_performed c.args.cache.now c.args.core.now c.call.new.self c.args.core.now.begun (Some c.args.call.now) (number_of c.args.core.now) c.in-Ok.field-0 refl c.in-Ok.ensures.done c.in-Ok.ensures.closed

pub returns-in-Err-Busy-clause-only : goal.returns-in-Err-Busy-clause-only
returns-in-Err-Busy-clause-only g c = only_same c.args.core.now c.call.new.self c.requires.known c.in-Err-Busy.ensures.err

pub returns-in-Err-NoMemory-clause-only : goal.returns-in-Err-NoMemory-clause-only
returns-in-Err-NoMemory-clause-only g c = only_same c.args.core.now c.call.new.self c.requires.known c.in-Err-NoMemory.ensures.err

pub returns-in-Err-TxFull-clause-only : goal.returns-in-Err-TxFull-clause-only
returns-in-Err-TxFull-clause-only g c = only_same c.args.core.now c.call.new.self c.requires.known c.in-Err-TxFull.ensures.err

pub returns-in-Err-JournalFull-clause-only : goal.returns-in-Err-JournalFull-clause-only
returns-in-Err-JournalFull-clause-only g c = only_same c.args.core.now c.call.new.self c.requires.known c.in-Err-JournalFull.ensures.err

pub returns-in-Err-Failed-clause-only : goal.returns-in-Err-Failed-clause-only
returns-in-Err-Failed-clause-only g c = only_same c.args.core.now c.call.new.self c.requires.known c.in-Err-Failed.ensures.err
