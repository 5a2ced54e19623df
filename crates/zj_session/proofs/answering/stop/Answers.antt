use Rattle.zj_core.specs.Core.{number_of}
use Rattle.std.proofs.Common.{None}
use Rattle.zj_session.proofs.Acts.{only_dropped, only_performed, taken_dropped}
use Rattle.zj_session.proofs.answering.stop.Goals as goal

pub returns-in-Ok-clause-only : goal.returns-in-Ok-clause-only
returns-in-Ok-clause-only g c =
    only_performed c.args.cache.now c.args.core.now c.stop.new.self None c.args.core.now.begun (number_of c.args.core.now) c.in-Ok.field-0 c.requires.open c.in-Ok.ensures.done c.in-Ok.ensures.closed

pub returns-in-Err-NoMemory-clause-only : goal.returns-in-Err-NoMemory-clause-only
returns-in-Err-NoMemory-clause-only g c =
    only_dropped c.args.core.now c.drop_handle.new.self
    (taken_dropped c.args.cache.now c.args.core.now c.stop.new.self c.drop_handle.new.self c.in-Err-NoMemory.ensures.stays c.in-Err-NoMemory.ensures.takes c.drop_handle.ensures)

pub returns-in-Err-NoMemory-clause-err : goal.returns-in-Err-NoMemory-clause-err
returns-in-Err-NoMemory-clause-err g c =
    taken_dropped c.args.cache.now c.args.core.now c.stop.new.self c.drop_handle.new.self c.in-Err-NoMemory.ensures.stays c.in-Err-NoMemory.ensures.takes c.drop_handle.ensures
