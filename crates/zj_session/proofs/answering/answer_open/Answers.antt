use Rattle.std.proofs.Common.{refl}
use Rattle.zj_session.proofs.Acts.{device_same, only_dropped, only_same, open_order}
use Rattle.zj_session.proofs.answering.answer_open.Goals as goal

pub returns-in-Drop-clause-only : goal.returns-in-Drop-clause-only
returns-in-Drop-clause-only g c = only_dropped c.args.core.now c.drop_handle.new.self c.drop_handle.ensures

pub returns-in_default : goal.returns-in_default
returns-in_default g c = record { does = open_order c.args.cache.now c.args.core.now c.args.core.now.begun c.args.act.now c.requires.handled c.in_default.not-Take c.in_default.not-Stop c.in_default.not-Drop; only = only_same c.args.core.now c.args.core.now c.requires.known refl; device = device_same g.D.Disk.view c.args.core.now c.args.core.now refl; err = tt }
