-- Whatever a crash leaves holds the records before, or those with the new one.
use Rattle.zj_core.proofs.Committed.{opened_images}
use Rattle.zj_core.proofs.committing.write_record.Goals as goal

pub returns-clause-images : goal.returns-clause-images
returns-clause-images g c =
    opened_images g.D.Disk.view c.args.area.now c.lay.new.self c.open_gate.new.self c.args.sealed.now c.in_ok-lay.ensures.moments c.in_ok-lay.ensures.record c.in_ok-lay.ensures.laid c.open_gate.ensures.moments c.open_gate.ensures.continues
