use Rattle.zj_dev.proofs.DiskLaws.{continues_trans}
use Rattle.zj_area.proofs.Calls.{open_gate, open_sync}
use Rattle.zj_area.proofs.commit.open_at.Goals as goal

pub returns-in_err-write_at-clause-moments : goal.returns-in_err-write_at-clause-moments
returns-in_err-write_at-clause-moments g c = open_gate c.args.place (g.D.Disk.view c.args.d.now) (g.D.Disk.view c.write_at.new.d) c.write_at.ensures.torn

pub returns-clause-moments : goal.returns-clause-moments
returns-clause-moments g c = open_sync c.args.place _ _ _ c.write_at.ensures.continues c.write_at.ensures.torn c.sync.ensures.continues c.sync.ensures.stays

pub returns-clause-continues : goal.returns-clause-continues
returns-clause-continues g c = continues_trans _ _ _ c.write_at.ensures.continues c.sync.ensures.continues
