use Rattle.zj_home.specs.Made.{IsLaidOut}
use Rattle.zj_home.proofs.LaidOut.{laid_out}
use Rattle.zj_home.proofs.MadeMoments.{none_leads, slot_leads, some_byte}
use Rattle.zj_dev.proofs.DiskLaws.{continues_trans, leads_then}
use Rattle.zj_home.proofs.Further.{further_trans}
use Rattle.zj_home.proofs.make.write_image.Goals as goal

pub returns-clause-ok : goal.returns-clause-ok
returns-clause-ok g c =
    let wrote = c.in_ok-write_blocks.ensures in
    laid_out (g.D.Disk.view c.write_blocks.new.d) c.write_slot.result (g.D.Disk.view c.close_gates.new.d).bytes (g.D.Disk.view c.write_slot.new.d).bytes c.args.slot.now c.args.blocks.now (g.D.Disk.view c.args.d.now).size
    wrote.kept.is_disk wrote.kept.continues.size c.requires.size (some_byte c.args.slot.now c.requires.open) c.requires.short wrote.ok c.in_ok-close_gates.ensures.ok c.write_slot.ensures.ok

pub returns-in_err-write_blocks-clause-moments : goal.returns-in_err-write_blocks-clause-moments
returns-in_err-write_blocks-clause-moments g c =
    let first = g.D.Disk.view c.args.d.now in
    none_leads first (g.D.Disk.view c.write_blocks.new.d) (IsLaidOut c.args.slot.now c.args.blocks.now first.size) c.write_blocks.ensures.moments

pub returns-in_err-close_gates-clause-moments : goal.returns-in_err-close_gates-clause-moments
returns-in_err-close_gates-clause-moments g c =
    let first = g.D.Disk.view c.args.d.now in
    let wrote = g.D.Disk.view c.write_blocks.new.d in
    let shut = g.D.Disk.view c.close_gates.new.d in
    none_leads first shut (IsLaidOut c.args.slot.now c.args.blocks.now first.size)
    (leads_then first wrote shut c.write_blocks.ensures.kept.continues c.close_gates.ensures.kept.continues (λ image h. h) c.write_blocks.ensures.moments c.close_gates.ensures.moments)

pub returns-clause-moments : goal.returns-clause-moments
returns-clause-moments g c =
    let first = g.D.Disk.view c.args.d.now in
    let wrote = g.D.Disk.view c.write_blocks.new.d in
    let shut = g.D.Disk.view c.close_gates.new.d in
    let end = g.D.Disk.view c.write_slot.new.d in
    let kept = c.write_blocks.ensures.kept in
    slot_leads first wrote shut end c.args.slot.now c.args.blocks.now first.size
    kept.is_disk kept.continues.size c.requires.size (some_byte c.args.slot.now c.requires.open) c.requires.short
    c.in_ok-write_blocks.ensures.ok c.in_ok-close_gates.ensures.ok c.in_ok-close_gates.ensures.only
    (continues_trans first wrote shut kept.continues c.close_gates.ensures.kept.continues) c.write_slot.ensures.kept.continues
    (leads_then first wrote shut kept.continues c.close_gates.ensures.kept.continues (λ image h. h) c.write_blocks.ensures.moments c.close_gates.ensures.moments)
    c.write_slot.ensures.moments

pub returns-clause-kept : goal.returns-clause-kept
returns-clause-kept g c =
    let first = g.D.Disk.view c.args.d.now in
    let wrote = g.D.Disk.view c.write_blocks.new.d in
    let shut = g.D.Disk.view c.close_gates.new.d in
    further_trans first shut (g.D.Disk.view c.write_slot.new.d) (further_trans first wrote shut c.write_blocks.ensures.kept c.close_gates.ensures.kept) c.write_slot.ensures.kept
