use Rattle.std.proofs.Common.{arith, length}
use Rattle.zj_home.proofs.MadeMoments.{body_leads, or_shut, slot_so_far}
use Rattle.zj_dev.proofs.DiskLaws.{continues_trans, leads_synced, leads_then}
use Rattle.zj_home.proofs.make.write_slot.Goals as goal

pub returns-in_err-write_at-clause-moments : goal.returns-in_err-write_at-clause-moments
returns-in_err-write_at-clause-moments g c =
    let first = g.D.Disk.view c.args.d.now in
    let body = g.D.Disk.view c.write_at.new.d in
    or_shut first body first.bytes c.args.slot.now (body_leads first body (length c.split_at.result.1.now) (omega (arith, c.split_at.ensures.back_len)) c.write_at.ensures.torn)

pub returns-in_err-sync-clause-moments : goal.returns-in_err-sync-clause-moments
returns-in_err-sync-clause-moments g c =
    let first = g.D.Disk.view c.args.d.now in
    let body = g.D.Disk.view c.write_at.new.d in
    let mid = g.D.Disk.view c.sync.new.d in
    or_shut first mid first.bytes c.args.slot.now
    (leads_then first body mid c.write_at.ensures.continues c.sync.ensures.continues (λ image h. h)
    (body_leads first body (length c.split_at.result.1.now) (omega (arith, c.split_at.ensures.back_len)) c.write_at.ensures.torn)
    (leads_synced body mid c.sync.ensures.stays))

pub returns-in_err-write_at-2-clause-moments : goal.returns-in_err-write_at-2-clause-moments
returns-in_err-write_at-2-clause-moments g c =
    let first = g.D.Disk.view c.args.d.now in
    let body = g.D.Disk.view c.write_at.new.d in
    let mid = g.D.Disk.view c.sync.new.d in
    let new = g.D.Disk.view c.write_at-2.new.d in
    slot_so_far first body mid new c.args.slot.now c.split_at.result.0.now c.split_at.result.1.now c.split_at.ensures.front c.split_at.ensures.back c.requires.open c.requires.short
    c.write_at.ensures.continues c.write_at.ensures.torn c.in_ok-write_at.ensures.bytes c.sync.ensures.continues c.sync.ensures.stays c.sync.ensures.bytes c.in_ok-sync.ensures.settled
    c.write_at-2.ensures.continues c.write_at-2.ensures.torn

pub returns-clause-moments : goal.returns-clause-moments
returns-clause-moments g c =
    let first = g.D.Disk.view c.args.d.now in
    let body = g.D.Disk.view c.write_at.new.d in
    let mid = g.D.Disk.view c.sync.new.d in
    let new = g.D.Disk.view c.write_at-2.new.d in
    let end = g.D.Disk.view c.sync-2.new.d in
    let before = continues_trans first body new c.write_at.ensures.continues (continues_trans body mid new c.sync.ensures.continues c.write_at-2.ensures.continues) in
    leads_then first new end before c.sync-2.ensures.continues (λ image h. h)
    (slot_so_far first body mid new c.args.slot.now c.split_at.result.0.now c.split_at.result.1.now c.split_at.ensures.front c.split_at.ensures.back c.requires.open c.requires.short
    c.write_at.ensures.continues c.write_at.ensures.torn c.in_ok-write_at.ensures.bytes c.sync.ensures.continues c.sync.ensures.stays c.sync.ensures.bytes c.in_ok-sync.ensures.settled
    c.write_at-2.ensures.continues c.write_at-2.ensures.torn)
    (leads_synced new end c.sync-2.ensures.stays)
