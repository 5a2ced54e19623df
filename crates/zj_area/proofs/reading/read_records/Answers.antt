use Rattle.std.proofs.Common.{arith}
use Rattle.zj_area.proofs.Turns.{goes_on, turn}
use Rattle.zj_area.proofs.reading.read_records.Goals as goal

pub loop-found-smaller : goal.loop-found-smaller
loop-found-smaller g c =
    let found = rw c.in-Some.is at c.in_ok-sealed.ensures in
    rw (c.behind-due.ensures.due, c.first_after-first.ensures) (goes_on c.args.sizes.now c.loop-found.due c.record_len.result c.loop-found.first (omega (arith, c.record_len.ensures.value)) (omega (arith, c.record_len.ensures.value, found.accepted.cores, c.record_len.ensures.record.blocks, c.loop-found.invariant.place)) found.once)

pub loop-found-preserved : goal.loop-found-preserved
loop-found-preserved g c =
    let found = rw c.in-Some.is at c.in_ok-sealed.ensures in
    rw (c.behind-due.ensures.due, c.first_after-first.ensures, c.in_ok-push.ensures.ok, c.record_len.ensures.len)
    (turn c.args.sizes.now c.args.core (g.D.Disk.view c.args.d.now) (g.D.Disk.view c.loop-found.d) (g.D.Disk.view c.next_record.new.d) c.args.tail c.loop-found.due c.loop-found.found c.loop-found.first c.in-Some.sealed
    c.loop-found.invariant found.read_only found.is_disk found.counted.0 found.counted.1 c.next_record.ensures.calls_at_most found.found (rw (c.behind-due.ensures.due, c.record_len.ensures.len) at c.behind-due.ensures.place))
