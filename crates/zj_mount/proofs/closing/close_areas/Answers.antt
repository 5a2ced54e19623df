use Rattle.std.proofs.Common.{◌≡◌, ◌<◌, length, ◌∙◌, arith}
use Rattle.std.specs.Vec.Iter.{into_iter_items}
use Rattle.zj_dev.specs.declared.device.Device.TheVariants as devices
use Rattle.zj_mount.specs.Opening.{IsJournalBelow}
use Rattle.zj_mount.proofs.CloseLemmas.{all_quiet, at_drop, first_fault, more, weaker}
use Rattle.zj_mount.proofs.closing.close_areas.Goals as goal

pub loop-area-preserved : goal.loop-area-preserved
loop-area-preserved g c =
    let at = c.loop-area in
    let inv = c.loop-area.invariant in
    let count = inv.count in
    let few = inv.few in
    let gone = c.in-Some.ensures.cases.1 in
    let within : at.core < length c.args.areas.areas = omega arith in
    let small : at.core < 8 = omega arith in
    let found = at_drop c.args.areas.areas at.core c.in-Some.area (into_iter_items c.next.new.self) within (inv.items ∙ c.in-Some.ensures.cases.0) in
    let put = c.put_back-one.ensures in
    let now = more g.H.D.Disk.view c.args.areas.areas at.core c.in-Some.area (g.H.Shelf.names c.args.shelf.now) (g.H.Shelf.names at.shelf) (g.H.Shelf.names c.put_back-one.new.shelf)
    c.journal_name.result.now c.into_device.result small c.journal_name.ensures c.into_device.ensures found.0 inv.below inv.others put.closed put.others in
    record {
      few = few;
      items = found.1;
      count = omega arith;
      below = now.0;
      others = now.1;
      cause = first_fault (λ fault. IsJournalBelow (length c.args.areas.areas) fault.device) at.closed c.put_back-one.result c.and-closed.result (g.H.Shelf.faults c.args.shelf.now) (g.H.Shelf.faults at.shelf) (g.H.Shelf.faults c.put_back-one.new.shelf)
          c.and-closed.ensures inv.cause inv.no_fewer put.no_fewer
          (weaker (λ fault. fault.device ≡ devices.Journal at.core) (λ fault. IsJournalBelow (length c.args.areas.areas) fault.device) c.put_back-one.result _ _ (λ fault e. (at.core, within, e)) put.cause);
      quiet = all_quiet at.closed c.put_back-one.result c.and-closed.result (g.H.Shelf.faults c.args.shelf.now) (g.H.Shelf.faults at.shelf) (g.H.Shelf.faults c.put_back-one.new.shelf)
          c.and-closed.ensures inv.quiet put.quiet;
      no_fewer = omega (arith, inv.no_fewer, put.no_fewer);
    }
