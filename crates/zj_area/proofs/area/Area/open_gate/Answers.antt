use Rattle.std.proofs.Common.{◌≡◌, Some, None, sym, ap, ◌∙◌, arith}
use Rattle.zj_area.specs.Journal.{AreaView, JournalView}
use Rattle.zj_area.specs.State.{has_failed, is_ready, next_end}
use Rattle.zj_area.proofs.Commits.{opens_gate}
use Rattle.zj_area.proofs.Keeps.{moved_on}
use Rattle.zj_area.proofs.area.Area.open_gate.Goals as goal

pub invariant_of-self : goal.invariant_of-self
invariant_of-self g c =
    let is = c.self.invariant in
    let laid : next_end c.self.inside.state ≡ Some c.unwrap-next.result = ap (λ (v : AreaView g.row.D.Denot). v.laid) c.self.view_is ∙ sym c.next_end.ensures ∙ c.unwrap-next.ensures in
    let next = rw laid at is.next in
    moved_on _ _ _ _ _ _ c.unwrap-next.result _ _ is c.open_at.ensures.is_disk c.open_at.ensures.continues next.0
    (omega (arith, next.1, is.end_number, c.in-Ok.ensures.counted)) (omega (arith, next.1, is.end_number, c.in-Ok.ensures.counted)) None tt

pub returns-in-Ok-clause-moments : goal.returns-in-Ok-clause-moments
returns-in-Ok-clause-moments g c =
    let i = c.self.inside in
    let is = c.self.invariant in
    let laid : next_end i.state ≡ Some c.unwrap-next.result = ap (λ (v : AreaView g.row.D.Denot). v.laid) c.self.view_is ∙ sym c.next_end.ensures ∙ c.unwrap-next.ensures in
    let j : JournalView = record { disk = g.D.Disk.view i.device; sizes = i.sizes; core = i.core; tail = i.tail; end = i.end; ready = is_ready i.state; failed = has_failed i.state } in
    rw (← c.self.view_is, laid) (opens_gate j c.unwrap-next.result is.is_disk is.size (omega (arith, is.end_place)) (g.D.Disk.view c.open_at.new.d) c.open_at.ensures.moments)

pub returns-in-Err-clause-moments : goal.returns-in-Err-clause-moments
returns-in-Err-clause-moments g c =
    let i = c.self.inside in
    let is = c.self.invariant in
    let laid : next_end i.state ≡ Some c.unwrap-next.result = ap (λ (v : AreaView g.row.D.Denot). v.laid) c.self.view_is ∙ sym c.next_end.ensures ∙ c.unwrap-next.ensures in
    let j : JournalView = record { disk = g.D.Disk.view i.device; sizes = i.sizes; core = i.core; tail = i.tail; end = i.end; ready = is_ready i.state; failed = has_failed i.state } in
    rw (← c.self.view_is, laid) (opens_gate j c.unwrap-next.result is.is_disk is.size (omega (arith, is.end_place)) (g.D.Disk.view c.open_at.new.d) c.open_at.ensures.moments)
