use Rattle.std.proofs.Common.{◌≡◌, ◌+◌, ℕ, None, refl, ap, ◌∙◌, arith}
use Rattle.zj_block.specs.declared.numbers.Tail.{Tail}
use Rattle.zj_area.specs.Journal.{JournalView, fullness}
use Rattle.zj_area.specs.Ring.{len_of, next_place}
use Rattle.zj_area.specs.State.{has_failed, is_ready}
use Rattle.zj_area.proofs.Commits.{lays, keeps_records}
use Rattle.zj_area.proofs.Room.{Goes, HasRoom, goes_to}
use Rattle.zj_area.proofs.area.Area.lay.Goals as goal

pub returns-in-Ok-clause-moments : goal.returns-in-Ok-clause-moments
returns-in-Ok-clause-moments g c =
    let i = c.self.inside in
    let is = c.self.invariant in
    let r = c.args.sealed.now in
    let j : JournalView = record { disk = g.D.Disk.view i.device; sizes = i.sizes; core = i.core; tail = i.tail; end = i.end; ready = is_ready i.state; failed = has_failed i.state } in
    let accepted = rw (← c.self.view_is) at c.requires.accepted in
    let here : c.behind-next.result.place ≡ next_place i.sizes (i.end.place + len_of r) = ap (λ (t : Tail). t.place) c.behind-next.ensures.due ∙ ap (λ (k : ℕ). next_place i.sizes (i.end.place + k)) c.record_len-len.ensures.len in
    let none : fullness i.sizes i.tail i.end ≡ None = rw (← c.self.view_is) at c.requires.room in
    let goes : HasRoom i.sizes i.tail.place i.end.place → Goes i.sizes i.tail.place i.end.place (len_of r) c.behind-next.result.place =
    λ room. goes_to i.sizes i.tail.place i.end.place (len_of r) c.behind-next.result.place r refl here
    (omega (arith, c.record_len-len.ensures)) (omega (arith, c.record_len-len.ensures, accepted.cores, c.record_len-len.ensures.record.blocks)) (omega (arith, is.limits)) is.tail_place is.end_place room in
    rw (← c.self.view_is) (keeps_records j (len_of r) c.behind-next.result.place goes none is.is_disk is.size (g.D.Disk.view c.lay_record.new.d) c.lay_record.ensures.moments)

pub returns-in-Err-clause-moments : goal.returns-in-Err-clause-moments
returns-in-Err-clause-moments g c =
    let i = c.self.inside in
    let is = c.self.invariant in
    let r = c.args.sealed.now in
    let j : JournalView = record { disk = g.D.Disk.view i.device; sizes = i.sizes; core = i.core; tail = i.tail; end = i.end; ready = is_ready i.state; failed = has_failed i.state } in
    let accepted = rw (← c.self.view_is) at c.requires.accepted in
    let here : c.behind-next.result.place ≡ next_place i.sizes (i.end.place + len_of r) = ap (λ (t : Tail). t.place) c.behind-next.ensures.due ∙ ap (λ (k : ℕ). next_place i.sizes (i.end.place + k)) c.record_len-len.ensures.len in
    let none : fullness i.sizes i.tail i.end ≡ None = rw (← c.self.view_is) at c.requires.room in
    let goes : HasRoom i.sizes i.tail.place i.end.place → Goes i.sizes i.tail.place i.end.place (len_of r) c.behind-next.result.place =
    λ room. goes_to i.sizes i.tail.place i.end.place (len_of r) c.behind-next.result.place r refl here
    (omega (arith, c.record_len-len.ensures)) (omega (arith, c.record_len-len.ensures, accepted.cores, c.record_len-len.ensures.record.blocks)) (omega (arith, is.limits)) is.tail_place is.end_place room in
    rw (← c.self.view_is) (keeps_records j (len_of r) c.behind-next.result.place goes none is.is_disk is.size (g.D.Disk.view c.lay_record.new.d) c.lay_record.ensures.moments)

pub returns-in-Ok-clause-record : goal.returns-in-Ok-clause-record
returns-in-Ok-clause-record g c =
    let i = c.self.inside in
    let is = c.self.invariant in
    let r = c.args.sealed.now in
    let j : JournalView = record { disk = g.D.Disk.view i.device; sizes = i.sizes; core = i.core; tail = i.tail; end = i.end; ready = is_ready i.state; failed = has_failed i.state } in
    let accepted = rw (← c.self.view_is) at c.requires.accepted in
    let here : c.behind-next.result.place ≡ next_place i.sizes (i.end.place + len_of r) = ap (λ (t : Tail). t.place) c.behind-next.ensures.due ∙ ap (λ (k : ℕ). next_place i.sizes (i.end.place + k)) c.record_len-len.ensures.len in
    let none : fullness i.sizes i.tail i.end ≡ None = rw (← c.self.view_is) at c.requires.room in
    let goes : HasRoom i.sizes i.tail.place i.end.place → Goes i.sizes i.tail.place i.end.place (len_of r) c.behind-next.result.place =
    λ room. goes_to i.sizes i.tail.place i.end.place (len_of r) c.behind-next.result.place r refl here
    (omega (arith, c.record_len-len.ensures)) (omega (arith, c.record_len-len.ensures, accepted.cores, c.record_len-len.ensures.record.blocks)) (omega (arith, is.limits)) is.tail_place is.end_place room in
    rw (← c.self.view_is)
    (λ records rest.
    let done = lays j (len_of r) c.behind-next.result.place goes none is.is_disk is.size (g.D.Disk.view c.lay_record.new.d) r here refl c.lay_record.ensures.gate c.record_len-len.ensures.record accepted c.in-Ok.ensures.settled c.in-Ok.ensures.bytes records rest in
    record { at_rest = record { settled = done.at_rest.settled; journal = done.at_rest.journal }; opens = done.opens })
