use Rattle.std.proofs.Common.{◌≡◌, rules, subst, sym}
use Rattle.zj_dev.specs.Disk.{IsSettled}
use Rattle.zj_area.specs.Journal.{AreaView, journal_of}
use Rattle.zj_area.proofs.Rest.{rests_empty}
use Rattle.zj_area.proofs.area.Area.scan.Goals as goal

pub returns-clause-at_rest : goal.returns-clause-at_rest
returns-clause-at_rest g c = λ unknown settled empty.
    let view = g.D.Disk.view in
    let i = c.self.inside in
    let j = journal_of view c.match-self.self in
    let still : IsSettled (view i.device) = subst (λ (v : AreaView g.row.D.Denot). IsSettled (view v.device)) (sym c.self.view_is) settled in
    let disk : j.disk ≡ view c.read_records.new.d = search rules in
    let sizes : j.sizes ≡ i.sizes = search rules in
    let core : j.core ≡ i.core = search rules in
    let tail : j.tail ≡ i.tail = search rules in
    let ends : j.end ≡ c.in_ok-found.end = search rules in
    rests_empty j (view i.device) (view c.read_records.new.d) i.sizes i.core i.tail c.in_ok-found.end c.in_ok-found.found disk sizes core tail ends c.read_records.ensures.read_only still empty c.in_ok-found.ensures.holds
