use Rattle.std.proofs.Common.{[], ◌∷◌}
use Rattle.zj_dev.specs.Disk.{replaced}
use Rattle.zj_home.proofs.Gates.{letters_first, letters_second}
use Rattle.zj_home.proofs.ImageLemmas.{two_writes}
use Rattle.zj_dev.proofs.DiskLaws.{continues_trans, leads_synced, leads_then, leads_torn}
use Rattle.zj_home.proofs.make.close_gates.Goals as goal

pub returns-clause-ok : goal.returns-clause-ok
returns-clause-ok g c = two_writes (λ bytes. replaced bytes 0 (0 ∷ [])) (λ bytes. replaced bytes 4096 (0 ∷ [])) c.sync.result (g.D.Disk.view c.args.d.now).bytes (g.D.Disk.view c.write_at.new.d).bytes (g.D.Disk.view c.write_at-2.new.d).bytes (g.D.Disk.view c.sync.new.d).bytes c.in_ok-write_at.ensures.bytes c.in_ok-write_at-2.ensures.bytes c.sync.ensures.bytes

pub returns-in_err-write_at-clause-moments : goal.returns-in_err-write_at-clause-moments
returns-in_err-write_at-clause-moments g c =
    leads_torn (g.D.Disk.view c.args.d.now) (g.D.Disk.view c.write_at.new.d) 0 1 c.write_at.ensures.torn (λ before image may same h. letters_first before image same h)

pub returns-in_err-write_at-2-clause-moments : goal.returns-in_err-write_at-2-clause-moments
returns-in_err-write_at-2-clause-moments g c =
    let first = g.D.Disk.view c.args.d.now in
    let one = g.D.Disk.view c.write_at.new.d in
    let two = g.D.Disk.view c.write_at-2.new.d in
    leads_then first one two c.write_at.ensures.continues c.write_at-2.ensures.continues (λ image h. h)
    (leads_torn first one 0 1 c.write_at.ensures.torn (λ before image may same h. letters_first before image same h))
    (leads_torn one two 4096 1 c.write_at-2.ensures.torn (λ before image may same h. letters_second before image same h))

pub returns-clause-moments : goal.returns-clause-moments
returns-clause-moments g c =
    let first = g.D.Disk.view c.args.d.now in
    let one = g.D.Disk.view c.write_at.new.d in
    let two = g.D.Disk.view c.write_at-2.new.d in
    let end = g.D.Disk.view c.sync.new.d in
    leads_then first one end c.write_at.ensures.continues (continues_trans one two end c.write_at-2.ensures.continues c.sync.ensures.continues) (λ image h. h)
    (leads_torn first one 0 1 c.write_at.ensures.torn (λ before image may same h. letters_first before image same h))
    (leads_then one two end c.write_at-2.ensures.continues c.sync.ensures.continues (λ image h. h)
    (leads_torn one two 4096 1 c.write_at-2.ensures.torn (λ before image may same h. letters_second before image same h))
    (leads_synced two end c.sync.ensures.stays))
