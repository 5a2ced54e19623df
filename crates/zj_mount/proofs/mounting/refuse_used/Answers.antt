use Rattle.std.proofs.Common.{length, ap, subst, sym, ◌∙◌}
use Rattle.std.specs.Prelude.{OnOk}
use Rattle.zj_mount.specs.Scanning.{AreRead, AreReady, RestIfSettled}
use Rattle.zj_mount.proofs.mounting.refuse_used.Goals as goal

pub returns-clause-read : goal.returns-clause-read
returns-clause-read g c =
    let many = c.read_empty.auto.areas ∙ ap length c.slice_mut.ensures.value in
    subst (λ areas. AreRead g.D.Disk.view c.args.areas.now.areas areas) (sym (c.slice_mut.ensures.same_len c.read_empty.new.areas many)) (rw c.slice_mut.ensures.value at c.read_empty.ensures.read)

pub returns-clause-ready : goal.returns-clause-ready
returns-clause-ready g c =
    let many = c.read_empty.auto.areas ∙ ap length c.slice_mut.ensures.value in
    subst (λ areas. OnOk c.read_empty.result (AreReady c.args.areas.now.areas areas (length c.args.areas.now.areas))) (sym (c.slice_mut.ensures.same_len c.read_empty.new.areas many)) (rw c.slice_mut.ensures.value at c.read_empty.ensures.ready)

pub returns-clause-rest : goal.returns-clause-rest
returns-clause-rest g c =
    let many = c.read_empty.auto.areas ∙ ap length c.slice_mut.ensures.value in
    subst (λ areas. OnOk c.read_empty.result (RestIfSettled g.D.Disk.view c.args.areas.now.areas areas (length c.args.areas.now.areas))) (sym (c.slice_mut.ensures.same_len c.read_empty.new.areas many)) (rw c.slice_mut.ensures.value at c.read_empty.ensures.rest)
