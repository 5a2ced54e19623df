use Rattle.std.proofs.Common.{◌≡◌, ◌∙◌, length, map, ap, subst, sym}
use Rattle.std.specs.Prelude.{IfErr, List}
use Rattle.zj_area.specs.Journal.{AreaView, journal_of}
use Rattle.zj_mount.specs.Inspecting.{IsInspectCause}
use Rattle.zj_mount.specs.Scanning.{AreRead}
use Rattle.zj_cli.proofs.CheckLemmas.{are_journals, are_read}
use Rattle.zj_cli.proofs.check.recover.Goals as goal

pub inspect-requires : goal.inspect-requires
inspect-requires g c = rw c.slice_mut.ensures.value (are_journals g.D.Disk.view c.args.home.now.told c.args.areas.now.areas c.requires)

pub returns-clause-inspects : goal.returns-clause-inspects
returns-clause-inspects g c = rw c.slice_mut.ensures.value at c.inspect.ensures.inspects

pub returns-clause-cause : goal.returns-clause-cause
returns-clause-cause g c =
    let many = c.inspect.auto.journals ∙ ap length c.slice_mut.ensures.value in
    subst (λ (areas : List (AreaView _)). IfErr c.inspect.result (IsInspectCause c.args.home.now.told (g.D.Disk.view c.args.home.now.device) (g.D.Disk.view c.inspect.new.home.device) (map (journal_of g.D.Disk.view) c.args.areas.now.areas) (map (journal_of g.D.Disk.view) areas)))
    (sym (c.slice_mut.ensures.same_len c.inspect.new.journals many)) (rw c.slice_mut.ensures.value at c.inspect.ensures.cause)

pub returns-clause-read : goal.returns-clause-read
returns-clause-read g c =
    let many = c.inspect.auto.journals ∙ ap length c.slice_mut.ensures.value in
    subst (λ (areas : List (AreaView _)). AreRead g.D.Disk.view c.args.areas.now.areas areas) (sym (c.slice_mut.ensures.same_len c.inspect.new.journals many))
    (are_read g.D.Disk.view c.args.areas.now.areas c.inspect.new.journals (rw c.slice_mut.ensures.value at c.inspect.ensures.read))
