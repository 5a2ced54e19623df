-- Where a walk goes no further, or comes to a file, names lead to no directory.
use Rattle.std.proofs.Common.{refl}
use Rattle.std.proofs.lemmas.Result.{err_from_is_err_and}
use Rattle.zj_layout.specs.declared.fields.Kind.TheVariants.{File}
use Rattle.zj_layout.specs.Image.{image_of}
use Rattle.zj_changes.specs.Walk.{Stops, LeadsToNoDirectory, no_way_to_directory, at_file}
use Rattle.zj_inode.specs.Finding.{IsWayBlock}
use Rattle.zj_inode.proofs.Steps.{free_odd, kind_at, stops_more}
use Rattle.zj_inode.proofs.finding.go_to_dir.Goals as goal

pub returns-in_err-found-clause-stop : goal.returns-in_err-found-clause-stop
returns-in_err-found-clause-stop c =
    let p = err_from_is_err_and c.from_residual.result c.from_residual.ensures.1 in
    let sizes = c.args.sizes.now in
    let names = c.args.names.now in
    rw (p.1, p.2)
    (stops_more sizes c.args.taken.now (λ image block. IsWayBlock sizes image names block) (λ image block. IsWayBlock sizes image names block)
    (λ state tree r. Stops (image_of sizes state) names r) (λ state tree r. LeadsToNoDirectory (image_of sizes state) names r)
    (λ state tree p b h. h) (λ state tree p r h. no_way_to_directory h) c.in_err-found.field-0.0 c.in_err-found.ensures.stop)

pub returns-in-File-clause-stop : goal.returns-in-File-clause-stop
returns-in-File-clause-stop c = λ state tree p.
    let at = c.in_ok-found.ensures.ok state tree p in
    at_file c.in_ok-found.found.number at.leads (kind_at (image_of c.args.sizes.now state) c.args.names.now c.in_ok-found.found at File c.in-File.is) refl

pub returns-in-Free-clause-stop : goal.returns-in-Free-clause-stop
returns-in-Free-clause-stop c = λ state tree p. free_odd c.args.sizes.now c.args.taken.now state tree p c.args.names.now c.in_ok-found.found (c.in_ok-found.ensures.ok state tree p) c.in-Free.is
