-- What stands at a path is what its node says.
use Rattle.std.proofs.Common.{refl, subst}
use Rattle.std.proofs.lemmas.Result.{err_from_is_err_and}
use Rattle.zj_tree.specs.declared.call.Call.TheVariants as calls
use Rattle.zj_tree.specs.declared.call.Reply.TheVariants as replies
use Rattle.zj_layout.specs.declared.fields.Kind.TheVariants.{File, Dir}
use Rattle.zj_layout.specs.Image.{image_of}
use Rattle.zj_changes.specs.Holds.{Answers}
use Rattle.zj_changes.specs.Walk.{Stops}
use Rattle.zj_changes.proofs.LookReplies.{stat_stops, stat_file, stat_directory}
use Rattle.zj_inode.specs.Finding.{IsWayBlock}
use Rattle.zj_inode.specs.Footprint.{Foot}
use Rattle.zj_inode.proofs.Foots.{way_foot}
use Rattle.zj_inode.proofs.Looked.{looked}
use Rattle.zj_inode.proofs.Steps.{free_odd, kind_at, size_at, stops_more}
use Rattle.zj_inode.proofs.looking.stat.Goals as goal

pub returns-in_err-found-clause-stop : goal.returns-in_err-found-clause-stop
returns-in_err-found-clause-stop c =
    let p = err_from_is_err_and c.from_residual.result c.from_residual.ensures.1 in
    let sizes = c.args.sizes.now in
    let path = c.args.path.now in
    rw (p.1, p.2)
    (stops_more sizes c.args.taken.now (λ image block. IsWayBlock sizes image path block) (λ image block. Foot sizes image (calls.Stat path) block)
    (λ state tree r. Stops (image_of sizes state) path r) (λ state tree r. Answers sizes (calls.Stat path) (replies.Refused r) tree state)
    (λ state tree p b h. way_foot sizes (image_of sizes state) (calls.Stat path) path (0, refl) b h) (λ state tree p r h. stat_stops sizes state tree p.shows path r h)
    c.in_err-found.field-0.0 c.in_err-found.ensures.stop)

pub returns-in-Dir-clause-done : goal.returns-in-Dir-clause-done
returns-in-Dir-clause-done c =
    let sizes = c.args.sizes.now in
    let path = c.args.path.now in
    looked sizes c.args.taken.now (calls.Stat path) (replies.Dir c.in_ok-found.found.node.size) (λ state tree p.
    let at = c.in_ok-found.ensures.ok state tree p in
    subst (λ n. Answers sizes (calls.Stat path) (replies.Dir n) tree state) (size_at (image_of sizes state) path c.in_ok-found.found at)
    (stat_directory sizes state tree p.shows path c.in_ok-found.found.number at.leads (kind_at (image_of sizes state) path c.in_ok-found.found at Dir c.in-Dir.is)))

pub returns-in-File-clause-done : goal.returns-in-File-clause-done
returns-in-File-clause-done c =
    let sizes = c.args.sizes.now in
    let path = c.args.path.now in
    looked sizes c.args.taken.now (calls.Stat path) (replies.File c.in_ok-found.found.node.size) (λ state tree p.
    let at = c.in_ok-found.ensures.ok state tree p in
    subst (λ n. Answers sizes (calls.Stat path) (replies.File n) tree state) (size_at (image_of sizes state) path c.in_ok-found.found at)
    (stat_file sizes state tree p.shows path c.in_ok-found.found.number at.leads (kind_at (image_of sizes state) path c.in_ok-found.found at File c.in-File.is)))

pub returns-in-Free-clause-stop : goal.returns-in-Free-clause-stop
returns-in-Free-clause-stop c = λ state tree p. free_odd c.args.sizes.now c.args.taken.now state tree p c.args.path.now c.in_ok-found.found (c.in_ok-found.ensures.ok state tree p) c.in-Free.is
