-- What is found is found in every possible state.
use Rattle.std.proofs.Common.{refl}
use Rattle.std.proofs.lemmas.Result.{err_from_is_err_and}
use Rattle.zj_tree.specs.declared.call.Call.TheVariants as calls
use Rattle.zj_tree.specs.declared.call.Reply.TheVariants as replies
use Rattle.zj_layout.specs.Image.{image_of}
use Rattle.zj_changes.specs.Holds.{Answers}
use Rattle.zj_changes.specs.Walk.{Stops}
use Rattle.zj_changes.proofs.LookReplies.{fsync_stops, fsync_done}
use Rattle.zj_dirs.specs.Walking.{IsOnTheWay}
use Rattle.zj_inode.specs.Footprint.{Foot, on_the_way}
use Rattle.zj_inode.proofs.Looked.{looked}
use Rattle.zj_inode.proofs.Steps.{stops_more}
use Rattle.zj_inode.proofs.looking.fsync.Goals as goal

pub returns-in_err-_node-clause-stop : goal.returns-in_err-_node-clause-stop
returns-in_err-_node-clause-stop c =
    let p = err_from_is_err_and c.from_residual.result c.from_residual.ensures.1 in
    let sizes = c.args.sizes.now in
    let path = c.args.path.now in
    rw (p.1, p.2)
    (stops_more sizes c.args.taken.now (λ image block. IsOnTheWay sizes image path block) (λ image block. Foot sizes image (calls.Fsync path) block)
    (λ state tree r. Stops (image_of sizes state) path r) (λ state tree r. Answers sizes (calls.Fsync path) (replies.Refused r) tree state)
    (λ state tree p b h. on_the_way path (0, refl) h) (λ state tree p r h. fsync_stops sizes state tree p.shows path r h)
    c.in_err-_node.field-0.0 c.in_err-_node.ensures.stop)

pub returns-clause-done : goal.returns-clause-done
returns-clause-done c = looked c.args.sizes.now c.args.taken.now (calls.Fsync c.args.path.now) replies.Done (λ state tree p. fsync_done c.args.sizes.now state tree p.shows c.args.path.now c.in_ok-_node._node (c.in_ok-_node.ensures.ok state tree p))
