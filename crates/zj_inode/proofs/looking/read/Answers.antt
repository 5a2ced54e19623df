-- The bytes that are read are those that the plain service reads.
use Rattle.std.proofs.Common.{◌≡◌, ℕ, ◌+◌, ◌<◌, ◌≤◌, refl, arith}
use Rattle.std.proofs.lemmas.Result.{err_from_is_err_and}
use Rattle.zj_tree.specs.declared.call.Call.TheVariants as calls
use Rattle.zj_tree.specs.declared.call.Reply.TheVariants as replies
use Rattle.zj_layout.specs.declared.fields.Kind.TheVariants.{File}
use Rattle.zj_layout.specs.Image.{image_of, item_block, node_of}
use Rattle.zj_layout.proofs.Changed.{item_within}
use Rattle.zj_changes.specs.Holds.{Answers}
use Rattle.zj_changes.specs.Walk.{LeadsToNoFile}
use Rattle.zj_changes.proofs.LookReplies.{read_no_file, read_past_end, read_too_big, read_done}
use Rattle.zj_inode.specs.Finding.{IsWayBlock}
use Rattle.zj_inode.specs.Footprint.{Foot, in_range}
use Rattle.zj_inode.proofs.Foots.{way_foot}
use Rattle.zj_inode.proofs.Looked.{looked}
use Rattle.zj_inode.proofs.Steps.{kind_at, size_at, stops_more}
use Rattle.zj_inode.proofs.looking.read.Goals as goal

pub returns-in_err-file-clause-stop : goal.returns-in_err-file-clause-stop
returns-in_err-file-clause-stop c =
    let q = err_from_is_err_and c.from_residual.result c.from_residual.ensures.1 in
    let sizes = c.args.sizes.now in
    let path = c.args.path.now in
    let call = calls.Read path c.args.at c.args.count in
    rw (q.1, q.2)
    (stops_more sizes c.args.taken.now (λ image block. IsWayBlock sizes image path block) (λ image block. Foot sizes image call block)
    (λ state tree r. LeadsToNoFile (image_of sizes state) path r) (λ state tree r. Answers sizes call (replies.Refused r) tree state)
    (λ state tree p b h. way_foot sizes (image_of sizes state) call path (0, refl) b h) (λ state tree p r h. read_no_file sizes state tree p.shows path c.args.at c.args.count r h)
    c.in_err-file.field-0.0 c.in_err-file.ensures.stop)

pub returns-then-at-file-clause-stop : goal.returns-then-at-file-clause-stop
returns-then-at-file-clause-stop c = λ state tree p.
    let at = c.in_ok-file.ensures.ok state tree p in
    let image = image_of c.args.sizes.now state in
    read_past_end c.args.sizes.now state tree p.shows c.args.path.now c.args.at c.args.count c.in_ok-file.file.number at.leads (kind_at image c.args.path.now c.in_ok-file.file at File c.in_ok-file.ensures.file)
    (omega (arith, size_at image c.args.path.now c.in_ok-file.file at, c.if-at-file.true))

pub returns-then-count-clause-stop : goal.returns-then-count-clause-stop
returns-then-count-clause-stop c = λ state tree p.
    let at = c.in_ok-file.ensures.ok state tree p in
    let image = image_of c.args.sizes.now state in
    read_too_big c.args.sizes.now state tree p.shows c.args.path.now c.args.at c.args.count c.in_ok-file.file.number at.leads (kind_at image c.args.path.now c.in_ok-file.file at File c.in_ok-file.ensures.file)
    (omega (arith, size_at image c.args.path.now c.in_ok-file.file at, c.if-at-file.false)) (omega (arith, c.if-count.true))

pub returns-in_err-read_range-clause-stop : goal.returns-in_err-read_range-clause-stop
returns-in_err-read_range-clause-stop c =
    let q = err_from_is_err_and c.from_residual-in_err-read_range.result c.from_residual-in_err-read_range.ensures.1 in
    let sizes = c.args.sizes.now in
    let path = c.args.path.now in
    let call = calls.Read path c.args.at c.args.count in
    let file = c.in_ok-file.file.number in
    let end : ℕ = c.args.at + c.min.result in
    rw (q.1, q.2)
    (stops_more sizes c.args.taken.now (λ image block. (k : ℕ) × (c.args.at ≤ k) × (k < end) × (k < (node_of image file).size) × (block ≡ item_block image file k)) (λ image block. Foot sizes image call block)
    (λ state tree r. ⊥) (λ state tree r. Answers sizes call (replies.Refused r) tree state)
    (λ state tree p b h. in_range path file h.0 (0, refl) (record { leads = (c.in_ok-file.ensures.ok state tree p).leads; is_file = kind_at (image_of sizes state) path c.in_ok-file.file (c.in_ok-file.ensures.ok state tree p) File c.in_ok-file.ensures.file }) h.1 (omega (arith, h.2, c.min.ensures)) (item_within (image_of sizes state) file h.0 h.3) h.4) (λ state tree p r h. absurd h)
    c.in_err-read_range.field-0.0 c.in_err-read_range.ensures.stop)

pub returns-clause-done : goal.returns-clause-done
returns-clause-done c = looked c.args.sizes.now c.args.taken.now (calls.Read c.args.path.now c.args.at c.args.count) (replies.Data c.in_ok-read_range.field-0) (λ state tree p.
    let at = c.in_ok-file.ensures.ok state tree p in
    let image = image_of c.args.sizes.now state in
    let size = size_at image c.args.path.now c.in_ok-file.file at in
    read_done c.args.sizes.now state tree p.shows c.args.path.now c.args.at c.args.count c.in_ok-file.file.number c.in_ok-read_range.field-0 at.leads (kind_at image c.args.path.now c.in_ok-file.file at File c.in_ok-file.ensures.file)
    (omega (arith, size, c.if-at-file.false)) (omega (arith, c.if-count.false)) (omega (arith, size, c.in_ok-read_range.ensures.long, c.min.ensures))
    (λ k lt. c.in_ok-read_range.ensures.each k (omega (arith, c.in_ok-read_range.ensures.long)) state tree p))
