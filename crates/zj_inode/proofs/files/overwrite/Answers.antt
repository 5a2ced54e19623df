-- Each answer of the code is the plain service's in every possible state.
use Rattle.std.proofs.Common.{◌≡◌, ◌+◌, ◌-◌, ◌/◌, true, length, Some, rules, sym, ap, subst, arith}
use Rattle.std.proofs.lemmas.Result.{err_from_is_err_and}
use Rattle.zj_layout.specs.declared.fields.Kind.TheVariants.{File}
use Rattle.zj_layout.specs.Image.{image_of}
use Rattle.zj_layout.specs.Node.{blocks_needed, is_node, per_block}
use Rattle.zj_layout.specs.Shows.{put_blocks}
use Rattle.zj_layout.specs.Stored.{IsStored}
use Rattle.zj_changes.specs.Tables.{SetsNode}
use Rattle.zj_inode.proofs.Overwrites.{blocks_stop, no_file_stops, node_stop, overwrites, past_end, too_long, too_many, written_node}
use Rattle.zj_inode.proofs.Steps.{always_stored, fresh_made}
use Rattle.zj_inode.proofs.files.overwrite.Goals as goal

pub returns-in_err-file-clause-stop : goal.returns-in_err-file-clause-stop
returns-in_err-file-clause-stop c =
    let q = err_from_is_err_and c.from_residual.result c.from_residual.ensures.1 in
    rw (q.1, q.2) (no_file_stops c.args.sizes.now c.args.taken.now c.args.path.now c.args.at c.args.bytes.now c.in_err-file.field-0.0 c.in_err-file.ensures.stop)

pub returns-then-at-file-clause-stop : goal.returns-then-at-file-clause-stop
returns-then-at-file-clause-stop c = past_end c.args.sizes.now c.args.taken.now c.args.path.now c.args.at c.args.bytes.now c.in_ok-file.file c.in_ok-file.ensures.ok c.in_ok-file.ensures.file c.if-at-file.true

pub returns-then-bytes-gt-MAX_BYTES-clause-stop : goal.returns-then-bytes-gt-MAX_BYTES-clause-stop
returns-then-bytes-gt-MAX_BYTES-clause-stop c = too_many c.args.sizes.now c.args.taken.now c.args.path.now c.args.at c.args.bytes.now c.in_ok-file.file c.in_ok-file.ensures.ok c.in_ok-file.ensures.file c.if-at-file.false c.if-bytes-gt-MAX_BYTES.true

pub returns-then-to-gt-MAX_FILE-clause-stop : goal.returns-then-to-gt-MAX_FILE-clause-stop
returns-then-to-gt-MAX_FILE-clause-stop c = too_long c.args.sizes.now c.args.taken.now c.args.path.now c.args.at c.args.bytes.now c.in_ok-file.file c.in_ok-file.ensures.ok c.in_ok-file.ensures.file c.if-at-file.false c.if-to-gt-MAX_FILE.true

pub write_blocks-requires-clause-stored : goal.write_blocks-requires-clause-stored
write_blocks-requires-clause-stored c = fresh_made c.args.sizes.now c.args.taken.now c.args.built.now c.requires.fresh (IsStored c.args.sizes.now) (always_stored c.args.sizes.now c.args.taken.now)

pub write_blocks-requires-clause-node : goal.write_blocks-requires-clause-node
write_blocks-requires-clause-node c = fresh_made c.args.sizes.now c.args.taken.now c.args.built.now c.requires.fresh (λ image. image.node c.in_ok-file.file.number ≡ Some c.in_ok-file.file.node) (λ state tree p. (c.in_ok-file.ensures.ok state tree p).is)

pub returns-in_err-blocks-clause-stop : goal.returns-in_err-blocks-clause-stop
returns-in_err-blocks-clause-stop c =
    let q = err_from_is_err_and c.from_residual-in_err-blocks.result c.from_residual-in_err-blocks.ensures.1 in
    rw (q.1, q.2)
    (blocks_stop c.args.sizes.now c.args.taken.now c.args.path.now c.args.at c.args.bytes.now c.in_ok-file.file c.in_ok-file.ensures.ok c.in_ok-file.ensures.file c.if-at-file.false c.args.built.now c.requires.fresh c.if-bytes-gt-MAX_BYTES.false c.if-to-gt-MAX_FILE.false
    c.in_err-blocks.field-0.0 c.in_err-blocks.ensures.stop)

pub set_node-requires : goal.set_node-requires
set_node-requires c =
    let node = c.in_ok-file.file.node in
    let w = c.in_ok-blocks.ensures.done in
    let count : blocks_needed node ≡ (node.size + 511) / 512 = ap (λ k. (node.size + (per_block k - 1)) / per_block k) c.in_ok-file.ensures.file in
    subst (λ n. is_node (record { kind = File; size = n; blocks = c.in_ok-blocks.blocks }) ≡ true) (sym c.max.ensures)
    (written_node node.size c.args.at (length c.args.bytes.now) c.in_ok-blocks.blocks (search rules) c.if-at-file.false c.in_ok-file.ensures.few c.if-to-gt-MAX_FILE.false
    (λ k lt. w.named k (omega (arith, count, lt))) (λ k le. w.rest k (omega (arith, count, le))))

pub returns-in_err-set_node-clause-stop : goal.returns-in_err-set_node-clause-stop
returns-in_err-set_node-clause-stop c =
    let q = err_from_is_err_and c.from_residual-in_err-set_node.result c.from_residual-in_err-set_node.ensures.1 in
    rw (q.1, q.2)
    (node_stop c.args.sizes.now c.args.taken.now c.args.path.now c.args.at c.args.bytes.now c.in_ok-file.file c.in_ok-file.ensures.ok c.in_ok-file.ensures.file c.if-at-file.false c.args.built.now c.requires.fresh c.if-bytes-gt-MAX_BYTES.false c.if-to-gt-MAX_FILE.false
    c.write_blocks.new.built c.in_ok-blocks.ensures.kept c.in_err-set_node.field-0.0 c.in_err-set_node.ensures.halt)

pub returns-clause-done : goal.returns-clause-done
returns-clause-done c =
    let file = c.in_ok-file.file in
    overwrites c.args.sizes.now c.args.taken.now c.args.path.now c.args.at c.args.bytes.now file c.in_ok-file.ensures.ok c.in_ok-file.ensures.file c.if-at-file.false c.args.built.now c.requires.fresh c.if-bytes-gt-MAX_BYTES.false c.if-to-gt-MAX_FILE.false
    c.write_blocks.new.built c.in_ok-blocks.ensures.kept c.in_ok-blocks.blocks c.in_ok-blocks.ensures.done c.in_ok-file.ensures.few
    c.set_node.new.written c.in_ok-set_node.ensures.kept c.len-contents.ensures.contents
    (λ state tree p below. subst (λ n. SetsNode c.args.sizes.now (image_of c.args.sizes.now (put_blocks state c.write_blocks.new.built)) (image_of c.args.sizes.now (put_blocks state c.set_node.new.written)) file.number (record { kind = File; size = n; blocks = c.in_ok-blocks.blocks }))
    c.max.ensures (c.in_ok-set_node.ensures.done state tree p below))
