-- The blocks of a node and then the node are freed in every made state.
use Rattle.std.proofs.Common.{◌≡◌, inr, subst, arith}
use Rattle.std.proofs.lemmas.Result.{err_from_is_err_and}
use Rattle.zj_layout.specs.Image.{image_of, node_block}
use Rattle.zj_layout.specs.Shows.{put_blocks}
use Rattle.zj_changes.specs.Resized.{FreesBlocks}
use Rattle.zj_changes.specs.Tables.{SetsNode}
use Rattle.zj_changes.proofs.Built.{freed_node}
use Rattle.zj_inode.specs.Removing.{IsReleaseBlock}
use Rattle.zj_inode.proofs.Releases.{count_is, frees_more, node_within}
use Rattle.zj_dirs.proofs.Stops.{told_apart}
use Rattle.zj_inode.proofs.Cuts.{named_is_data}
use Rattle.zj_inode.proofs.Steps.{after_at, odd_after}
use Rattle.zj_inode.proofs.removing.release.Goals as goal

pub loop-j-preserved : goal.loop-j-preserved
loop-j-preserved c =
    frees_more c.args.sizes.now c.args.taken.now c.args.built.now c.loop-j.built c.set_map.new.written c.args.number c.loop-j.j c.args.node.now c.loop-j.invariant c.requires.stored c.requires.node
    (omega (arith, c.loop-j-test.true, c.block_count-j-end.ensures.value)) c.in_ok-set_map.ensures.done c.in_ok-set_map.ensures.taken c.in_ok-set_map.ensures.kept c.in_ok-set_map.ensures.few

pub returns-in_err-set_node-clause-stop : goal.returns-in_err-set_node-clause-stop
returns-in_err-set_node-clause-stop c =
    let q = err_from_is_err_and c.from_residual-in_err-set_node.result c.from_residual-in_err-set_node.ensures.1 in
    let sizes = c.args.sizes.now in
    rw (q.1, q.2)
    (after_at sizes c.args.taken.now c.args.built.now c.loop-j.built (λ image b. b ≡ node_block sizes c.args.number) (λ image b. IsReleaseBlock sizes image c.args.number b) (λ state tree r. ⊥) c.loop-j.invariant.kept
    (λ state tree p b e. inr e) c.in_err-set_node.field-0.0 c.in_err-set_node.ensures.halt)

pub returns-clause-done : goal.returns-clause-done
returns-clause-done c = λ state tree p.
    let sizes = c.args.sizes.now in
    let old = image_of sizes (put_blocks state c.args.built.now) in
    let between = image_of sizes (put_blocks state c.loop-j.built) in
    let new = image_of sizes (put_blocks state c.set_node.new.written) in
    let s = c.requires.stored state tree p in
    let is = c.requires.node state tree p in
    freed_node sizes old between new c.args.number
    (subst (FreesBlocks old between c.args.number 0) (omega (arith, c.loop-j-test.false, c.block_count-j-end.ensures.value, count_is sizes old s c.args.number c.args.node.now is)) (c.loop-j.invariant.turns state tree p))
    (subst (SetsNode sizes between new c.args.number) c.empty.ensures.value (c.in_ok-set_node.ensures.done state tree p (node_within sizes old s c.args.number c.args.node.now is)))

pub returns-in_err-named_data-clause-stop : goal.returns-in_err-named_data-clause-stop
returns-in_err-named_data-clause-stop c =
    let q = err_from_is_err_and c.from_residual.result c.from_residual.ensures.1 in
    let s = c.in_err-named_data.ensures.stop in
    let sizes = c.args.sizes.now in
    rw (q.1, q.2)
    (odd_after sizes c.args.taken.now c.args.built.now (λ image b. IsReleaseBlock sizes image c.args.number b) (λ state tree r. ⊥) c.in_err-named_data.field-0.0 s.0
    (λ state tree p. told_apart _ (named_is_data sizes (image_of sizes (put_blocks state c.args.built.now)) (c.requires.stored state tree p) c.args.number c.args.node.now (c.requires.node state tree p) c.loop-j.j (omega (arith, c.loop-j-test.true, c.block_count-j-end.ensures.value))) s.1))
