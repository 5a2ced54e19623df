-- Filling the hole and cutting the last entry off together remove the entry in every made state.
use Rattle.std.proofs.Common.{◌-◌, ◌<◌, arith}
use Rattle.std.proofs.lemmas.Result.{IfErr-weaker, err_from_is_err_and, on_ok_weaker}
use Rattle.zj_layout.specs.Image.{image_of}
use Rattle.zj_layout.specs.Shows.{put_blocks}
use Rattle.zj_dirs.specs.Changing.{IsCutBlock, IsRemoveBlock}
use Rattle.zj_dirs.proofs.Removed.{block_data, block_within, cut_due, removed, within}
use Rattle.zj_dirs.proofs.Stops.{halts_more, odd_halts, told_apart}
use Rattle.zj_dirs.proofs.changing.detach.Goals as goal

pub returns-clause-done : goal.returns-clause-done
returns-clause-done c =
    let lt : c.args.place < c.in_ok-node.node.size = omega (arith, c.if-place-node.false) in
    on_ok_weaker c.cut_last.result (λ h state tree p.
    let sizes = c.args.sizes.now in
    let old = image_of sizes (put_blocks state c.args.written.now) in
    let s = c.requires.stored state tree p in
    let is = c.in_ok-node.ensures.ok state tree p in
    let range = block_within sizes old s c.args.dir c.in_ok-node.node is c.in_ok-node.ensures.directory (c.in_ok-node.node.size - 1) (omega (arith, lt)) in
    removed sizes old s c.args.dir c.in_ok-node.node is c.in_ok-node.ensures.directory (image_of sizes (put_blocks state c.fill_hole.new.written)) (image_of sizes (put_blocks state c.cut_last.new.written)) c.args.place lt
    (c.in_ok-fill_hole.ensures.done state tree p)
    (h state tree p (within sizes old s c.args.dir c.in_ok-node.node is c.in_ok-node.ensures.directory) range.1))
    c.cut_last.ensures.done

pub returns-clause-halt : goal.returns-clause-halt
returns-clause-halt c =
    let sizes = c.args.sizes.now in
    IfErr-weaker c.cut_last.result _ _ (λ halt h.
    halts_more sizes c.args.taken.now c.args.written.now c.fill_hole.new.written (λ image block. IsCutBlock sizes c.args.dir (c.in_ok-node.node.size - 1) c.in_ok-node.node block) (λ image block. IsRemoveBlock sizes image c.args.dir c.args.place block)
    c.fill_hole.ensures.kept
    (λ state tree p b e. cut_due sizes (image_of sizes (put_blocks state c.args.written.now)) (c.requires.stored state tree p) c.args.dir c.in_ok-node.node (c.in_ok-node.ensures.ok state tree p) c.in_ok-node.ensures.directory c.args.place b (omega (arith, c.if-place-node.false)) e)
    halt h)
    c.cut_last.ensures.halt

pub returns-in_err-named_data-clause-halt : goal.returns-in_err-named_data-clause-halt
returns-in_err-named_data-clause-halt c =
    let q = err_from_is_err_and c.from_residual-in_err-named_data.result c.from_residual-in_err-named_data.ensures.1 in
    let s = c.in_err-named_data.ensures.stop in
    let sizes = c.args.sizes.now in
    rw (q.1, q.2)
    (odd_halts sizes c.args.taken.now c.args.written.now (λ image block. IsRemoveBlock sizes image c.args.dir c.args.place block) c.in_err-named_data.field-0.0 s.0
    (λ state tree p. told_apart _ (block_data sizes (image_of sizes (put_blocks state c.args.written.now)) (c.requires.stored state tree p) c.args.dir c.in_ok-node.node (c.in_ok-node.ensures.ok state tree p) c.in_ok-node.ensures.directory (c.in_ok-node.node.size - 1) (omega (arith, c.if-place-node.false))) s.1))
