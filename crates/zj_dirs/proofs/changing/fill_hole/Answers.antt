-- The last entry fills the hole in every made state.
use Rattle.std.proofs.Common.{◌≡◌, ◌-◌, ◌/◌, sym, ◌∙◌, arith, slice_index}
use Rattle.std.proofs.lemmas.Result.{IfErr-weaker, err_from_is_err_and, on_ok_weaker}
use Rattle.zj_layout.specs.Image.{image_of, item_block}
use Rattle.zj_layout.specs.Shows.{put_blocks}
use Rattle.zj_dirs.specs.Changing.{IsRemoveBlock, of_entry, of_last}
use Rattle.zj_dirs.proofs.Removed.{block_data, filled, item_is, size_of}
use Rattle.zj_dirs.proofs.Stops.{halts_more, halts_stop, odd_halts, told_apart}
use Rattle.zj_dirs.proofs.changing.fill_hole.Goals as goal

pub returns-in_err-link-clause-halt : goal.returns-in_err-link-clause-halt
returns-in_err-link-clause-halt c =
    let p = err_from_is_err_and c.from_residual.result c.from_residual.ensures.1 in
    let sizes = c.args.sizes.now in
    rw (p.1, p.2)
    (halts_stop sizes c.args.taken.now c.args.written.now (λ image block. block ≡ item_block image c.args.dir (c.args.node.now.size - 1)) (λ image block. IsRemoveBlock sizes image c.args.dir c.args.place block)
    (λ state tree p b e. of_last (c.args.node.now.size - 1) (omega (arith, c.requires.place, size_of sizes (image_of sizes (put_blocks state c.args.written.now)) (c.requires.stored state tree p) c.args.dir c.args.node.now (c.requires.node state tree p) c.requires.directory)) e)
    c.in_err-link.field-0.0 c.in_err-link.ensures.stop)

pub returns-clause-done : goal.returns-clause-done
returns-clause-done c = on_ok_weaker c.set_link.result (λ h state tree p.
    let sizes = c.args.sizes.now in
    let old = image_of sizes (put_blocks state c.args.written.now) in
    let s = c.requires.stored state tree p in
    let is = c.requires.node state tree p in
    filled sizes old s c.args.dir c.args.node.now is c.requires.directory (image_of sizes (put_blocks state c.set_link.new.written)) c.args.place (c.args.node.now.size - 1) c.in_ok-link.link (c.in_ok-link.ensures.ok state tree p)
    (h state tree p (block_data sizes old s c.args.dir c.args.node.now is c.requires.directory c.args.place c.requires.place)))
    c.set_link.ensures.done

pub returns-clause-halt : goal.returns-clause-halt
returns-clause-halt c =
    let sizes = c.args.sizes.now in
    IfErr-weaker c.set_link.result _ _ (λ halt h.
    halts_more sizes c.args.taken.now c.args.written.now c.args.written.now (λ image b. b ≡ slice_index c.args.node.now.blocks (c.args.place / 16)) (λ image block. IsRemoveBlock sizes image c.args.dir c.args.place block)
    (λ b e. e)
    (λ state tree p b e. of_entry (e ∙ sym (item_is sizes (image_of sizes (put_blocks state c.args.written.now)) (c.requires.stored state tree p) c.args.dir c.args.node.now (c.requires.node state tree p) c.requires.directory c.args.place)))
    halt h)
    c.set_link.ensures.halt

pub returns-in_err-named_data-clause-halt : goal.returns-in_err-named_data-clause-halt
returns-in_err-named_data-clause-halt c =
    let q = err_from_is_err_and c.from_residual-in_err-named_data.result c.from_residual-in_err-named_data.ensures.1 in
    let s = c.in_err-named_data.ensures.stop in
    let sizes = c.args.sizes.now in
    rw (q.1, q.2)
    (odd_halts sizes c.args.taken.now c.args.written.now (λ image block. IsRemoveBlock sizes image c.args.dir c.args.place block) c.in_err-named_data.field-0.0 s.0
    (λ state tree p. told_apart _ (block_data sizes (image_of sizes (put_blocks state c.args.written.now)) (c.requires.stored state tree p) c.args.dir c.args.node.now (c.requires.node state tree p) c.requires.directory c.args.place c.requires.place) s.1))
