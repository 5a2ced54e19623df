-- The entry and the node's new size together add an entry in every made state.
use Rattle.zj_layout.specs.Image.{image_of}
use Rattle.zj_layout.specs.Shows.{put_blocks}
use Rattle.std.proofs.lemmas.Result.{err_from_is_err_and}
use Rattle.zj_dirs.specs.Changing.{IsPlaceBlock}
use Rattle.zj_dirs.proofs.Stops.{odd_halts, told_apart}
use Rattle.zj_dirs.proofs.Placed.{added_in_last, below, last_data}
use Rattle.zj_dirs.proofs.changing.append_in_last.Goals as goal

pub returns-clause-says : goal.returns-clause-says
returns-clause-says c = λ state tree p.
    let sizes = c.args.sizes.now in
    let old = image_of sizes (put_blocks state c.args.written.now) in
    let s = c.requires.stored state tree p in
    let is = c.requires.node state tree p in
    added_in_last sizes old s c.args.dir c.args.node.now c.args.link.now is c.requires.directory c.requires.few
    (image_of sizes (put_blocks state c.set_link.new.written)) (image_of sizes (put_blocks state c.set_node.new.written)) c.requires.room
    (c.in_ok-set_link.ensures.done state tree p (last_data sizes old s c.args.dir c.args.node.now c.args.link.now is c.requires.directory c.requires.few c.requires.room))
    (c.in_ok-set_node.ensures.done state tree p (below sizes old s c.args.dir c.args.node.now c.args.link.now is c.requires.directory c.requires.few))

pub returns-in_err-named_data-clause-halt : goal.returns-in_err-named_data-clause-halt
returns-in_err-named_data-clause-halt c =
    let q = err_from_is_err_and c.from_residual.result c.from_residual.ensures.1 in
    let s = c.in_err-named_data.ensures.stop in
    let sizes = c.args.sizes.now in
    rw (q.1, q.2)
    (odd_halts sizes c.args.taken.now c.args.written.now (λ image block. IsPlaceBlock sizes image c.args.dir block) c.in_err-named_data.field-0.0 s.0
    (λ state tree p. told_apart _ (last_data sizes (image_of sizes (put_blocks state c.args.written.now)) (c.requires.stored state tree p) c.args.dir c.args.node.now c.args.link.now (c.requires.node state tree p) c.requires.directory c.requires.few c.requires.room) s.1))
