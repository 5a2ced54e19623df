-- The block with the entry put in replaces the entry in every made state.
use Rattle.std.proofs.Common.{◌≡◌, ◌/◌, ◌%◌, ◌<◌, sym, ap, ◌∙◌, subst, slice_index}
use Rattle.std.proofs.lemmas.Result.{err_from_is_err_and, on_ok_weaker}
use Rattle.zj_layout.specs.Image.{image_of}
use Rattle.zj_layout.specs.Node.{link_in}
use Rattle.zj_layout.specs.Shows.{put_blocks}
use Rattle.zj_changes.specs.Tables.{SetsLink}
use Rattle.zj_changes.proofs.Built.{replaced_by}
use Rattle.zj_dirs.proofs.Removed.{block_data, block_within, item_is, size_of, within}
use Rattle.zj_dirs.proofs.Looks.{is_dir}
use Rattle.zj_dirs.proofs.Seen.{made_content}
use Rattle.zj_layout.specs.Image.{item_block}
use Rattle.zj_dirs.proofs.Stops.{odd_halts, told_apart}
use Rattle.zj_inode.proofs.renaming.replace.Goals as goal

pub returns-clause-done : goal.returns-clause-done
returns-clause-done c = on_ok_weaker c.set_content.result (λ h state tree p.
    let sizes = c.args.sizes.now in
    let dir = c.args.dir.now in
    let place = c.args.place in
    let old = image_of sizes (put_blocks state c.args.built.now) in
    let mid = image_of sizes (put_blocks state c.set_content.new.written) in
    let s = c.requires.stored state tree p in
    let is = c.requires.node state tree p in
    let lt = c.requires.place state tree p in
    let block = slice_index dir.node.blocks (place / 16) in
    let data_ = block_data sizes old s dir.number dir.node is c.requires.directory place lt in
    let range = block_within sizes old s dir.number dir.node is c.requires.directory place lt in
    let same = made_content sizes c.args.taken.now c.args.built.now state tree p block c.in-Some.found.now data_ range.1 (sym c.in-Some.ensures.content) in
    let sets = h state tree p data_ in
    let link : SetsLink sizes old mid block (place % 16) c.args.link.now = record {
      here = ap (λ x. link_in x (place % 16)) sets.here ∙ c.put_link.ensures.here;
      rest = λ j ne. ap (λ x. link_in x j) sets.here ∙ c.put_link.ensures.others j ne ∙ ap (λ x. link_in x j) (sym same);
      others = sets.others;
      node = sets.node;
      map = sets.map;
    } in
    replaced_by sizes old mid dir.number place c.args.link.now (within sizes old s dir.number dir.node is c.requires.directory)
    (is_dir sizes c.args.taken.now c.args.built.now state tree p s dir.number dir.node is c.requires.directory)
    (subst (λ n. place < n) (size_of sizes old s dir.number dir.node is c.requires.directory) lt)
    (subst (λ b. SetsLink sizes old mid b (place % 16) c.args.link.now) (sym (item_is sizes old s dir.number dir.node is c.requires.directory place)) link))
    c.set_content.ensures.done

pub returns-in_err-named_data-clause-halt : goal.returns-in_err-named_data-clause-halt
returns-in_err-named_data-clause-halt c =
    let q = err_from_is_err_and c.from_residual.result c.from_residual.ensures.1 in
    let s = c.in_err-named_data.ensures.stop in
    let sizes = c.args.sizes.now in
    let dir = c.args.dir.now in
    rw (q.1, q.2)
    (odd_halts sizes c.args.taken.now c.args.built.now (λ image block. block ≡ item_block image dir.number c.args.place) c.in_err-named_data.field-0.0 s.0
    (λ state tree p. told_apart _ (block_data sizes (image_of sizes (put_blocks state c.args.built.now)) (c.requires.stored state tree p) dir.number dir.node (c.requires.node state tree p) c.requires.directory c.args.place (c.requires.place state tree p)) s.1))
