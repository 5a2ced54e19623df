-- The freed blocks and the node together cut the file in every made state.
use Rattle.std.proofs.Common.{◌≡◌, inr, subst}
use Rattle.std.proofs.lemmas.Result.{IfErr-weaker, on_ok_weaker}
use Rattle.zj_layout.specs.Image.{image_of, node_block}
use Rattle.zj_layout.specs.Shows.{put_blocks}
use Rattle.zj_changes.specs.Tables.{SetsNode}
use Rattle.zj_dirs.proofs.Stops.{halts_more}
use Rattle.zj_inode.specs.Files.{IsTruncateBlock}
use Rattle.zj_inode.proofs.Cuts.{cut_by}
use Rattle.zj_inode.proofs.files.cut.Goals as goal

pub returns-clause-done : goal.returns-clause-done
returns-clause-done c =
    let sizes = c.args.sizes.now in
    let file = c.args.file.now in
    on_ok_weaker c.set_node.result (λ h state tree p.
    cut_by sizes (image_of sizes (put_blocks state c.args.built.now)) (c.requires.stored state tree p) file.number file.node (c.requires.node state tree p)
    (image_of sizes (put_blocks state c.free_blocks.new.built)) (image_of sizes (put_blocks state c.set_node.new.written)) c.args.size c.shortened.result.blocks c.requires.is_file c.requires.fewer c.shortened.ensures.first
    (c.in_ok-free_blocks.ensures.done state tree p)
    (λ lt. subst (SetsNode sizes (image_of sizes (put_blocks state c.free_blocks.new.built)) (image_of sizes (put_blocks state c.set_node.new.written)) file.number) c.shortened.ensures.is (h state tree p lt)))
    c.set_node.ensures.done

pub returns-clause-halt : goal.returns-clause-halt
returns-clause-halt c =
    let sizes = c.args.sizes.now in
    let file = c.args.file.now in
    IfErr-weaker c.set_node.result _ _ (λ halt h.
    halts_more sizes c.args.taken.now c.args.built.now c.free_blocks.new.built (λ image block. block ≡ node_block sizes file.number) (λ image block. IsTruncateBlock sizes image file.number c.args.size block)
    c.in_ok-free_blocks.ensures.kept (λ state tree p b e. inr e) halt h)
    c.set_node.ensures.halt
