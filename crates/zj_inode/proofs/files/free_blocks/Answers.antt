-- One block more is free in every made state.
use Rattle.std.proofs.Common.{◌<◌, sym, subst, arith}
use Rattle.zj_layout.specs.Image.{image_of}
use Rattle.zj_layout.specs.Shows.{put_blocks}
use Rattle.zj_changes.specs.Tables.{SetsMap}
use Rattle.zj_changes.specs.Resized.{FreesBlocks}
use Rattle.zj_changes.proofs.Built.{one_more_freed}
use Rattle.std.proofs.lemmas.Result.{err_from_is_err_and}
use Rattle.zj_dirs.proofs.Stops.{odd_halts, told_apart}
use Rattle.zj_inode.specs.Files.{IsMapOf}
use Rattle.zj_inode.proofs.Cuts.{block_below, named_is_data, number_is}
use Rattle.zj_inode.proofs.files.free_blocks.Goals as goal

pub loop-j-preserved : goal.loop-j-preserved
loop-j-preserved c =
    let j = c.loop-j.j in
    let sizes = c.args.sizes.now in
    let of = c.args.of.now in
    let step = c.loop-j.invariant in
    record {
      turns = λ state tree p.
          let old = image_of sizes (put_blocks state c.args.built.now) in
          let mid = image_of sizes (put_blocks state c.loop-j.built) in
          let new = image_of sizes (put_blocks state c.set_map.new.written) in
          let s = c.requires.stored state tree p in
          let is = c.requires.node state tree p in
          let lt : j < c.args.high = omega (arith, c.loop-j-test.true) in
          one_more_freed sizes old mid new of.number c.args.low j (omega arith) (step.turns state tree p)
          (subst (λ b. SetsMap sizes mid new b 0) (sym (number_is sizes old s of.number of.node is j))
          (c.in_ok-set_map.ensures.done state tree p (block_below sizes old s of.number of.node is j (omega (arith, lt, c.requires.within)))));
      taken = λ all. c.set_map.ensures.taken (step.taken all);
      kept = λ b h. step.kept b (c.set_map.ensures.kept b h);
      few = omega (arith, step.few, c.set_map.ensures.few);
    }

pub returns-clause-done : goal.returns-clause-done
returns-clause-done c = λ state tree p.
    let sizes = c.args.sizes.now in
    subst (FreesBlocks (image_of sizes (put_blocks state c.args.built.now)) (image_of sizes (put_blocks state c.loop-j.built)) c.args.of.now.number c.args.low) (omega arith) (c.loop-j.invariant.turns state tree p)

pub returns-in_err-named_data-clause-halt : goal.returns-in_err-named_data-clause-halt
returns-in_err-named_data-clause-halt c =
    let q = err_from_is_err_and c.from_residual.result c.from_residual.ensures.1 in
    let s = c.in_err-named_data.ensures.stop in
    let sizes = c.args.sizes.now in
    let of = c.args.of.now in
    rw (q.1, q.2)
    (odd_halts sizes c.args.taken.now c.args.built.now (λ image block. IsMapOf image of.number c.args.low c.args.high block) c.in_err-named_data.field-0.0 s.0
    (λ state tree p. told_apart _ (named_is_data sizes (image_of sizes (put_blocks state c.args.built.now)) (c.requires.stored state tree p) of.number of.node (c.requires.node state tree p) c.loop-j.j (omega (arith, c.loop-j-test.true, c.requires.within))) s.1))
