-- Block by block the bytes are written in every made state.
use Rattle.std.proofs.Common.{◌≡◌, ℕ, ◌+◌, ◌-◌, ◌/◌, ◌≤◌, List, length, None, rules, sym, ap, ◌∙◌, subst, arith, slice_index}
use Rattle.std.proofs.lemmas.List.{length-set}
use Rattle.std.proofs.lemmas.Result.{err_from_is_err_and}
use Rattle.zj_tree.specs.declared.call.Refusal.TheVariants.{NoSpace}
use Rattle.zj_layout.specs.Image.{image_of}
use Rattle.zj_layout.specs.Node.{blocks_needed, per_block}
use Rattle.zj_layout.specs.Shows.{put_blocks}
use Rattle.zj_dirs.specs.Looking.{IsLowestBlock}
use Rattle.zj_dirs.proofs.Nodes.{named_number, rest_number}
use Rattle.zj_inode.specs.Files.{HasWritten, IsTakeBlock, IsWriteBlock, LacksSpace, WritesFirst}
use Rattle.zj_dirs.proofs.Stops.{told_apart}
use Rattle.zj_inode.proofs.Steps.{odd_after}
use Rattle.zj_inode.proofs.Writes.{after_at, after_more, first_new, first_old, lacks, new_data, new_has, nothing_has, old_data, old_due, old_has, take_due, up_to_most, up_to_some, used_first}
use Rattle.zj_inode.proofs.files.write_blocks.Goals.{then-j-had+in_ok-named_data+in_ok-write_old, else-j-had+in_ok-blocks}
use Rattle.zj_inode.proofs.files.write_blocks.Goals as goal

pub loop-j-init : goal.loop-j-init
loop-j-init c =
    let sizes = c.args.sizes.now in
    let file = c.args.file.now in
    let node = file.node in
    let at = c.args.at in
    let is = c.numbers-blocks.ensures in
    let many : length c.numbers-blocks.result ≡ 12 = search rules in
    let count : blocks_needed node ≡ (node.size + 511) / 512 = ap (λ k. (node.size + (per_block k - 1)) / per_block k) c.requires.is_file in
    let many' : length node.blocks ≡ 12 = ap length (sym is) ∙ many in
    let few : blocks_needed node ≤ 12 = omega (arith, count, c.requires.few) in
    record {
      written = record {
        turns = λ state tree p.
            let old = image_of sizes (put_blocks state c.args.built.now) in
            subst (λ (bs : List ℕ). HasWritten sizes old old file.number at c.args.bytes.now bs (at / 512)) (sym is)
            (nothing_has sizes old (c.requires.stored state tree p) (omega (arith, p.shows.shape.limits.some_data)) file.number node (c.requires.node state tree p) c.requires.is_file at c.args.bytes.now c.requires.at_most);
        named = λ k lt z. named_number node many' few c.requires.spelled k (omega (arith, lt, count, c.requires.at_most)) (ap (λ (bs : List ℕ). slice_index bs k) (sym is) ∙ z);
        rest = λ k le. ap (λ (bs : List ℕ). slice_index bs k) is ∙ rest_number node many' few c.requires.spelled k (omega (arith, le));
        seen = λ k le lt. absurd (omega (arith, le, lt));
      };
      many = many;
      taken = λ all. all;
      kept = λ b h. h;
      few = omega arith;
    }

pub returns-in_err-write_old-clause-stop : goal.returns-in_err-write_old-clause-stop
returns-in_err-write_old-clause-stop c =
    let q = err_from_is_err_and c.from_residual-in_err-write_old.result c.from_residual-in_err-write_old.ensures.1 in
    let sizes = c.args.sizes.now in
    let file = c.args.file.now in
    let j = c.loop-j.j in
    let to : ℕ = c.args.at + length c.args.bytes.now in
    let some = up_to_some c.args.at (length c.args.bytes.now) j (omega arith) (omega (arith, c.loop-j-test.true, c.end_block-end.ensures)) in
    rw (q.1, q.2)
    (after_at sizes c.args.taken.now c.args.built.now c.loop-j.built (λ image b. b ≡ slice_index c.loop-j.blocks j) (λ image b. IsWriteBlock sizes image file.number c.args.at to b) (λ state tree r. (r ≡ NoSpace) × LacksSpace sizes (image_of sizes state) file.number to)
    c.loop-j.invariant.kept
    (λ state tree p b e.
    old_due sizes (image_of sizes (put_blocks state c.args.built.now)) (c.requires.stored state tree p) (omega (arith, p.shows.shape.limits.some_data)) file.number file.node (c.requires.node state tree p) c.requires.is_file c.args.at c.args.bytes.now c.requires.at_most
    (image_of sizes (put_blocks state c.loop-j.built)) c.loop-j.blocks j (c.loop-j.invariant.written.turns state tree p) b (omega (arith, c.if-j-had.true)) (omega arith) some.1 some.0 e)
    c.in_err-write_old.field-0.0 c.in_err-write_old.ensures.halt)

pub write_new-requires-clause-used : goal.write_new-requires-clause-used
write_new-requires-clause-used c = λ state tree p.
    let sizes = c.args.sizes.now in
    let file = c.args.file.now in
    used_first sizes (image_of sizes (put_blocks state c.args.built.now)) (c.requires.stored state tree p) (omega (arith, p.shows.shape.limits.some_data)) file.number file.node (c.requires.node state tree p) c.requires.is_file c.args.at c.args.bytes.now c.requires.at_most
    (image_of sizes (put_blocks state c.loop-j.built)) c.loop-j.blocks c.loop-j.j (c.loop-j.invariant.written.turns state tree p)

pub returns-in_err-blocks-clause-stop : goal.returns-in_err-blocks-clause-stop
returns-in_err-blocks-clause-stop c =
    let q = err_from_is_err_and c.from_residual-in_err-blocks.result c.from_residual-in_err-blocks.ensures.1 in
    let sizes = c.args.sizes.now in
    let file = c.args.file.now in
    let j = c.loop-j.j in
    let to : ℕ = c.args.at + length c.args.bytes.now in
    let some = up_to_some c.args.at (length c.args.bytes.now) j (omega arith) (omega (arith, c.loop-j-test.true, c.end_block-end.ensures)) in
    let past : (file.node.size + 511) / 512 ≤ j = omega (arith, c.if-j-had.false) in
    let most = up_to_most c.args.at (length c.args.bytes.now) in
    rw (q.1, q.2)
    (after_more sizes c.args.taken.now c.args.built.now c.loop-j.built (IsTakeBlock sizes) (λ image b. IsWriteBlock sizes image file.number c.args.at to b)
    (λ state tree r. (r ≡ NoSpace) × IsLowestBlock sizes (image_of sizes state) None) (λ state tree r. (r ≡ NoSpace) × LacksSpace sizes (image_of sizes state) file.number to)
    c.loop-j.invariant.kept
    (λ state tree p b h.
    take_due sizes (image_of sizes (put_blocks state c.args.built.now)) (c.requires.stored state tree p) (omega (arith, p.shows.shape.limits.some_data)) file.number file.node (c.requires.node state tree p) c.requires.is_file c.args.at c.args.bytes.now c.requires.at_most
    (image_of sizes (put_blocks state c.loop-j.built)) c.loop-j.blocks j (c.loop-j.invariant.written.turns state tree p) past (omega (arith, some.1)) b h)
    (λ state tree p r h. (
      h.0,
      lacks sizes (image_of sizes (put_blocks state c.args.built.now)) (c.requires.stored state tree p) (omega (arith, p.shows.shape.limits.some_data)) file.number file.node (c.requires.node state tree p) c.requires.is_file c.args.at c.args.bytes.now c.requires.at_most
          (image_of sizes (put_blocks state c.loop-j.built)) c.loop-j.blocks j (c.loop-j.invariant.written.turns state tree p) past (omega (arith, some.1)) h.1 (omega (arith, c.loop-j.invariant.many, some.1, c.requires.fits)),
    ))
    c.in_err-blocks.field-0.0 c.in_err-blocks.ensures.stop)

pub loop-j-preserved : goal.loop-j-preserved
loop-j-preserved c =
    let sizes = c.args.sizes.now in
    let file = c.args.file.now in
    let j = c.loop-j.j in
    let blocks = c.loop-j.blocks in
    let count : blocks_needed file.node ≡ (file.node.size + 511) / 512 = ap (λ k. (file.node.size + (per_block k - 1)) / per_block k) c.requires.is_file in
    let some = up_to_some c.args.at (length c.args.bytes.now) j (omega arith) (omega (arith, c.loop-j-test.true, c.end_block-end.ensures)) in
    elim c.if-j-had.branch [
      | then-j-had+in_ok-named_data+in_ok-write_old w ↦ rw (w.built-is, w.blocks-is) record {
        written = first_old sizes c.args.taken.now c.args.built.now c.loop-j.built w.write_old.new.built file.number c.args.at (blocks_needed file.node) c.args.bytes.now blocks j c.loop-j.invariant.written w.in_ok-write_old.ensures.kept
            (omega (arith, count, w.if-j-had.true)) w.in_ok-write_old.ensures.seen
            (λ state tree p.
            let old = image_of sizes (put_blocks state c.args.built.now) in
            let mid = image_of sizes (put_blocks state c.loop-j.built) in
            let a = c.loop-j.invariant.written.turns state tree p in
            let s = c.requires.stored state tree p in
            let is = c.requires.node state tree p in
            let limit = p.shows.shape.limits.some_data in
            old_has sizes old s (omega (arith, limit)) file.number file.node is c.requires.is_file c.args.at c.args.bytes.now c.requires.at_most mid blocks j a (image_of sizes (put_blocks state w.write_old.new.built)) (omega (arith, w.if-j-had.true)) (omega arith)
            (w.in_ok-write_old.ensures.done state tree p (old_data sizes old s (omega (arith, limit)) file.number file.node is c.requires.is_file c.args.at c.args.bytes.now c.requires.at_most mid blocks j a (omega (arith, w.if-j-had.true)))));
        many = c.loop-j.invariant.many;
        taken = λ all. w.in_ok-write_old.ensures.taken (c.loop-j.invariant.taken all);
        kept = λ b h. c.loop-j.invariant.kept b (w.in_ok-write_old.ensures.kept b h);
        few = omega (arith, c.loop-j.invariant.few, w.in_ok-write_old.ensures.few);
      }
      | else-j-had+in_ok-blocks w ↦ rw (w.built-is, w.blocks-is) record {
        written = first_new sizes c.args.taken.now c.args.built.now c.loop-j.built w.write_new.new.built file.number c.args.at (blocks_needed file.node) c.args.bytes.now blocks j c.loop-j.invariant.written w.in_ok-blocks.ensures.kept
            w.in_ok-blocks.field-0 (omega (arith, count, w.if-j-had.false)) (omega (arith, c.loop-j.invariant.many, some.1, c.requires.fits)) w.in_ok-blocks.ensures.named w.in_ok-blocks.ensures.seen
            (λ state tree p.
            let old = image_of sizes (put_blocks state c.args.built.now) in
            let mid = image_of sizes (put_blocks state c.loop-j.built) in
            let a = c.loop-j.invariant.written.turns state tree p in
            let s = c.requires.stored state tree p in
            let is = c.requires.node state tree p in
            let limit = p.shows.shape.limits.some_data in
            let low = w.in_ok-blocks.ensures.lowest state tree p in
            new_has sizes old s (omega (arith, limit)) file.number file.node is c.requires.is_file c.args.at c.args.bytes.now c.requires.at_most mid blocks j a w.in_ok-blocks.field-0 low (image_of sizes (put_blocks state w.write_new.new.built)) (omega (arith, w.if-j-had.false))
            (omega (arith, c.loop-j.invariant.many, some.1, c.requires.fits))
            (w.in_ok-blocks.ensures.done state tree p (new_data sizes old s (omega (arith, limit)) file.number file.node is c.requires.is_file c.args.at c.args.bytes.now c.requires.at_most mid blocks j a w.in_ok-blocks.field-0 low)));
        many = length-set blocks j w.in_ok-blocks.field-0 ∙ c.loop-j.invariant.many;
        taken = λ all. w.in_ok-blocks.ensures.taken (c.loop-j.invariant.taken all);
        kept = λ b h. c.loop-j.invariant.kept b (w.in_ok-blocks.ensures.kept b h);
        few = omega (arith, c.loop-j.invariant.few, w.in_ok-blocks.ensures.few);
      }
    ]

pub returns-clause-done : goal.returns-clause-done
returns-clause-done c =
    let most = up_to_most c.args.at (length c.args.bytes.now) in
    subst (λ n. WritesFirst c.args.sizes.now c.args.taken.now c.args.built.now c.loop-j.built c.args.file.now.number c.args.at (blocks_needed c.args.file.now.node) c.args.bytes.now c.loop-j.blocks n)
    (omega (arith, c.end_block-end.ensures, c.loop-j-test.false, c.loop-j.auto.j-end, most.0)) c.loop-j.invariant.written

pub returns-in_err-named_data-clause-stop : goal.returns-in_err-named_data-clause-stop
returns-in_err-named_data-clause-stop c =
    let q = err_from_is_err_and c.from_residual.result c.from_residual.ensures.1 in
    let s = c.in_err-named_data.ensures.stop in
    let sizes = c.args.sizes.now in
    let file = c.args.file.now in
    let to : ℕ = c.args.at + length c.args.bytes.now in
    rw (q.1, q.2)
    (odd_after sizes c.args.taken.now c.args.built.now (λ image b. IsWriteBlock sizes image file.number c.args.at to b) (λ state tree r. (r ≡ NoSpace) × LacksSpace sizes (image_of sizes state) file.number to) c.in_err-named_data.field-0.0 s.0
    (λ state tree p. told_apart _ (old_data sizes (image_of sizes (put_blocks state c.args.built.now)) (c.requires.stored state tree p) (omega (arith, p.shows.shape.limits.some_data)) file.number file.node (c.requires.node state tree p) c.requires.is_file c.args.at c.args.bytes.now c.requires.at_most
    (image_of sizes (put_blocks state c.loop-j.built)) c.loop-j.blocks c.loop-j.j (c.loop-j.invariant.written.turns state tree p) (omega (arith, c.if-j-had.true))) s.1))
