-- The bytes that are read are those of every possible state.
use Rattle.std.proofs.Common.{◌≡◌, ℕ, ◌+◌, ◌-◌, ◌*◌, ◌/◌, ◌<◌, ◌≤◌, max, sym, ap, ◌∙◌, arith, slice_index}
use Rattle.zj_block.specs.Lists.{content_under}
use Rattle.std.proofs.lemmas.Result.{err_from_is_err_and}
use Rattle.zj_layout.specs.Image.{image_of, item_block, node_of}
use Rattle.zj_layout.specs.Node.{blocks_needed, per_block}
use Rattle.zj_dirs.proofs.Stops.{told_apart}
use Rattle.zj_dirs.proofs.Walks.{possible_stored}
use Rattle.zj_inode.proofs.Cuts.{named_is_data}
use Rattle.zj_inode.proofs.Steps.{odd_says}
use Rattle.zj_inode.proofs.Ranged.{block_is, byte_seen, reads_more, size_is, file_within}
use Rattle.zj_inode.proofs.looking.read_range.Goals as goal

pub returns-in_default-clause-stop : goal.returns-in_default-clause-stop
returns-in_default-clause-stop c = (
  sym c.in_default.ensures.found,
  λ state tree p.
      let j = c.loop-j.j in
      let node = c.args.file.now.node in
      let is = c.requires.node state tree p in
      let sizes = c.args.sizes.now in
      let k : ℕ = max c.args.from (512 * j) in
      let at : k / 512 ≡ j = omega (arith, c.loop-j-test.true) in (
        k,
        omega arith,
        omega (arith, c.loop-j-test.true),
        omega (arith, size_is sizes c.args.taken.now state tree p c.args.file.now.number node is c.requires.is_file),
        ap (slice_index node.blocks) (sym at) ∙ sym (block_is sizes c.args.taken.now state tree p c.args.file.now.number node is c.requires.is_file k),
      ),
)

pub loop-j-preserved : goal.loop-j-preserved
loop-j-preserved c =
    let j = c.loop-j.j in
    let sizes = c.args.sizes.now in
    let found = c.args.taken.now in
    let file = c.args.file.now.number in
    let node = c.args.file.now.node in
    reads_more sizes found file c.args.from c.args.to _ _ c.loop-j.bytes c.extend.new.bytes j c.in-Some.content.now c.loop-j.invariant
    (omega arith) (omega (arith, c.loop-j-test.true)) (ap (λ n. n - 512 * j) c.max.ensures) (ap (λ n. n - 512 * j) c.min.ensures) c.in_ok-extend.ensures.long c.in_ok-extend.ensures.before c.in_ok-extend.ensures.added
    (λ k at lt state tree p.
    let is = c.requires.node state tree p in
    byte_seen sizes found state tree p file node is c.requires.is_file k c.in-Some.content.now
    (file_within sizes found state tree p file node is c.requires.is_file)
    (omega (arith, lt, c.requires.within)) (ap (λ i. content_under found (slice_index node.blocks i)) at ∙ sym c.in-Some.ensures.found))

pub returns-in_err-named_data-clause-stop : goal.returns-in_err-named_data-clause-stop
returns-in_err-named_data-clause-stop c =
    let q = err_from_is_err_and c.from_residual.result c.from_residual.ensures.1 in
    let s = c.in_err-named_data.ensures.stop in
    let sizes = c.args.sizes.now in
    let file = c.args.file.now.number in
    let node = c.args.file.now.node in
    let count : blocks_needed node ≡ (node.size + 511) / 512 = ap (λ k. (node.size + (per_block k - 1)) / per_block k) c.requires.is_file in
    let below : c.loop-j.j < blocks_needed node = omega (arith, c.loop-j-test.true, c.requires.within, count) in
    rw (q.1, q.2)
    (odd_says sizes c.args.taken.now (λ image block. (k : ℕ) × (c.args.from ≤ k) × (k < c.args.to) × (k < (node_of image file).size) × (block ≡ item_block image file k)) (λ state tree r. ⊥) c.in_err-named_data.field-0.0 s.0
    (λ state tree p. told_apart _ (named_is_data sizes (image_of sizes state) (possible_stored sizes state tree p.shows) file node (c.requires.node state tree p) c.loop-j.j below) s.1))
