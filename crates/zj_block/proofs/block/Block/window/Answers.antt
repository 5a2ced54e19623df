use Rattle.std.proofs.Common.{◌+◌, ◌/◌, ◌%◌, slice_index, arith}
use Rattle.zj_block.proofs.Parts.{joined_fits, joined_is, window_in_word, window_over_end}
use Rattle.zj_block.proofs.block.Block.window.Goals as goal

pub returns-then-from-le4 : goal.returns-then-from-le4
returns-then-from-le4 c k few = rw (← c.self.view_is) (window_in_word c.self.inside.words c.args.at k (omega arith))

pub overflow_add-result : goal.overflow_add-result
overflow_add-result c =
    let words = c.self.inside.words in
    let fits = joined_fits (slice_index words (c.args.at / 8 + 1)) (slice_index words (c.args.at / 8)) (c.args.at % 8) (omega arith) (omega arith) (c.self.invariant.fits (c.args.at / 8)) in
    omega (arith, fits)

pub returns : goal.returns
returns c k few =
    let words = c.self.inside.words in
    let is = joined_is (slice_index words (c.args.at / 8 + 1)) (slice_index words (c.args.at / 8)) (c.args.at % 8) (omega arith) (omega arith) in
    rw (is, ← c.self.view_is) (window_over_end words c.args.at k (c.self.invariant.fits (c.args.at / 8)) (omega arith) few)
