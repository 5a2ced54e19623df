use Rattle.std.proofs.Common.{◌+◌, ◌*◌, arith}
use Rattle.std.proofs.lemmas.List.FromFn.{fill_by_all}
use Rattle.zj_block.specs.Block.{u32_at}
use Rattle.zj_layout.proofs.reading.numbers.Goals as goal

pub returns : goal.returns
returns c = fill_by_all (λ j. u32_at c.args.b.now (c.args.at + 4 * j)) c.loop-j.place-items 12 0 c.loop-j-test.array_long (λ k lt. c.loop-j.invariant k (omega arith))
