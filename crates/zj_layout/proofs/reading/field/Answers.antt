use Rattle.std.proofs.Common.{◌+◌, get_or, arith}
use Rattle.std.proofs.lemmas.List.FromFn.{fill_by_all}
use Rattle.zj_block.specs.Block.{bytes_of}
use Rattle.zj_layout.proofs.reading.field.Goals as goal

pub returns : goal.returns
returns c = fill_by_all (λ j. get_or (bytes_of c.args.b.now) (c.args.at + j) 0) c.loop-j.place-items 26 0 c.loop-j-test.array_long (λ k lt. c.loop-j.invariant k (omega arith))
