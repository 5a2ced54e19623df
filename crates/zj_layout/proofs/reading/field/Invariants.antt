use Rattle.std.proofs.Common.{◌≡◌, ℕ, ◌+◌, ◌<◌, get_or}
use Rattle.zj_block.specs.Block.{bytes_of}
use Rattle.zj_layout.proofs.reading.field.Given as goal

abbrev pub invariant-loop-j : goal.invariant-loop-j
invariant-loop-j l = (k : ℕ) → k < l.j → get_or l.place-items k 0 ≡ get_or (bytes_of l.b) (l.at + k) 0
