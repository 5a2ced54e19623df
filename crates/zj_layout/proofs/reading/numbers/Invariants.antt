use Rattle.std.proofs.Common.{◌≡◌, ℕ, ◌+◌, ◌*◌, ◌<◌, get_or}
use Rattle.zj_block.specs.Block.{u32_at}
use Rattle.zj_layout.proofs.reading.numbers.Given as goal

abbrev pub invariant-loop-j : goal.invariant-loop-j
invariant-loop-j l = (k : ℕ) → k < l.j → get_or l.place-items k 0 ≡ u32_at l.b (l.at + 4 * k)
