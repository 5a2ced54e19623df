use Rattle.std.proofs.Common.{◌≡◌, ℕ, ◌+◌, ◌*◌, ◌<◌, get_or}
use Rattle.zj_block.specs.Block.{IsContent, u32_at}
use Rattle.zj_layout.specs.Kept.{KeepsBytesOff}
use Rattle.zj_layout.proofs.writing.put_numbers.Given as goal

abbrev pub invariant-loop-j : goal.invariant-loop-j
invariant-loop-j l = record {
  there : (k : ℕ) → k < l.j → u32_at l.b (l.at + 4 * k) ≡ get_or l.numbers k 0;
  others : KeepsBytesOff l.initial.b l.b l.at 48;
  content : IsContent l.b;
}
