use Rattle.std.proofs.Common.{◌≡◌, ℕ, ◌+◌, ◌<◌, get_or}
use Rattle.zj_block.specs.Block.{IsContent, bytes_of}
use Rattle.zj_layout.specs.Kept.{KeepsBytesOff}
use Rattle.zj_layout.proofs.writing.put_field.Given as goal

abbrev pub invariant-loop-j : goal.invariant-loop-j
invariant-loop-j l = record {
  there : (k : ℕ) → k < l.j → get_or (bytes_of l.b) (l.at + k) 0 ≡ get_or l.name k 0;
  others : KeepsBytesOff l.initial.b l.b l.at 26;
  content : IsContent l.b;
}
