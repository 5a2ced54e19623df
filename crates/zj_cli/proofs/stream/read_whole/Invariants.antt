use Rattle.std.proofs.Common.{◌≡◌, ◌≤◌, ◌-◌, length}
use Rattle.zj_dev.specs.Stream.{Gave}
use Rattle.zj_cli.proofs.stream.read_whole.Given as goal

abbrev pub invariant-loop-piece : goal.invariant-loop-piece
invariant-loop-piece g l = record {
  gave : Gave (g.S.Source.left l.fn.input) (g.S.Source.left l.input) l.bytes.items;
  limit : length l.bytes.items ≤ 16777217;
  quiet : g.S.Source.faults l.input ≡ g.S.Source.faults l.fn.input;
  no_fewer : g.S.Source.faults l.fn.input ≤ g.S.Source.faults l.input;
  piece : length l.piece ≡ 16384;
}

abbrev pub decreases-loop-piece : goal.decreases-loop-piece
decreases-loop-piece g l = 16777217 - length l.bytes.items
