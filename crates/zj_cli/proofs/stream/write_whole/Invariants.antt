use Rattle.std.proofs.Common.{◌≡◌, ◌≤◌, ℕ, List, ◌++◌, length}
use Rattle.zj_dev.specs.Stream.{Took}
use Rattle.zj_cli.proofs.stream.write_whole.Given as goal

abbrev pub invariant-loop-rest : goal.invariant-loop-rest
invariant-loop-rest g l = record {
  written : List ℕ;
  whole : written ++ l.rest ≡ l.fn.bytes;
  took : Took (g.K.Sink.held l.fn.out) (g.K.Sink.held l.out) written;
  quiet : g.K.Sink.faults l.out ≡ g.K.Sink.faults l.fn.out;
  no_fewer : g.K.Sink.faults l.fn.out ≤ g.K.Sink.faults l.out;
}

abbrev pub decreases-loop-rest : goal.decreases-loop-rest
decreases-loop-rest g l = length l.rest
