use Rattle.std.proofs.Common.{◌≤◌, ◌+◌}
use Rattle.zj_turns.specs.Passes.{IsIdle, left_of}
use Rattle.turns_bench.proofs.work.Given as goal

abbrev pub invariant-loop : goal.invariant-loop
invariant-loop l = record {
  idle : IsIdle l.fn.cache.table l.pass.core l.pass;
  few : l.made ≤ l.count;
  room : l.count ≤ left_of l.pass + l.made;
}
