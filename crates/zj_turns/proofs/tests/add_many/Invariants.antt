use Rattle.std.proofs.Common.{◌≤◌, ◌+◌}
use Rattle.zj_turns.specs.Passes.{IsIdle, left_of}
use Rattle.zj_turns.proofs.tests.add_many.Given as goal

abbrev pub invariant-loop : goal.invariant-loop
invariant-loop l = record {
  idle : IsIdle l.fn.cache.table l.fn.core l.pass;
  few : l.made ≤ 1000;
  room : 1000 ≤ left_of l.pass + l.made;
}
