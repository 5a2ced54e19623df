use Rattle.std.proofs.Common.{◌≡◌, ◌-◌}
use Rattle.zj_turns.specs.Passes.{dealt}
use Rattle.zj_turns.proofs.tests.by_turns.Given as goal

abbrev pub invariant-loop-core : goal.invariant-loop-core
invariant-loop-core l = l.passes ≡ dealt l.fn.cache.table 64 (64 - l.core)
