use Rattle.std.proofs.Common.{◌≡◌, drop}
use Rattle.std.specs.FinMap as finmap
use Rattle.zj_turns.specs.Passes.{mine, now_knowing}
use Rattle.zj_core.specs.Steps.{stored_into}
use Rattle.zj_core.proofs.steps.store_all.Given as goal

abbrev pub invariant-loop-i : goal.invariant-loop-i
invariant-loop-i l = l.pass ≡ now_knowing l.fn.pass (stored_into (mine l.fn.pass) (drop l.i (finmap.entries l.written)))
