use Rattle.std.proofs.Common.{◌≡◌, drop}
use Rattle.zj_turns.specs.Passes.{mine, now_knowing}
use Rattle.zj_core.specs.Steps.{given_back}
use Rattle.zj_core.proofs.steps.give_all.Given as goal

abbrev pub invariant-loop-i : goal.invariant-loop-i
invariant-loop-i l = l.pass ≡ now_knowing l.fn.pass (given_back (mine l.fn.pass) (drop l.i l.taken))
