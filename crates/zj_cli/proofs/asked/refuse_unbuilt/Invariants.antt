use Rattle.std.proofs.Common.{take}
use Rattle.zj_cli.specs.Asked.{AreBuilt}
use Rattle.zj_cli.proofs.asked.refuse_unbuilt.Given as goal

abbrev pub invariant-loop-line : goal.invariant-loop-line
invariant-loop-line l = AreBuilt (take l.line-index l.lines)
