use Rattle.std.proofs.Common.{◌≡◌, ◌++◌, map, take, drop}
use Rattle.zj_tx.specs.Record.{bare}
use Rattle.zj_tx.proofs.found.Found.forget_blocks.Given as goal

abbrev pub invariant-loop-sealed : goal.invariant-loop-sealed
invariant-loop-sealed l = l.sealed-items ≡ map bare (take l.sealed-index l.initial.sealed-items) ++ drop l.sealed-index l.initial.sealed-items
