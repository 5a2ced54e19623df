use Rattle.std.proofs.Common.{◌≡◌, ◌++◌, take, map, decimal}
use Rattle.std.specs.List.{flat_map}
use Rattle.zj_script.specs.Words.{spaced}
use Rattle.zj_script.proofs.answer.put_bounds.Given as goal

abbrev pub invariant-loop-bound : goal.invariant-loop-bound
invariant-loop-bound l = l.out ≡ l.fn.out ++ flat_map spaced (map (λ bound. decimal bound) (take l.bound-index l.bounds))
