use Rattle.std.proofs.Common.{◌≡◌, ◌++◌, take}
use Rattle.std.specs.List.{flat_map}
use Rattle.zj_script.specs.Words.{spaced}
use Rattle.zj_script.proofs.answer.put_names.Given as goal

abbrev pub invariant-loop-name : goal.invariant-loop-name
invariant-loop-name l = l.out ≡ l.fn.out ++ flat_map spaced (take l.name-index l.names)
