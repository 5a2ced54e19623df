use Rattle.std.proofs.Common.{ℕ, ◌<◌}
use Rattle.std.specs.Option.{option_copied}
use Rattle.zj_dirs.specs.Possible.{Made, or_nothing}
use Rattle.zj_dirs.specs.Looking.{HasOther}
use Rattle.zj_dirs.proofs.looking.find_entry.Given as goal

abbrev pub invariant-loop-place : goal.invariant-loop-place
invariant-loop-place l = (k : ℕ) → k < l.place → Made l.sizes l.taken (or_nothing (option_copied l.written)) (λ image. HasOther image l.dir k l.name)
