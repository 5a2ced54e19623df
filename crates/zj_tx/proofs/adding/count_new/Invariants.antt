use Rattle.std.proofs.Common.{◌≡◌, take}
use Rattle.std.specs.Prelude.{is_none}
use Rattle.std.specs.FinMap as map_of
use Rattle.std.specs.List.{count_by}
use Rattle.zj_tx.specs.Frozen.{image_in}
use Rattle.zj_tx.proofs.adding.count_new.Given as goal

abbrev pub invariant-loop-i : goal.invariant-loop-i
invariant-loop-i l = l.count ≡ count_by (λ e. is_none (image_in l.blocks e.0)) (take l.i (map_of.entries l.written))
