use Rattle.std.proofs.Common.{◌≡◌, take}
use Rattle.std.specs.List.{flat_map}
use Rattle.std.specs.FinMap as map_of
use Rattle.zj_cli.specs.Check.{line_of}
use Rattle.zj_cli.proofs.dump.spell_dump.Given as goal

abbrev pub invariant-loop-i : goal.invariant-loop-i
invariant-loop-i l = l.text ≡ flat_map (line_of l.tree.tree) (take l.i (map_of.entries l.tree.tree))
