use Rattle.std.proofs.Common.{◌≡◌, ◌≤◌, take}
use Rattle.std.specs.Prelude.{count_by}
use Rattle.std.specs.FinMap as map_of
use Rattle.zj_tree.specs.Tree.{is_in}
use Rattle.zj_cli.proofs.dump.entry_count.Given as goal

abbrev pub invariant-loop-i : goal.invariant-loop-i
invariant-loop-i l = (l.count ≡ count_by (λ entry. is_in l.dir entry.0) (take l.i (map_of.entries l.tree.tree))) × (l.count ≤ l.i)
