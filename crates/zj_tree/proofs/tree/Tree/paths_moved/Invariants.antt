use Rattle.std.proofs.Common.{◌≡◌, map, take}
use Rattle.zj_tree.specs.Moved.{moved_paths}
use Rattle.zj_tree.proofs.tree.Tree.paths_moved.Given as goal

abbrev pub invariant-loop-path : goal.invariant-loop-path
invariant-loop-path l = l.paths.items ≡ moved_paths l.from l.to (map (λ e. e.0) (take l.path-index l.path-items))
