use Rattle.std.proofs.Common.{rules}
use Rattle.std.specs.Ordering.{is_lt}
use Rattle.std.proofs.lemmas.Fn.{always_returns_same}
use Rattle.std.proofs.lemmas.List.MinMax.{ranks_by}
use Rattle.zj_tree.specs.Tree.{path_cmp}
use Rattle.zj_tree.proofs.OrderLemmas.{paths_total}
use Rattle.zj_tree.proofs.EditLemmas.{Entry'}
use Rattle.zj_tree.proofs.tree.rename.sort.Goals as goal

pub returns-clause-sorted : goal.returns-clause-sorted
returns-clause-sorted c = c.sort_unstable_by.ensures.sorted (λ (x : Entry') (y : Entry'). is_lt (path_cmp x.0 y.0)) (ranks_by paths_total (λ (e : Entry'). e.0)) (always_returns_same _ _ _ (λ a r g called. (search rules, search rules)))
