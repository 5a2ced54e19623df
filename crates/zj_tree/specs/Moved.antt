-- When what stands at a path can get another.
use Rattle.std.specs.Prelude.{◌≡◌, ℕ, List, map, filter, IsSome, Some, false}
use Rattle.zj_tree.specs.declared.content.Content.TheVariants.{Dir}
use Rattle.zj_tree.specs.Path.{parent, begins_with}
use Rattle.zj_tree.specs.Changed.{moved}
use Rattle.zj_tree.specs.Tree.{FileTree, IsTree, content_at, entry_count}

-- neither path lies within the other, the directory of the new one is there, and nothing lies below it
pub record CanMove (tree : FileTree) (from to : List (List ℕ)) : Type 0 where
  pub is_tree : IsTree tree
  pub there : IsSome (content_at tree from)
  pub outside : begins_with to from ≡ false
  pub not_above : begins_with from to ≡ false
  pub directory : content_at tree (parent to) ≡ Some Dir
  pub empty : entry_count tree to ≡ 0

-- the new paths of those that begin with `from`
abbrev pub moved_paths : List (List ℕ) → List (List ℕ) → List (List (List ℕ)) → List (List (List ℕ))
moved_paths from to paths = map (moved from to) (filter (λ path. begins_with path from) paths)
