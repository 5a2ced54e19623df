-- A graph in which one entry has moved, also onto a leaf that is gone then.
use Rattle.std.specs.Prelude.{◌≡◌, ◌≢◌, ℕ, List, [], ◌++◌, Some, None}
use Rattle.zj_tree.specs.Tree.{FileTree, content_at}
use Rattle.zj_layout.specs.Graph.{Graph, step, links_of, content_of, HasNames}

-- a path begins with another
abbrev pub Begins : List (List ℕ) → List (List ℕ) → Type 0
Begins path front = (rest : List (List ℕ)) × (path ≡ front ++ rest)

-- One name of one directory leads nowhere now, another to the node that the first led to, and all others where they led.
-- A node that the second name led to had no entries and is free now; all others show what they showed.
pub record MovesEntry (old new : Graph) (from_dir : ℕ) (from : List ℕ) (to_dir : ℕ) (to : List ℕ) (node : ℕ) : Type 0 where
  pub was : step old from_dir from ≡ Some node
  pub gone : step new from_dir from ≡ None
  pub now : step new to_dir to ≡ Some node
  pub others : (dir : ℕ) (name : List ℕ) → (dir ≡ from_dir → name ≢ from) → (dir ≡ to_dir → name ≢ to) → step new dir name ≡ step old dir name
  pub replaced : (other : ℕ) → step old to_dir to ≡ Some other → (links_of (old other) ≡ []) × (content_of (new other) ≡ None)
  pub shows : (other : ℕ) → step old to_dir to ≢ Some other → content_of (new other) ≡ content_of (old other)
  pub names : HasNames new

-- Every path that began with the one begins with the other; what began with the other is gone.
pub record IsMoved (old new : FileTree) (from to : List (List ℕ)) : Type 0 where
  pub there : (rest : List (List ℕ)) → content_at new (to ++ rest) ≡ content_at old (from ++ rest)
  pub gone : (rest : List (List ℕ)) → (Begins (from ++ rest) to → ⊥) → content_at new (from ++ rest) ≡ None
  pub others : (path : List (List ℕ)) → (Begins path from → ⊥) → (Begins path to → ⊥) → content_at new path ≡ content_at old path
