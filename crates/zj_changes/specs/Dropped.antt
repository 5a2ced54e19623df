-- A graph with one leaf less, and one in which a file has other bytes.
use Rattle.std.specs.Prelude.{◌≡◌, ◌≢◌, ℕ, List, [], Some, None}
use Rattle.zj_layout.specs.Graph.{Bytes, Graph, step, links_of, content_of, HasNames}

-- One name of one directory leads nowhere now, and all others where they led. The node that it led to had no entries and is
-- free now; all others show what they showed.
pub record DropsLeaf (old new : Graph) (dir : ℕ) (name : List ℕ) (leaf : ℕ) : Type 0 where
  pub was : step old dir name ≡ Some leaf
  pub gone : step new dir name ≡ None
  pub others : (other : ℕ) (another : List ℕ) → (other ≡ dir → another ≢ name) → step new other another ≡ step old other another
  pub empty : links_of (old leaf) ≡ []
  pub freed : content_of (new leaf) ≡ None
  pub shows : (other : ℕ) → other ≢ leaf → content_of (new other) ≡ content_of (old other)
  pub names : HasNames new

-- A file has other bytes, and all else is as it was.
pub record ChangesBytes (old new : Graph) (file : ℕ) (before after : List ℕ) : Type 0 where
  pub was : old file ≡ Bytes before
  pub now : new file ≡ Bytes after
  pub others : (other : ℕ) → other ≢ file → new other ≡ old other
