-- A graph in which one name of one directory leads elsewhere, and one in which a node without entries holds something else.
use Rattle.std.specs.Prelude.{◌≡◌, ◌≢◌, ℕ, List, [], Option}
use Rattle.zj_layout.specs.Graph.{Holding, Graph, step, links_of, content_of, HasNames}

-- One name of one directory leads to a node, or nowhere, and all others where they led. Nodes show what they showed.
pub record SetsStep (old new : Graph) (dir : ℕ) (name : List ℕ) (to : Option ℕ) : Type 0 where
  pub here : step new dir name ≡ to
  pub others : (other : ℕ) (another : List ℕ) → (other ≡ dir → another ≢ name) → step new other another ≡ step old other another
  pub shows : (node : ℕ) → content_of (new node) ≡ content_of (old node)
  pub names : HasNames new
  -- no other node has other entries
  pub links : (other : ℕ) → other ≢ dir → links_of (new other) ≡ links_of (old other)

-- A node had no entries and has none; it holds something else, and no other does.
pub record SetsHolding (old new : Graph) (node : ℕ) (holding : Holding) : Type 0 where
  pub was : links_of (old node) ≡ []
  pub now : new node ≡ holding
  pub leaf : links_of holding ≡ []
  pub others : (other : ℕ) → other ≢ node → new other ≡ old other
