-- A graph with one leaf more.
use Rattle.std.specs.Prelude.{◌≡◌, ◌≢◌, ℕ, List, [], ◌∷◌, ◌++◌}
use Rattle.zj_layout.specs.declared.fields.Link.{Link}
use Rattle.zj_layout.specs.Graph.{Holding, Nothing, Links, Graph, links_of, IsLive}

-- what is no directory with entries
pub record IsLeaf (holding : Holding) : Type 0 where
  pub live : IsLive holding
  pub empty : links_of holding ≡ []

-- One directory has one entry more, last, and the node that was free is now the leaf that the entry leads to.
pub record AddsLeaf (old new : Graph) (dir : ℕ) (entries : List Link) (link : Link) (leaf : Holding) : Type 0 where
  pub is_leaf : IsLeaf leaf
  pub was_free : old link.node ≡ Nothing
  pub was : old dir ≡ Links entries
  pub now : new dir ≡ Links (entries ++ link ∷ [])
  pub added : new link.node ≡ leaf
  pub others : (node : ℕ) → node ≢ dir → node ≢ link.node → new node ≡ old node
