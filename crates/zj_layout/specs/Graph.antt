-- What nodes hold, and how names lead from node to node: a tree of files with no block in it.
use Rattle.std.specs.Prelude.{◌≡◌, ◌≢◌, ℕ, ◌<◌, List, [], ◌∷◌, Option, Some, None, IsSome, slice_get}
use Rattle.std.specs.List.{find}
use Rattle.std.specs.Option.{option_map, option_and_then}
use Rattle.std.specs.Str.{bytes_eq}
use Rattle.zj_tree.specs.declared.content.Content.{Content}
use Rattle.zj_tree.specs.declared.content.Content.TheVariants as contents
use Rattle.zj_tree.specs.Tree.{FileTree, content_at}
use Rattle.zj_layout.specs.declared.fields.Link.{Link}

-- what a node holds: nothing where it is free, the bytes of a file, or the entries of a directory in order
pub data Holding : Type 0 where
  Nothing : Holding
  Bytes : List ℕ → Holding
  Links : List Link → Holding

-- what each node holds
abbrev pub Graph : Type 0
Graph = ℕ → Holding

-- the entries of a directory, and none of another node
abbrev pub links_of : Holding → List Link
links_of (Links links) = links
links_of Nothing = []
links_of (Bytes bytes) = []

-- what a path shows that leads to such a node
abbrev pub content_of : Holding → Option Content
content_of Nothing = None
content_of (Bytes bytes) = Some (contents.File bytes)
content_of (Links links) = Some contents.Dir

-- the node of the entry with a name
abbrev pub named : List ℕ → List Link → Option ℕ
named name links = option_map (λ l. l.node) (find (λ l. bytes_eq l.name name) links)

-- where a name leads from a node
abbrev pub step : Graph → ℕ → List ℕ → Option ℕ
step graph node name = named name (links_of (graph node))

-- where a path leads from a node
abbrev pub follow : Graph → ℕ → List (List ℕ) → Option ℕ
follow graph node [] = Some node
follow graph node (name ∷ path) = option_and_then (λ next. follow graph next path) (step graph node name)

-- what a path shows, from node 0 on
abbrev pub shown_at : Graph → List (List ℕ) → Option Content
shown_at graph path = option_and_then (λ node. content_of (graph node)) (follow graph 0 path)

-- The tree that a graph describes has at each path what the path shows.
pub record Describes (graph : Graph) (tree : FileTree) : Type 0 where
  pub each : (path : List (List ℕ)) → content_at tree path ≡ shown_at graph path

-- a node that is not free
abbrev pub IsLive : Holding → Type 0
IsLive holding = IsSome (content_of holding)

-- the entry at a place of a directory
abbrev pub link_at : Graph → ℕ → ℕ → Option Link
link_at graph dir place = slice_get (links_of (graph dir)) place

-- No name stands twice among entries.
pub record AreApart (links : List Link) : Type 0 where
  pub each : (place other : ℕ) (l m : Link) → slice_get links place ≡ Some l → slice_get links other ≡ Some m → l.name ≡ m.name → place ≡ other

-- No name stands twice in a directory.
pub record HasNames (graph : Graph) : Type 0 where
  pub each : (dir : ℕ) → AreApart (links_of (graph dir))

-- The entries hang together: no name stands twice in a directory, each step leads to a node that is not free and is not
-- the root, no two steps lead to one node, and each node that is not free is reached from the root.
pub record IsRooted (nodes : ℕ) (graph : Graph) : Type 0 where
  pub root : content_of (graph 0) ≡ Some contents.Dir
  pub within : (node : ℕ) → IsLive (graph node) → node < nodes
  pub names : HasNames graph
  pub target : (dir node : ℕ) (name : List ℕ) → step graph dir name ≡ Some node → (node ≢ 0) × IsLive (graph node)
  pub once : (dir other node : ℕ) (name another : List ℕ) → step graph dir name ≡ Some node → step graph other another ≡ Some node → (dir ≡ other) × (name ≡ another)
  pub reached : (node : ℕ) → IsLive (graph node) → (path : List (List ℕ)) × (follow graph 0 path ≡ Some node)
