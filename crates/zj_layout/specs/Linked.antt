-- Which nodes entries lead to, and which are reached.
use Rattle.std.specs.Prelude.{◌≡◌, ◌≢◌, ℕ, ◌<◌, Bool, true, false, List, [], ◌∷◌, ◌++◌, length, Some, slice_set, slice_index_or}
use Rattle.zj_layout.specs.declared.fields.Link.{Link}
use Rattle.zj_layout.specs.declared.links.Found.{Found}
use Rattle.std.specs.Option.{unwrap_or}
use Rattle.zj_tree.specs.declared.content.Content.{Content}
use Rattle.zj_tree.specs.declared.content.Content.TheVariants.{Dir}
use Rattle.zj_layout.specs.Graph.{Graph, content_of, follow, link_at}
use Rattle.zj_layout.specs.Image.{Image, graph_of}
use Rattle.zj_layout.specs.Rules.{HasOneEntry}
use Rattle.zj_layout.specs.Read.{mark}

-- the entry at a place of a directory leads to a node
pub record LeadsTo (graph : Graph) (node dir place : ℕ) : Type 0 where
  pub link : Link
  pub stands : link_at graph dir place ≡ Some link
  pub leads : link.node ≡ node

-- two places are one
abbrev pub SamePlace : ℕ → ℕ → ℕ → ℕ → Type 0
SamePlace dir place dir' place' = (dir ≡ dir') × (place ≡ place')

-- Of the entries that were seen, one leads to each node with the first mark, and two to each with the second.
pub record MarksLed (nodes : ℕ) (graph : Graph) (Seen : ℕ → ℕ → Type 0) (led again : List Bool) : Type 0 where
  pub led_many : length led ≡ nodes
  pub again_many : length again ≡ nodes
  pub some : (node : ℕ) → mark led node ≡ true → (dir place : ℕ) × Seen dir place × LeadsTo graph node dir place
  pub none : (node : ℕ) → node < nodes → mark led node ≡ false → (dir place : ℕ) → Seen dir place → LeadsTo graph node dir place → ⊥
  pub two : (node : ℕ) → mark again node ≡ true → (dir place dir' place' : ℕ) × Seen dir place × Seen dir' place' × LeadsTo graph node dir place × LeadsTo graph node dir' place' × (¬ (SamePlace dir place dir' place'))
  pub once : (node : ℕ) → node < nodes → mark again node ≡ false → (dir place dir' place' : ℕ) → Seen dir place → Seen dir' place' → LeadsTo graph node dir place → LeadsTo graph node dir' place' → SamePlace dir place dir' place'

-- what stands for a node that was not found
abbrev pub no_found : Found
no_found = record { node = 0; path = [] }

abbrev pub found_at : List Found → ℕ → Found
found_at found k = slice_index_or found k no_found

-- what stands at the path of a node that was found
abbrev pub shown_entry : Graph → Found → List (List ℕ) × Content
shown_entry graph found = (found.path, unwrap_or (content_of (graph found.node)) Dir)

-- a node that was found from an earlier one, by one step more
pub record ComesFrom (graph : Graph) (found : List Found) (k : ℕ) : Type 0 where
  pub from : ℕ
  pub earlier : from < k
  pub name : List ℕ
  pub path_is : (found_at found k).path ≡ (found_at found from).path ++ name ∷ []

-- Nodes that were found, each once, from node 0 on, each by a path that leads to it.
pub record AreFound (nodes : ℕ) (graph : Graph) (found : List Found) : Type 0 where
  pub some : 0 < length found
  pub root : found_at found 0 ≡ no_found
  pub within : (k : ℕ) → k < length found → (found_at found k).node < nodes
  pub leads : (k : ℕ) → k < length found → follow graph 0 (found_at found k).path ≡ Some (found_at found k).node
  pub apart : (j k : ℕ) → j < k → k < length found → (found_at found j).node ≢ (found_at found k).node
  pub comes : (k : ℕ) → 0 < k → k < length found → ComesFrom graph found k

-- The nodes with a mark are those that were found.
pub record MarksFound (nodes : ℕ) (found : List Found) (seen : List Bool) : Type 0 where
  pub many : length seen ≡ nodes
  pub some : (node : ℕ) → mark seen node ≡ true → (k : ℕ) × (k < length found) × ((found_at found k).node ≡ node)
  pub all : (k : ℕ) → k < length found → mark seen (found_at found k).node ≡ true

-- Where the entries of the first nodes lead was seen.
pub record IsClosed (graph : Graph) (found : List Found) (seen : List Bool) (count : ℕ) : Type 0 where
  pub each : (k place : ℕ) (l : Link) → k < count → link_at graph (found_at found k).node place ≡ Some l → mark seen l.node ≡ true

-- The node of an entry is found now: it was, or it is new, by one step more.
pub data Finds (at : ℕ) (link : Link) (found : List Found) (seen : List Bool) (found' : List Found) (seen' : List Bool) : Type 0 where
  Again : mark seen link.node ≡ true → found' ≡ found → seen' ≡ seen → Finds at link found seen found' seen'
  New : mark seen link.node ≡ false → found' ≡ found ++ record { node = link.node; path = (found_at found at).path ++ link.name ∷ [] } ∷ [] → seen' ≡ slice_set seen link.node true → Finds at link found seen found' seen'

-- The nodes with a mark are those that a path leads to.
pub record MarksReached (nodes : ℕ) (graph : Graph) (seen : List Bool) : Type 0 where
  pub many : length seen ≡ nodes
  pub some : (node : ℕ) → mark seen node ≡ true → (path : List (List ℕ)) × (follow graph 0 path ≡ Some node)
  pub all : (path : List (List ℕ)) (node : ℕ) → follow graph 0 path ≡ Some node → mark seen node ≡ true

-- A node has exactly one entry, and is reached from the root.
abbrev pub IsLinked : Image → ℕ → Type 0
IsLinked image number = HasOneEntry image number × ((path : List (List ℕ)) × (follow (graph_of image) 0 path ≡ Some number))

-- Each node that a path leads to was found.
abbrev pub FindsAll : Graph → List Found → Type 0
FindsAll graph found = (path : List (List ℕ)) (node : ℕ) → follow graph 0 path ≡ Some node → (k : ℕ) × (k < length found) × ((found_at found k).node ≡ node)
