-- What a walk by the names of a path comes to, where that is not what a call needs; and what is used up.
use Rattle.std.specs.Prelude.{◌≡◌, ◌≢◌, ℕ, ◌<◌, ◌≤◌, List, ◌∷◌, ◌++◌, Some, None, IsSome, Contains, AllPairs, ◌↔◌}
use Rattle.std.specs.declared.cmp.Ordering.TheVariants.{Less}
use Rattle.std.specs.Ordering.{nat_cmp}
use Rattle.std.specs.Cmp.Lexicographic.{slice_cmp}
use Rattle.zj_block.specs.Sizes.{Numbers, first_data}
use Rattle.zj_tree.specs.declared.call.Refusal.{Refusal}
use Rattle.zj_tree.specs.declared.call.Refusal.TheVariants.{NotDir, NotFound, IsDir}
use Rattle.zj_layout.specs.declared.fields.Kind.TheVariants.{Free, File, Dir}
use Rattle.zj_layout.specs.Graph.{Graph, step, follow}
use Rattle.zj_layout.specs.Image.{Image, node_of, graph_of}

-- A walk stops: at a file that stands on the way, or at a directory that lacks the next name.
pub data Stops (image : Image) (path : List (List ℕ)) (refusal : Refusal) : Type 0 where
  behind_file : (front : List (List ℕ)) (name : List ℕ) (rest : List (List ℕ)) (file : ℕ) →
      path ≡ front ++ name ∷ rest → follow (graph_of image) 0 front ≡ Some file → (node_of image file).kind ≡ File → refusal ≡ NotDir → Stops image path refusal
  no_entry : (front : List (List ℕ)) (name : List ℕ) (rest : List (List ℕ)) (dir : ℕ) →
      path ≡ front ++ name ∷ rest → follow (graph_of image) 0 front ≡ Some dir → (node_of image dir).kind ≡ Dir → step (graph_of image) dir name ≡ None → refusal ≡ NotFound → Stops image path refusal

-- A path leads to no directory: the walk stops, or comes to a file.
pub data LeadsToNoDirectory (image : Image) (path : List (List ℕ)) (refusal : Refusal) : Type 0 where
  no_way_to_directory : Stops image path refusal → LeadsToNoDirectory image path refusal
  at_file : (file : ℕ) → follow (graph_of image) 0 path ≡ Some file → (node_of image file).kind ≡ File → refusal ≡ NotDir → LeadsToNoDirectory image path refusal

-- A path leads to no file: the walk stops, or comes to a directory.
pub data LeadsToNoFile (image : Image) (path : List (List ℕ)) (refusal : Refusal) : Type 0 where
  no_way_to_file : Stops image path refusal → LeadsToNoFile image path refusal
  at_directory : (dir : ℕ) → follow (graph_of image) 0 path ≡ Some dir → (node_of image dir).kind ≡ Dir → refusal ≡ IsDir → LeadsToNoFile image path refusal

-- no node is free
abbrev pub NoNodeFree : Numbers → Image → Type 0
NoNodeFree sizes image = (node : ℕ) → node < sizes.nodes → (node_of image node).kind ≢ Free

-- each block that is free is among these
abbrev pub FreeAreAmong : Numbers → Image → List ℕ → Type 0
FreeAreAmong sizes image blocks = (block : ℕ) → first_data sizes ≤ block → block < sizes.blocks → image.map block ≡ 0 → Contains blocks block

-- no block is free
abbrev pub NoBlockFree : Numbers → Image → Type 0
NoBlockFree sizes image = (block : ℕ) → first_data sizes ≤ block → block < sizes.blocks → image.map block ≢ 0

-- Names are those of a directory's entries, ascending byte by byte.
pub record ListsEntries (graph : Graph) (dir : ℕ) (listed : List (List ℕ)) : Type 0 where
  pub names : (name : List ℕ) → Contains listed name ↔ IsSome (step graph dir name)
  pub ascending : AllPairs (λ less more. slice_cmp nat_cmp less more ≡ Less) listed
