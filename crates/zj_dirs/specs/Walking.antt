-- Where a path leads by the entries of directories, and what a walk over taken blocks says of it.
use Rattle.std.specs.Prelude.{◌≡◌, ◌≢◌, ◌⊎◌, ℕ, ◌/◌, ◌<◌, List, ◌∷◌, ◌++◌, take, Some, None, slice_get}
use Rattle.zj_block.specs.Lists.{Entries, content_under}
use Rattle.zj_block.specs.Sizes.{Numbers}
use Rattle.zj_layout.specs.declared.fields.Kind.TheVariants as kinds
use Rattle.zj_layout.specs.declared.fields.Link.{Link}
use Rattle.zj_layout.specs.Graph.{follow, step, link_at}
use Rattle.zj_layout.specs.Image.{Image, graph_of, node_of, item_block, node_block}
use Rattle.zj_layout.specs.Rules.{HasPlace}
use Rattle.zj_dirs.specs.declared.answers.Step as steps
use Rattle.zj_dirs.specs.declared.answers.Step.TheVariants as one
use Rattle.zj_dirs.specs.declared.answers.Walk as walks
use Rattle.zj_dirs.specs.declared.answers.Walk.TheVariants as answers
use Rattle.zj_dirs.specs.Possible.{Always, IsOdd}

-- On the way of a path stands a node, before one of its names.
pub record StandsOnTheWay (image : Image) (path : List (List ℕ)) (name : List ℕ) (node : ℕ) : Type 0 where
  pub front : List (List ℕ)
  pub rest : List (List ℕ)
  pub path_is : path ≡ front ++ name ∷ rest
  pub leads : follow (graph_of image) 0 front ≡ Some node

-- A path leads nowhere, since a directory on the way has no entry of the next name.
pub record LacksName (image : Image) (path : List (List ℕ)) : Type 0 where
  pub name : List ℕ
  pub dir : ℕ
  pub on_the_way : StandsOnTheWay image path name dir
  pub directory : (node_of image dir).kind ≡ kinds.Dir
  pub absent : step (graph_of image) dir name ≡ None

-- A path leads nowhere, since a file stands on the way.
pub record MeetsFile (image : Image) (path : List (List ℕ)) : Type 0 where
  pub name : List ℕ
  pub file : ℕ
  pub on_the_way : StandsOnTheWay image path name file
  pub is_file : (node_of image file).kind ≡ kinds.File

-- an entry block of a directory, none of whose entries in the blocks before has the name
pub record IsSearched (image : Image) (dir : ℕ) (name : List ℕ) (block : ℕ) : Type 0 where
  pub place : ℕ
  pub has : HasPlace image dir place
  pub is : item_block image dir place ≡ block
  pub before : (earlier : ℕ) (l : Link) → earlier / 16 < place / 16 → link_at (graph_of image) dir earlier ≡ Some l → l.name ≢ name

-- a block that a step needs: the one of the node, or an entry block of a directory up to the one with the name
abbrev pub IsStepBlock : Numbers → Image → ℕ → List ℕ → ℕ → Type 0
IsStepBlock sizes image dir name block = (block ≡ node_block sizes dir) ⊎ IsSearched image dir name block

-- A block is on the way of a path: a step to one of its names needs it.
pub record IsOnTheWay (sizes : Numbers) (image : Image) (path : List (List ℕ)) (block : ℕ) : Type 0 where
  pub depth : ℕ
  pub name : List ℕ
  pub next : slice_get path depth ≡ Some name
  pub dir : ℕ
  pub leads : follow (graph_of image) 0 (take depth path) ≡ Some dir
  pub needs : IsStepBlock sizes image dir name block

-- where a name leads from a node
abbrev pub StepSays : Image → ℕ → List ℕ → steps.Step → Type 0
StepSays image number name (one.To node) = step (graph_of image) number name ≡ Some node
StepSays image number name one.NotFound = ((node_of image number).kind ≡ kinds.Dir) × (step (graph_of image) number name ≡ None)
StepSays image number name one.NotDir = (node_of image number).kind ≡ kinds.File

-- What a walk answers, in every possible state. The block that it needs was not taken.
abbrev pub WalkSays : Numbers → Entries → List (List ℕ) → walks.Walk → Type 0
WalkSays sizes found path (answers.Need block) = (content_under found block.0 ≡ None) × Always sizes found (λ image. IsOnTheWay sizes image path block.0)
WalkSays sizes found path (answers.Found node) = Always sizes found (λ image. follow (graph_of image) 0 path ≡ Some node)
WalkSays sizes found path answers.NotFound = Always sizes found (λ image. LacksName image path)
WalkSays sizes found path answers.NotDir = Always sizes found (λ image. MeetsFile image path)
WalkSays sizes found path answers.Odd = IsOdd sizes found

-- a block that a walk needs is one of the image
abbrev pub WalksWithin : Numbers → walks.Walk → Type 0
WalksWithin sizes (answers.Need block) = block.0 < sizes.blocks
WalksWithin sizes _ = Unit {0}
