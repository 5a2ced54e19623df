-- What is found by the names of a path.
use Rattle.std.specs.Prelude.{◌≡◌, ◌⊎◌, ℕ, List, Option, Some, None}
use Rattle.zj_block.specs.Lists.{Entries}
use Rattle.zj_block.specs.Sizes.{Numbers}
use Rattle.zj_layout.specs.declared.fields.Kind.TheVariants as kinds
use Rattle.zj_layout.specs.Graph.{follow, step}
use Rattle.zj_layout.specs.Image.{Image, image_of, graph_of, node_block, node_of}
use Rattle.zj_layout.specs.Shows.{Changes}
use Rattle.zj_changes.specs.Walk.{Stops, LeadsToNoDirectory, LeadsToNoFile}
use Rattle.zj_dirs.specs.Looking.{StandsAt}
use Rattle.zj_dirs.specs.Walking.{IsOnTheWay, IsStepBlock}
use Rattle.zj_inode.specs.declared.finding.Entry.{Entry}
use Rattle.zj_inode.specs.declared.finding.Located.{Located}
use Rattle.zj_inode.specs.declared.finding.Target.{Target}
use Rattle.zj_inode.specs.declared.stopped.Stopped.{Stopped}
use Rattle.zj_inode.specs.Answering.{AfterSays, StopSays}

-- names lead to a node, which is this one
pub record IsAt (image : Image) (names : List (List ℕ)) (found : Located) : Type 0 where
  pub leads : follow (graph_of image) 0 names ≡ Some found.number
  pub is : image.node found.number ≡ Some found.node

-- a block that is needed to find the node that names lead to: one on the way, or that of the node
abbrev pub IsWayBlock : Numbers → Image → List (List ℕ) → ℕ → Type 0
IsWayBlock sizes image names block = IsOnTheWay sizes image names block ⊎ ((node : ℕ) × (follow (graph_of image) 0 names ≡ Some node) × (block ≡ node_block sizes node))

-- the entry of a name, or that there is none
abbrev pub IsEntryOf : Image → ℕ → List ℕ → Option Entry → Type 0
IsEntryOf image dir name (Some entry) = StandsAt image dir name entry.place entry.node
IsEntryOf image dir name None = step (graph_of image) dir name ≡ None

-- Names and a last one lead to an entry of a directory, and the entry to a node, which is this one.
pub record IsTarget (image : Image) (front : List (List ℕ)) (name : List ℕ) (target : Target) : Type 0 where
  pub leads : follow (graph_of image) 0 front ≡ Some target.dir
  pub directory : (node_of image target.dir).kind ≡ kinds.Dir
  pub entry : StandsAt image target.dir name target.place target.number
  pub is : image.node target.number ≡ Some target.node

-- why a search for a name goes no further
abbrev pub SearchStops : Numbers → Entries → Changes → ℕ → List ℕ → Stopped → Type 0
SearchStops sizes found written dir name = AfterSays sizes found written (λ image block. IsStepBlock sizes image dir name block) (λ state tree refusal. ⊥)

-- why a walk goes no further, one to a node, one to a directory and one to a file
abbrev pub WalkStops : Numbers → Entries → List (List ℕ) → Stopped → Type 0
WalkStops sizes found names = StopSays sizes found (λ image block. IsOnTheWay sizes image names block) (λ state tree refusal. Stops (image_of sizes state) names refusal)

abbrev pub NodeStops : Numbers → Entries → List (List ℕ) → Stopped → Type 0
NodeStops sizes found names = StopSays sizes found (λ image block. IsWayBlock sizes image names block) (λ state tree refusal. Stops (image_of sizes state) names refusal)

abbrev pub DirStops : Numbers → Entries → List (List ℕ) → Stopped → Type 0
DirStops sizes found names = StopSays sizes found (λ image block. IsWayBlock sizes image names block) (λ state tree refusal. LeadsToNoDirectory (image_of sizes state) names refusal)

abbrev pub FileStops : Numbers → Entries → List (List ℕ) → Stopped → Type 0
FileStops sizes found names = StopSays sizes found (λ image block. IsWayBlock sizes image names block) (λ state tree refusal. LeadsToNoFile (image_of sizes state) names refusal)
