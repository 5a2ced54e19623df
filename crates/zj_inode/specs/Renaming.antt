-- What moves in a rename, and what may be in its way.
use Rattle.std.specs.Prelude.{◌≡◌, ◌≢◌, ◌⊎◌, ℕ, ◌<◌, List, [], ◌∷◌, ◌++◌}
use Rattle.zj_block.specs.Lists.{Entries}
use Rattle.zj_block.specs.Sizes.{Numbers}
use Rattle.zj_tree.specs.declared.call.Refusal.TheVariants as refusals
use Rattle.zj_layout.specs.declared.fields.Kind.TheVariants as kinds
use Rattle.zj_layout.specs.declared.fields.Link.{Link}
use Rattle.zj_layout.specs.declared.fields.Node.{Node}
use Rattle.zj_changes.specs.Moved.{Begins}
use Rattle.zj_dirs.specs.Possible.{Always}
use Rattle.zj_inode.specs.declared.finding.Target.{Target}
use Rattle.zj_inode.specs.declared.stopped.Stopped.{Stopped}
use Rattle.zj_inode.specs.declared.stopped.Stopped.TheVariants as stopped
use Rattle.zj_inode.specs.Finding.{IsTarget}
use Rattle.zj_inode.specs.Footprint.{LeadsToDir}

-- In every possible state the entry of one path is to move to a name of a directory, which is another path and not below it.
pub record Moves (sizes : Numbers) (found : Entries) (from to : List (List ℕ)) (old : Target) (to_dir : ℕ) (link : Link) : Type 0 where
  pub front : List (List ℕ)
  pub name : List ℕ
  pub from_is : from ≡ front ++ name ∷ []
  pub at : Always sizes found (λ image. IsTarget image front name old)
  pub to_front : List (List ℕ)
  pub to_is : to ≡ to_front ++ link.name ∷ []
  pub leads : Always sizes found (λ image. LeadsToDir image to_front to_dir)
  pub node : link.node ≡ old.number
  pub apart : from ≢ to
  pub outside : old.node.kind ≡ kinds.Dir → Begins to from → ⊥

-- One node may take the place of another: a file of a file, a directory of an empty one.
abbrev pub FitsOver : Node → Node → Type 0
FitsOver moved onto = ((moved.kind ≡ kinds.File) × (onto.kind ≡ kinds.File)) ⊎ ((moved.kind ≡ kinds.Dir) × (onto.kind ≡ kinds.Dir) × (onto.size ≡ 0))

-- why it may not
abbrev pub StandsInTheWay : Node → Node → Stopped → Type 0
StandsInTheWay moved onto (stopped.Refused refusals.IsDir) = (moved.kind ≡ kinds.File) × (onto.kind ≡ kinds.Dir)
StandsInTheWay moved onto (stopped.Refused refusals.NotDir) = (moved.kind ≡ kinds.Dir) × (onto.kind ≡ kinds.File)
StandsInTheWay moved onto (stopped.Refused refusals.NotEmpty) = (moved.kind ≡ kinds.Dir) × (onto.kind ≡ kinds.Dir) × (0 < onto.size)
StandsInTheWay moved onto stopped.Odd = (moved.kind ≡ kinds.Free) ⊎ (onto.kind ≡ kinds.Free)
StandsInTheWay moved onto _ = ⊥
