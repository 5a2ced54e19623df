-- New contents without those that come out as they were found.
use Rattle.std.specs.Prelude.{◌≡◌, ◌≢◌, ◌⊎◌, ℕ, ◌%◌, List, Some}
use Rattle.std.specs.FinMap as map_of
use Rattle.zj_block.specs.Lists.{Entries, content_under}
use Rattle.zj_block.specs.Sizes.{Numbers}
use Rattle.zj_tree.specs.Tree.{FileTree}
use Rattle.zj_layout.specs.Node.{byte_in}
use Rattle.zj_layout.specs.Image.{State, map_block}
use Rattle.zj_layout.specs.Shows.{Changes, put_blocks}
use Rattle.zj_dirs.specs.Possible.{IsPossible}

-- a block is free in the map as it was found
pub record WasFoundFree (found : Entries) (block : ℕ) : Type 0 where
  pub map : List ℕ
  pub has : content_under found (map_block block) ≡ Some map
  pub free : byte_in map (block % 512) ≡ 0

-- a new content that is to be written: it differs from the one that was found, or the block is newly used
abbrev pub Counts : Entries → ℕ → List ℕ → Type 0
Counts found block content = (content_under found block ≢ Some content) ⊎ WasFoundFree found block

-- Of the new contents those that count are left, and no other.
pub record IsTrimmed (found : Entries) (built after : Changes) : Type 0 where
  pub only : (block : ℕ) (content : List ℕ) → map_of.get after block ≡ Some content → (map_of.get built block ≡ Some content) × Counts found block content
  pub all : (block : ℕ) (content : List ℕ) → map_of.get built block ≡ Some content → Counts found block content → map_of.get after block ≡ Some content

-- Put into a possible state, both make the same one.
abbrev pub MakeTheSame : Entries → Changes → Changes → Type 0
MakeTheSame found built after = (sizes : Numbers) (state : State) (tree : FileTree) → IsPossible sizes found state tree → put_blocks state after ≡ put_blocks state built

-- One new content is trimmed; the other blocks are as they were.
pub record IsTrimmedAt (found : Entries) (built before after : Changes) (block : ℕ) : Type 0 where
  pub others : (other : ℕ) → other ≢ block → map_of.get after other ≡ map_of.get before other
  pub only : (content : List ℕ) → map_of.get after block ≡ Some content → (map_of.get before block ≡ Some content) ⊎ ((map_of.get built block ≡ Some content) × Counts found block content)
  pub all : (content : List ℕ) → map_of.get built block ≡ Some content → Counts found block content → map_of.get after block ≡ Some content
