-- What possible and made states have in common.
use Rattle.std.specs.Prelude.{◌≡◌, ◌↔◌, ℕ, ◌<◌, List, Some, None, IsTrue}
use Rattle.std.specs.FinMap as map_of
use Rattle.zj_block.specs.Lists.{Entries, content_under}
use Rattle.zj_block.specs.Sizes.{Numbers}
use Rattle.zj_layout.specs.Graph.{IsRooted}
use Rattle.zj_layout.specs.Image.{State, Image, graph_of, is_data}
use Rattle.zj_layout.specs.Rules.{HasPlace}
use Rattle.zj_layout.specs.Shows.{Changes, put_blocks}
use Rattle.zj_layout.specs.Stored.{IsStored}
use Rattle.zj_dirs.specs.Looking.{StandsAt}
use Rattle.zj_dirs.specs.Possible.{Always, AllTaken, Made, overlaid}
use Rattle.zj_dirs.specs.Trimming.{WasFoundFree}

-- With nothing written, a made state is the possible one.
abbrev pub NothingIsPut : Type 0
NothingIsPut = (state : State) → put_blocks state map_of.empty ≡ state

-- In a possible state the tables fit each other, and the entries hang together.
abbrev pub PossibleIsStored : Type 0
PossibleIsStored = (sizes : Numbers) (found : Entries) → Always sizes found (IsStored sizes)

abbrev pub PossibleIsRooted : Type 0
PossibleIsRooted = (sizes : Numbers) (found : Entries) → Always sizes found (λ image. IsRooted sizes.nodes (graph_of image))

-- A data block that is seen has that content in every made state.
abbrev pub ContentIsSeen : Type 0
ContentIsSeen = (sizes : Numbers) (found : Entries) (written : Changes) (block : ℕ) (content : List ℕ) → overlaid found written block ≡ Some content → IsTrue (is_data sizes block) → Made sizes found written (λ image. image.content block ≡ content)

-- A block that is free in the map as it was found is free in every possible state.
abbrev pub FoundFreeIsFree : Type 0
FoundFreeIsFree = (sizes : Numbers) (found : Entries) (block : ℕ) → WasFoundFree found block → block < sizes.blocks → Always sizes found (λ image. image.map block ≡ 0)

-- Where each written block was taken, the blocks that have no content are those that were not taken.
abbrev pub UnseenIsUntaken : Type 0
UnseenIsUntaken = (found : Entries) (written : Changes) → AllTaken found written → (block : ℕ) → (overlaid found written block ≡ None) ↔ (content_under found block ≡ None)

-- An entry that is found stands at a place of the directory.
abbrev pub FoundHasPlace : Type 0
FoundHasPlace = (image : Image) (dir place node : ℕ) (name : List ℕ) → StandsAt image dir name place node → HasPlace image dir place
