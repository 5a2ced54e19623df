-- What blocks that were taken say of every state that they may be part of.
use Rattle.std.specs.Prelude.{◌≡◌, ℕ, ◌<◌, List, Option, Some, None, IsSome, slice_get}
use Rattle.std.specs.FinMap as map_of
use Rattle.std.specs.Option.{option_or, unwrap_or}
use Rattle.zj_block.specs.Lists.{Entries, content_under}
use Rattle.zj_block.specs.Sizes.{Numbers}
use Rattle.zj_tree.specs.Tree.{FileTree}
use Rattle.zj_layout.specs.Image.{State, Image, image_of}
use Rattle.zj_layout.specs.Shows.{Shows, Changes, put_blocks}
use Rattle.zj_dirs.specs.declared.answers.Halt as halts
use Rattle.zj_dirs.specs.declared.answers.Halt.TheVariants as halt
use Rattle.zj_dirs.specs.declared.answers.Stop as stops
use Rattle.zj_dirs.specs.declared.answers.Stop.TheVariants as stop

-- A state is possible for blocks that were found where it shows a tree and has them as they were found.
pub record IsPossible (sizes : Numbers) (found : Entries) (state : State) (tree : FileTree) : Type 0 where
  pub shows : Shows sizes state tree
  pub agrees : (block : ℕ) (content : List ℕ) → content_under found block ≡ Some content → slice_get state block ≡ Some content

-- it holds of the tables of every possible state
abbrev pub Always : Numbers → Entries → (Image → Type 0) → Type 0
Always sizes found P = (state : State) (tree : FileTree) → IsPossible sizes found state tree → P (image_of sizes state)

-- it holds of the tables of every made state: a possible one into which the written blocks were put
abbrev pub Made : Numbers → Entries → Changes → (Image → Type 0) → Type 0
Made sizes found written P = (state : State) (tree : FileTree) → IsPossible sizes found state tree → P (image_of sizes (put_blocks state written))

-- it holds of the tables of every made state before and after more blocks were written
abbrev pub Turns : Numbers → Entries → Changes → Changes → (Image → Image → Type 0) → Type 0
Turns sizes found before after R = (state : State) (tree : FileTree) → IsPossible sizes found state tree → R (image_of sizes (put_blocks state before)) (image_of sizes (put_blocks state after))

-- the content of a block: the written one, or else the one that was found
abbrev pub overlaid : Entries → Changes → ℕ → Option (List ℕ)
overlaid found written block = option_or (map_of.get written block) (content_under found block)

-- the written blocks, where there may be none
abbrev pub or_nothing : Option Changes → Changes
or_nothing written = unwrap_or written map_of.empty

-- each written block was taken
abbrev pub AllTaken : Entries → Changes → Type 0
AllTaken found written = (block : ℕ) → IsSome (map_of.get written block) → IsSome (content_under found block)

-- each block that had a content before has one after
abbrev pub KeepsContents : Entries → Changes → Changes → Type 0
KeepsContents found before after = (block : ℕ) → overlaid found after block ≡ None → overlaid found before block ≡ None

-- no state is possible
abbrev pub IsOdd : Numbers → Entries → Type 0
IsOdd sizes found = (state : State) (tree : FileTree) → IsPossible sizes found state tree → ⊥

-- a block is needed: it has no content yet, and is due in every made state
abbrev pub IsNeeded : Numbers → Entries → Changes → (Image → ℕ → Type 0) → ℕ → Type 0
IsNeeded sizes found written Due block = (overlaid found written block ≡ None) × Made sizes found written (λ image. Due image block)

-- why a look goes no further
abbrev pub Stops : Numbers → Entries → Changes → (Image → ℕ → Type 0) → stops.Stop → Type 0
Stops sizes found written Due (stop.Need block) = IsNeeded sizes found written Due block.0
Stops sizes found written Due stop.Odd = IsOdd sizes found

-- why a change goes no further; want of memory says nothing
abbrev pub Halts : Numbers → Entries → Changes → (Image → ℕ → Type 0) → halts.Halt → Type 0
Halts sizes found written Due (halt.Need block) = IsNeeded sizes found written Due block.0
Halts sizes found written Due halt.Odd = IsOdd sizes found
Halts sizes found written Due halt.NoMemory = Unit {0}

-- a block that is needed is one of the image
abbrev pub StopsWithin : Numbers → stops.Stop → Type 0
StopsWithin sizes (stop.Need block) = block.0 < sizes.blocks
StopsWithin sizes stop.Odd = Unit {0}

abbrev pub HaltsWithin : Numbers → halts.Halt → Type 0
HaltsWithin sizes (halt.Need block) = block.0 < sizes.blocks
HaltsWithin sizes _ = Unit {0}

-- a stop of a look, as it halts a change
abbrev pub halted : stops.Stop → halts.Halt
halted (stop.Need block) = halt.Need block
halted stop.Odd = halt.Odd
