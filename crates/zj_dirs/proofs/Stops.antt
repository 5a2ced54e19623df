-- What is due for a part of a look or a change is due for the whole.
use Rattle.std.proofs.Common.{◌≡◌, ℕ, Bool, true, false, None, sym, subst}
use Rattle.zj_block.specs.Lists.{Entries}
use Rattle.zj_block.specs.Sizes.{Numbers}
use Rattle.zj_tree.specs.Tree.{FileTree}
use Rattle.zj_layout.specs.Image.{State, Image, image_of}
use Rattle.zj_layout.specs.Shows.{Changes, put_blocks}
use Rattle.zj_dirs.specs.declared.answers.Stop.{Stop}
use Rattle.zj_dirs.specs.declared.answers.Stop.TheVariants as stop
use Rattle.zj_dirs.specs.declared.answers.Halt.{Halt}
use Rattle.zj_dirs.specs.declared.answers.Halt.TheVariants as halt
use Rattle.zj_dirs.specs.Possible.{IsOdd, IsPossible, Stops, StopsWithin, Halts, HaltsWithin, halted, overlaid}

-- each block that is due for a part, after some blocks were written, is due for the whole before
abbrev pub IsDue : Numbers → Entries → Changes → Changes → (Image → ℕ → Type 0) → (Image → ℕ → Type 0) → Type 0
IsDue sizes found before after Part Whole = (state : State) (tree : FileTree) → IsPossible sizes found state tree → (b : ℕ) → Part (image_of sizes (put_blocks state after)) b → Whole (image_of sizes (put_blocks state before)) b

pub stops_more : (sizes : Numbers) (found : Entries) (written : Changes) (Part Whole : Image → ℕ → Type 0) → IsDue sizes found written written Part Whole → (s : Stop) → Stops sizes found written Part s → Stops sizes found written Whole s
stops_more sizes found written Part Whole due (stop.Need block) h = (h.0, λ state tree p. due state tree p block.0 (h.1 state tree p))
stops_more sizes found written Part Whole due stop.Odd h = h

pub halts_stop : (sizes : Numbers) (found : Entries) (written : Changes) (Part Whole : Image → ℕ → Type 0) → IsDue sizes found written written Part Whole → (s : Stop) → Stops sizes found written Part s → Halts sizes found written Whole (halted s)
halts_stop sizes found written Part Whole due (stop.Need block) h = (h.0, λ state tree p. due state tree p block.0 (h.1 state tree p))
halts_stop sizes found written Part Whole due stop.Odd h = h

-- a change goes no further after some blocks were written, none of which had no content before
pub halts_more : (sizes : Numbers) (found : Entries) (before after : Changes) (Part Whole : Image → ℕ → Type 0) → ((b : ℕ) → overlaid found after b ≡ None → overlaid found before b ≡ None) → IsDue sizes found before after Part Whole
    → (h : Halt) → Halts sizes found after Part h → Halts sizes found before Whole h
halts_more sizes found before after Part Whole kept due (halt.Need block) h = (kept block.0 h.0, λ state tree p. due state tree p block.0 (h.1 state tree p))
halts_more sizes found before after Part Whole kept due halt.Odd h = h
halts_more sizes found before after Part Whole kept due halt.NoMemory h = h

-- where no state is possible
pub odd_stops : (sizes : Numbers) (found : Entries) (written : Changes) (Due : Image → ℕ → Type 0) (s : Stop) → s ≡ stop.Odd → IsOdd sizes found → Stops sizes found written Due s
odd_stops sizes found written Due s e odd = subst (λ x. Stops sizes found written Due x) (sym e) odd

pub odd_halts : (sizes : Numbers) (found : Entries) (written : Changes) (Due : Image → ℕ → Type 0) (s : Stop) → s ≡ stop.Odd → IsOdd sizes found → Halts sizes found written Due (halted s)
odd_halts sizes found written Due s e odd = subst (λ x. Halts sizes found written Due (halted x)) (sym e) odd

pub odd_within : (sizes : Numbers) (s : Stop) → s ≡ stop.Odd → StopsWithin sizes s
odd_within sizes s e = subst (StopsWithin sizes) (sym e) tt

pub halted_within : (sizes : Numbers) (s : Stop) → StopsWithin sizes s → HaltsWithin sizes (halted s)
halted_within sizes (stop.Need block) h = h
halted_within sizes stop.Odd h = tt

-- a test that holds and doesn't
pub told_apart : (b : Bool) → b ≡ true → b ≡ false → ⊥
told_apart b yes_ no_ = let e : true ≡ false = subst (λ x. x ≡ false) yes_ no_ in absurd cc
