-- What a block of the map says of the lowest free block.
use Rattle.std.proofs.Common.{◌≡◌, ◌≢◌, ℕ, ◌+◌, ◌-◌, ◌*◌, ◌/◌, ◌%◌, ◌<◌, ◌≤◌, List, Some, None, sym, ap, ◌∙◌, arith}
use native.Mathlib.Decide.{dec_lt}
use Rattle.zj_block.specs.Lists.{Entries}
use Rattle.zj_block.specs.Sizes.{Numbers}
use Rattle.zj_tree.specs.Tree.{FileTree}
use Rattle.zj_layout.specs.Node.{byte_in}
use Rattle.zj_layout.specs.Image.{State, Image, image_of}
use Rattle.zj_layout.specs.Shows.{Changes, put_blocks}
use Rattle.zj_dirs.specs.Looking.{IsLowestBlock, IsLowestZero}
use Rattle.zj_dirs.specs.Possible.{IsPossible, overlaid}
use Rattle.zj_dirs.proofs.Seen.{made_map}

module _ (sizes : Numbers) (found : Entries) (written : Changes) (state : State) (tree : FileTree) (p : IsPossible sizes found state tree) (k count : ℕ) (content : List ℕ) (seen : overlaid found written k ≡ Some content) (few : count ≤ 512) where
  abbrev im : Image
  im = image_of sizes (put_blocks state written)

  byte_seen : (place : ℕ) → place < 512 → k * 512 + place < sizes.blocks → im.map (k * 512 + place) ≡ byte_in content place
  byte_seen place lt below =
      let block : (k * 512 + place) / 512 ≡ k = omega arith in
      let slot : (k * 512 + place) % 512 ≡ place = omega arith in
      made_map sizes found written state tree p (k * 512 + place) content below (ap (overlaid found written) block ∙ seen) ∙ ap (byte_in content) slot

  pub none_here : IsLowestZero content count None → ((j : ℕ) → j < 512 → k * 512 + j < sizes.blocks → j < count) → ((lower : ℕ) → lower < 512 * k → lower < sizes.blocks → im.map lower ≢ 0)
      → (lower : ℕ) → lower < 512 * (k + 1) → lower < sizes.blocks → im.map lower ≢ 0
  none_here none all before lower lt below = by (dec_lt lower (512 * k))
    where
      by : Dec (lower < 512 * k) → im.map lower ≢ 0
      by (yes h) = before lower h below
      by (no h) = λ z.
          let e : k * 512 + (lower - 512 * k) ≡ lower = omega arith in
          let few_ : lower - 512 * k < 512 = omega arith in
          none (lower - 512 * k) (all (lower - 512 * k) few_ (omega (arith, e, below))) (sym (byte_seen (lower - 512 * k) few_ (omega (arith, e, below))) ∙ ap im.map e ∙ z)

  pub lowest_here : (place : ℕ) → k * 512 + count ≤ sizes.blocks → IsLowestZero content count (Some place) → ((lower : ℕ) → lower < 512 * k → lower < sizes.blocks → im.map lower ≢ 0) → IsLowestBlock sizes im (Some (k * 512 + place))
  lowest_here place inside h before = (omega (arith, h.0), byte_seen place (omega (arith, h.0)) (omega (arith, h.0)) ∙ h.1, λ lower lt. by lower lt (dec_lt lower (512 * k)))
    where
      by : (lower : ℕ) → lower < k * 512 + place → Dec (lower < 512 * k) → im.map lower ≢ 0
      by lower lt (yes less) = before lower less (omega (arith, h.0))
      by lower lt (no less) = λ z.
          let e : k * 512 + (lower - 512 * k) ≡ lower = omega arith in
          h.2 (lower - 512 * k) (omega arith) (sym (byte_seen (lower - 512 * k) (omega (arith, h.0)) (omega (arith, h.0, e))) ∙ ap im.map e ∙ z)
