-- One more block at its place.
use Rattle.std.proofs.Common.{◌≡◌, ℕ, ◌+◌, ◌*◌, ◌<◌, ◌≤◌, List, length, Bor, Option, Some, None, refl, sym, ap, ◌∙◌, arith, inl, inr}
use Rattle.std.specs.Prelude.{IfSome, IsSome}
use Rattle.std.specs.List.{slice_get, slice_index_or}
use Rattle.std.proofs.lemmas.Option.{get_or_from_slice_get, slice_get-get_or}
use Rattle.std.specs.Option.{option_copied, option_map}
use Rattle.std.proofs.lemmas.Bool.{cases_eq}
use Rattle.zj_block.specs.Block.{bytes_of, zero_content}
use Rattle.zj_dev.specs.Disk.{DiskView, IsDisk, replaced}
use Rattle.zj_home.specs.Super.{block_bytes_in}
use Rattle.zj_home.specs.Made.{HoldsBlocks}
use Rattle.zj_dev.proofs.DiskLaws.{replaced_part, told_length}
use Rattle.zj_home.proofs.Replaced.{at-replaced}

-- the blocks before it stay, and it stands at its place
one_more : (image : List ℕ) (blocks : List (List ℕ)) (b : ℕ) (content : List ℕ) → 8192 + 512 * b + 512 ≤ length image → length (bytes_of content) ≡ 512 → content ≡ slice_index_or blocks b zero_content
    → HoldsBlocks image blocks b → HoldsBlocks (replaced image (8192 + 512 * b) (bytes_of content)) blocks (b + 1)
one_more image blocks b content within many is before k below = elim (cases_eq k b) [
  | inl here ↦
      ap (λ n. block_bytes_in (replaced image (8192 + 512 * b) (bytes_of content)) n) here
      ∙ at-replaced image (8192 + 512 * b) (bytes_of content) (8192 + 512 * b + 512) (omega (arith, many)) (omega (arith, many))
      ∙ ap bytes_of is
      ∙ ap (λ n. bytes_of (slice_index_or blocks n zero_content)) (sym here)
  | inr other ↦
      replaced_part image (8192 + 512 * b) (bytes_of content) (8192 + 512 * k) (8192 + 512 * k + 512) (omega (arith, many)) (inl (omega arith))
      ∙ before k (omega arith)
]

-- the same on a disk
pub block_more : (disk : DiskView) (new : Option (List ℕ)) (blocks : List (List ℕ)) (b : ℕ) (content : List ℕ) → IsDisk disk → 8192 + 512 * b + 512 ≤ disk.size → length (bytes_of content) ≡ 512 → content ≡ slice_index_or blocks b zero_content
    → new ≡ option_map (λ bytes. replaced bytes (8192 + 512 * b) (bytes_of content)) disk.bytes
    → IfSome disk.bytes (λ image. HoldsBlocks image blocks b) → IfSome new (λ image. HoldsBlocks image blocks (b + 1))
block_more disk new blocks b content is within many this e before =
    rw e (mapped disk.bytes (λ image told h. one_more image blocks b content (let n = told_length disk image is told in omega (arith, n, within)) many this h) before)
  where
    mapped : (o : Option (List ℕ)) → ((image : List ℕ) → o ≡ Some image → HoldsBlocks image blocks b → HoldsBlocks (replaced image (8192 + 512 * b) (bytes_of content)) blocks (b + 1))
        → IfSome o (λ image. HoldsBlocks image blocks b) → IfSome (option_map (λ bytes. replaced bytes (8192 + 512 * b) (bytes_of content)) o) (λ image. HoldsBlocks image blocks (b + 1))
    mapped None follows h = tt
    mapped (Some image) follows h = follows image refl h

-- a block that was found at a place is the one there
pub found_at : (blocks : List (List ℕ)) (b : ℕ) (content : List ℕ) → slice_get blocks b ≡ Some content → content ≡ slice_index_or blocks b zero_content
found_at blocks b content e = sym (get_or_from_slice_get blocks b content zero_content e)

-- a place below the count has a block
pub some_at : (o : Option (Bor (List ℕ))) (blocks : List (List ℕ)) (b : ℕ) → option_copied o ≡ slice_get blocks b → b < length blocks → IsSome o
some_at (Some block) blocks b e below = refl
some_at None blocks b e below = let here = slice_get-get_or blocks b zero_content below in cc
