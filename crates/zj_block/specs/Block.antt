-- What a block holds: 64 words, their bytes, and the numbers that stand among the bytes.
use Rattle.std.specs.Prelude.{◌≡◌, ℕ, ◌+◌, ◌*◌, ◌/◌, ◌^◌, ◌<◌, List, ◌++◌, length, take, drop, map, replicate, slice_index}
use Rattle.std.specs.List.{flat_map, range_with_len, slice_range}
use Rattle.std.specs.Int.{w32, w64, to_le_bytes, from_le_bytes}

-- 64 words, each of 64 bits
pub record IsContent (content : List ℕ) : Type 0 where
  pub many : length content ≡ 64
  pub fits : (i : ℕ) → slice_index content i < 2 ^ 64

-- 512 bytes
pub record IsBytes (bytes : List ℕ) : Type 0 where
  pub many : length bytes ≡ 512
  pub fits : (i : ℕ) → slice_index bytes i < 256

-- 64 zeros
unfoldable pub zero_content : List ℕ
zero_content = replicate 64 0

-- the bytes of the words in order, the lowest byte of each first
unfoldable pub bytes_of : List ℕ → List ℕ
bytes_of content = flat_map (to_le_bytes w64) content

-- the words whose bytes these are
unfoldable pub words_of : List ℕ → List ℕ
words_of bytes = map (λ i. from_le_bytes w64 (slice_range bytes (8 * i) (8 * i + 8))) (range_with_len 0 (length bytes / 8))

-- the number of 32 bits whose lowest byte is the one at this place
unfoldable pub u32_at : List ℕ → ℕ → ℕ
u32_at content at = from_le_bytes w32 (slice_range (bytes_of content) at (at + 4))

-- the bytes, with new ones over those from a place on
unfoldable pub overwritten : List ℕ → ℕ → List ℕ → List ℕ
overwritten bytes at new = take at bytes ++ new ++ drop (at + length new) bytes

-- the content whose bytes are those of the old one with new ones over those from a place on
unfoldable pub with_bytes_at : List ℕ → ℕ → List ℕ → List ℕ
with_bytes_at content at new = words_of (overwritten (bytes_of content) at new)
