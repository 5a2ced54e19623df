-- The bytes of a block, place by place.
use Rattle.std.proofs.Common.{◌≡◌, ℕ, zero, suc, ◌+◌, ◌-◌, ◌*◌, ◌/◌, ◌%◌, ◌^◌, ◌<◌, ◌≤◌, List, [], ◌∷◌, ◌++◌, length, get_or, take, drop, slice_index, refl, sym, ap, ◌∙◌, inl, inr, arith}
use Rattle.std.proofs.lemmas.Bool.{cases_lt}
use Rattle.std.proofs.lemmas.List.{ext_get_or, get_or-append_right, get_or-drop, get_or-take, get_or_append_left, get_or_past, length-append, length-drop, length-take-le}
use Rattle.std.proofs.lemmas.List.FromFn.{get_or-map-range_with_len, length-map-range_with_len}
use Rattle.std.proofs.lemmas.Nat.{le_bytes_8}
use Rattle.std.specs.List.{slice_range}
use Rattle.std.specs.Int.{byte_at, bytes_low_first, from_le_bytes, to_le_bytes, w64}
use Rattle.zj_block.specs.Block.{IsBytes, IsContent, bytes_of, overwritten, words_of}
use Rattle.zj_block.proofs.ByteAt.{byte_at-zero, byte_at_fits, from_le_bytes-same_8}

-- a byte of a number's bytes
pub get_or-bytes : (j n x k : ℕ) → k < n → get_or (bytes_low_first j n x) k 0 ≡ byte_at (j + k) x
get_or-bytes j zero x k below = absurd (omega arith)
get_or-bytes j (suc n) x zero below = let e : j + zero ≡ j = omega arith in rw e refl
get_or-bytes j (suc n) x (suc k) below =
    let e : j + suc k ≡ suc j + k = omega arith in
    rw e (get_or-bytes (suc j) n x k (omega arith))

-- a block has 8 bytes for each word
pub length-bytes_of : (content : List ℕ) → length (bytes_of content) ≡ 8 * length content
unfolding bytes_of
length-bytes_of [] = refl
length-bytes_of (x ∷ content) = let rest = length-bytes_of content in omega (arith, rest)

-- a byte of a block is a byte of one of its words
pub get_or-bytes_of : (content : List ℕ) (m : ℕ) → slice_index (bytes_of content) m ≡ byte_at (m % 8) (slice_index content (m / 8))
unfolding bytes_of
get_or-bytes_of [] m = sym (byte_at-zero (m % 8))
get_or-bytes_of (x ∷ content) m = elim (cases_lt m 8) [
  | inl below ↦
      let r : m % 8 ≡ m = omega arith in
      let q : m / 8 ≡ 0 = omega arith in
      rw (r, q) (get_or_append_left (to_le_bytes w64 x) (bytes_of content) 0 m below ∙ get_or-bytes 0 8 x m below ∙ ap (λ k. byte_at k x) (omega arith))
  | inr above ↦
      let r : m % 8 ≡ (m - 8) % 8 = omega arith in
      let q : m / 8 ≡ suc ((m - 8) / 8) = omega arith in
      rw (r, q) (get_or-append_right (to_le_bytes w64 x) (bytes_of content) 8 m 0 refl above ∙ get_or-bytes_of content (m - 8))
]

-- each byte of a block is below 256
pub bytes_of_fits : (content : List ℕ) (m : ℕ) → slice_index (bytes_of content) m < 256
bytes_of_fits content m = rw (get_or-bytes_of content m) (byte_at_fits (m % 8) (slice_index content (m / 8)))

-- the bytes of a content are 512 bytes
pub IsBytes-bytes_of : (content : List ℕ) → IsContent content → IsBytes (bytes_of content)
IsBytes-bytes_of content is = record { many = omega (arith, length-bytes_of content, is.many); fits = bytes_of_fits content }

-- new bytes over some leave the length
pub length-overwritten : (bytes : List ℕ) (at : ℕ) (new : List ℕ) → at + length new ≤ length bytes → length (overwritten bytes at new) ≡ length bytes
unfolding overwritten
length-overwritten bytes at new within =
    let front = length-take-le at bytes (omega arith) in
    let back = length-drop (at + length new) bytes in
    let joined = length-append (take at bytes ++ new) (drop (at + length new) bytes) in
    let first = length-append (take at bytes) new in
    omega (arith, front, back, joined, first)

module _ (bytes : List ℕ) (at : ℕ) (new : List ℕ) (within : at + length new ≤ length bytes) where
  length-front : length (take at bytes) ≡ at
  length-front = length-take-le at bytes (omega arith)

  length-middle : length (take at bytes ++ new) ≡ at + length new
  length-middle = let first = length-append (take at bytes) new in omega (arith, length-front, first)

  -- the bytes before the new ones stay
  pub overwritten_below : (m : ℕ) → m < at → slice_index (overwritten bytes at new) m ≡ slice_index bytes m
  unfolding overwritten
  overwritten_below m below =
      get_or_append_left (take at bytes ++ new) (drop (at + length new) bytes) 0 m (omega (arith, length-middle))
      ∙ get_or_append_left (take at bytes) new 0 m (omega (arith, length-front))
      ∙ get_or-take at bytes m 0 below

  -- the new bytes stand from the place on
  pub overwritten_within : (m : ℕ) → at ≤ m → m < at + length new → slice_index (overwritten bytes at new) m ≡ slice_index new (m - at)
  unfolding overwritten
  overwritten_within m above below =
      get_or_append_left (take at bytes ++ new) (drop (at + length new) bytes) 0 m (omega (arith, length-middle))
      ∙ get_or-append_right (take at bytes) new at m 0 length-front above

  -- the bytes behind the new ones stay
  pub overwritten_above : (m : ℕ) → at + length new ≤ m → slice_index (overwritten bytes at new) m ≡ slice_index bytes m
  unfolding overwritten
  overwritten_above m above =
      let place : at + length new + (m - (at + length new)) ≡ m = omega arith in
      get_or-append_right (take at bytes ++ new) (drop (at + length new) bytes) (at + length new) m 0 length-middle above
      ∙ get_or-drop (at + length new) bytes (m - (at + length new)) 0
      ∙ ap (λ k. slice_index bytes k) place

-- the words of bytes, place by place
pub length-words_of : (bytes : List ℕ) → length (words_of bytes) ≡ length bytes / 8
unfolding words_of
length-words_of bytes = length-map-range_with_len (λ i. from_le_bytes w64 (slice_range bytes (8 * i) (8 * i + 8))) 0 (length bytes / 8)

pub get_or-words_of : (bytes : List ℕ) (i : ℕ) → i < length bytes / 8 → slice_index (words_of bytes) i ≡ from_le_bytes w64 (slice_range bytes (8 * i) (8 * i + 8))
unfolding words_of
get_or-words_of bytes i below = get_or-map-range_with_len (λ i. from_le_bytes w64 (slice_range bytes (8 * i) (8 * i + 8))) 0 (length bytes / 8) i i 0 below (omega arith)

-- a byte of a part
pub get_or-part : (bytes : List ℕ) (at n k : ℕ) → k < n → slice_index (slice_range bytes at (at + n)) k ≡ slice_index bytes (at + k)
get_or-part bytes at n k below =
    get_or-take (at + n - at) (drop at bytes) k 0 (omega arith) ∙ get_or-drop at bytes k 0

-- words to bytes and back
pub words_of-bytes_of : (content : List ℕ) → ((i : ℕ) → slice_index content i < 2 ^ 64) → words_of (bytes_of content) ≡ content
words_of-bytes_of content fits =
    let many = length-bytes_of content in
    let length_same = length-words_of (bytes_of content) in
    let same : length (words_of (bytes_of content)) ≡ length content = omega (arith, many, length_same) in
    ext_get_or 0 (words_of (bytes_of content)) content same (λ i below.
    get_or-words_of (bytes_of content) i (omega (arith, many, same))
    ∙ from_le_bytes-same_8 (slice_range (bytes_of content) (8 * i) (8 * i + 8)) (slice_index content i) (fits i) (λ k under.
    let r : (8 * i + k) % 8 ≡ k = omega arith in
    let q : (8 * i + k) / 8 ≡ i = omega arith in
    get_or-part (bytes_of content) (8 * i) 8 k under
    ∙ get_or-bytes_of content (8 * i + k)
    ∙ rw (r, q) refl))

-- bytes to words and back
pub bytes_of-words_of : (bytes : List ℕ) (n : ℕ) → length bytes ≡ 8 * n → ((i : ℕ) → slice_index bytes i < 256) → bytes_of (words_of bytes) ≡ bytes
bytes_of-words_of bytes n many fits =
    let words = length-words_of bytes in
    let all = length-bytes_of (words_of bytes) in
    let same : length (bytes_of (words_of bytes)) ≡ length bytes = omega (arith, many, words, all) in
    ext_get_or 0 (bytes_of (words_of bytes)) bytes same (λ m below.
    let i = m / 8 in
    let part = slice_range bytes (8 * i) (8 * i + 8) in
    let place : 8 * i + m % 8 ≡ m = omega arith in
    let small : m % 8 < 8 = omega arith in
    let eight : length part ≡ 8 = length-take-le (8 * i + 8 - 8 * i) (drop (8 * i) bytes) (omega (arith, length-drop (8 * i) bytes, many, same)) ∙ omega arith in
    let part_fits : (k : ℕ) → slice_index part k < 256 = λ k. elim (cases_lt k 8) [
      | inl under ↦ rw (get_or-part bytes (8 * i) 8 k under) (fits (8 * i + k))
      | inr over ↦ rw (get_or_past part k 0 (omega (arith, eight))) (omega arith)
    ] in
    let back = le_bytes_8 part (from_le_bytes w64 part) eight part_fits refl in
    get_or-bytes_of (words_of bytes) m
    ∙ ap (λ x. byte_at (m % 8) x) (get_or-words_of bytes i (omega (arith, many, same)))
    ∙ sym (get_or-bytes 0 8 (from_le_bytes w64 part) (m % 8) small ∙ ap (λ k. byte_at k (from_le_bytes w64 part)) (omega arith))
    ∙ ap (λ (b : List ℕ). slice_index b (m % 8)) back
    ∙ get_or-part bytes (8 * i) 8 (m % 8) small
    ∙ ap (λ k. slice_index bytes k) place)
