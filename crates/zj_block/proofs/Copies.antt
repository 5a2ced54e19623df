-- A block read from its bytes and written to them, word by word.
use Rattle.std.proofs.Common.{◌≡◌, ℕ, ◌+◌, ◌-◌, ◌*◌, ◌<◌, List, ◌++◌, length, set, take, drop, slice_index, sym, ap, ◌∙◌, inl, inr, arith}
use borrow.Rule.Slice.PartMut.{put_mid, post_of}
use Rattle.std.proofs.lemmas.Bool.{cases_lt, cases_eq}
use Rattle.std.proofs.lemmas.List.{ext_get_or, get_or-append_right, get_or-drop, get_or-set_other, get_or-set_same, get_or-take, get_or_append_left, length-append, length-drop, length-set, length-take, length-take-le}
use Rattle.std.specs.List.{slice_range}
use Rattle.std.specs.Int.{byte_at, from_le_bytes, w64}
use Rattle.byteorder.specs.Endian.{little_bytes, little_number}
use Rattle.byteorder.specs.Numbers.{length-bytes_low_first}
use Rattle.zj_block.specs.Block.{bytes_of, words_of}
use Rattle.zj_block.proofs.Bytes.{get_or-bytes, get_or-part, get_or-words_of, length-bytes_of, length-words_of}
use Rattle.zj_block.proofs.Parts.{byte_of_word}

-- eight bytes tell the number
same_number : (xs ys : List ℕ) → ((i : ℕ) → i < 8 → slice_index xs i ≡ slice_index ys i) → little_number 8 xs ≡ from_le_bytes w64 ys
same_number xs ys same =
    let b0 = same 0 (omega arith) in
    let b1 = same 1 (omega arith) in
    let b2 = same 2 (omega arith) in
    let b3 = same 3 (omega arith) in
    let b4 = same 4 (omega arith) in
    let b5 = same 5 (omega arith) in
    let b6 = same 6 (omega arith) in
    let b7 = same 7 (omega arith) in
    rw (b0, b1, b2, b3, b4, b5, b6, b7) (omega arith)

-- the first word of the bytes from a word's place on
read_word : (bytes : List ℕ) (i : ℕ) → length bytes ≡ 512 → i < 64 → little_number 8 (slice_range bytes (8 * i) 512) ≡ slice_index (words_of bytes) i
read_word bytes i many within =
    same_number (slice_range bytes (8 * i) 512) (slice_range bytes (8 * i) (8 * i + 8)) (λ k below.
    get_or-take (512 - 8 * i) (drop (8 * i) bytes) k 0 (omega arith)
    ∙ get_or-drop (8 * i) bytes k 0
    ∙ sym (get_or-part bytes (8 * i) 8 k below))
    ∙ sym (get_or-words_of bytes i (omega (arith, many)))

-- one more word read
pub read_more : (bytes words : List ℕ) (i word : ℕ) → length bytes ≡ 512 → i < 64 → length words ≡ 64
    → ((k : ℕ) → k < i → slice_index words k ≡ slice_index (words_of bytes) k)
    → word ≡ little_number 8 (slice_range bytes (8 * i) 512)
    → (length (set words i word) ≡ 64) × ((k : ℕ) → k < i + 1 → slice_index (set words i word) k ≡ slice_index (words_of bytes) k)
read_more bytes words i word many within words_many before is = (
  length-set words i word ∙ words_many,
  λ k below. elim (cases_eq k i) [
    | inl here ↦
        ap (λ q. slice_index (set words i word) q) here
        ∙ get_or-set_same words i word 0 (omega (arith, words_many))
        ∙ is ∙ read_word bytes i many within
        ∙ ap (λ q. slice_index (words_of bytes) q) (sym here)
    | inr other ↦ get_or-set_other words i k word 0 other ∙ before k (omega arith)
  ],
)

-- all words read
pub read_all : (bytes words : List ℕ) → length bytes ≡ 512 → length words ≡ 64 → ((k : ℕ) → k < 64 → slice_index words k ≡ slice_index (words_of bytes) k) → words ≡ words_of bytes
read_all bytes words many words_many same =
    ext_get_or 0 words (words_of bytes) (omega (arith, many, words_many, length-words_of bytes)) (λ k below. same k (omega (arith, words_many)))

-- one more word written
pub write_more : (out words new : List ℕ) (i : ℕ) → length out ≡ 512 → length words ≡ 64 → i < 64
    → ((m : ℕ) → m < 8 * i → slice_index out m ≡ slice_index (bytes_of words) m)
    → new ≡ little_bytes 8 (slice_index words i) ++ drop 8 (slice_range out (8 * i) 512)
    → (length (put_mid (8 * i) (512 - 8 * i) out new) ≡ 512) × ((m : ℕ) → m < 8 * (i + 1) → slice_index (put_mid (8 * i) (512 - 8 * i) out new) m ≡ slice_index (bytes_of words) m)
write_more out words new i many words_many within before is =
    let word = slice_index words i in
    let part = slice_range out (8 * i) 512 in
    let part_many = length-take (512 - 8 * i) (drop (8 * i) out) in
    let rest_many = length-drop (8 * i) out in
    let eight = length-bytes_low_first 0 8 word in
    let new_many : length new ≡ 512 - 8 * i =
    ap length is ∙ length-append (little_bytes 8 word) (drop 8 part) ∙ omega (arith, eight, length-drop 8 part, part_many, rest_many, many) in
    let front_many = length-take-le (8 * i) out (omega (arith, many)) in
    let back = post_of (8 * i) (512 - 8 * i) out in
    let back_many : length back ≡ 0 = omega (arith, length-drop (512 - 8 * i) (drop (8 * i) out), rest_many, many) in
    let whole = length-append (take (8 * i) out) (new ++ back) in
    let behind = length-append new back in (
      omega (arith, whole, behind, front_many, new_many, back_many),
      λ m below. elim (cases_lt m (8 * i)) [
        | inl early ↦
            get_or_append_left (take (8 * i) out) (new ++ back) 0 m (omega (arith, front_many))
            ∙ get_or-take (8 * i) out m 0 early
            ∙ before m early
        | inr late ↦
            let k = m - 8 * i in
            let none : 0 + k ≡ k = omega arith in
            let place : 8 * i + k ≡ m = omega arith in
            get_or-append_right (take (8 * i) out) (new ++ back) (8 * i) m 0 front_many late
            ∙ get_or_append_left new back 0 k (omega (arith, new_many))
            ∙ ap (λ (b : List ℕ). slice_index b k) is
            ∙ get_or_append_left (little_bytes 8 word) (drop 8 part) 0 k (omega (arith, eight))
            ∙ get_or-bytes 0 8 word k (omega arith)
            ∙ ap (λ j. byte_at j word) none
            ∙ sym (byte_of_word words i k (omega arith))
            ∙ ap (λ j. slice_index (bytes_of words) j) place
      ],
    )

-- all words written
pub write_all : (out words : List ℕ) → length out ≡ 512 → length words ≡ 64 → ((m : ℕ) → m < 512 → slice_index out m ≡ slice_index (bytes_of words) m) → out ≡ bytes_of words
write_all out words many words_many same =
    ext_get_or 0 out (bytes_of words) (omega (arith, many, words_many, length-bytes_of words)) (λ m below. same m (omega (arith, many)))
