-- Words, bytes and numbers of 32 bits of one block.
use Rattle.std.proofs.Common.{◌≡◌, ℕ, ◌+◌, ◌-◌, ◌*◌, ◌/◌, ◌%◌, ◌^◌, ◌<◌, ◌≤◌, ◌≢◌, List, length, set, drop, replicate, slice_index, ◌&&◌, nat_lt, nat_le, if◌then◌else◌, ◌⊎◌, refl, sym, ap, ◌∙◌, inl, inr, arith}
use Rattle.std.proofs.lemmas.Bool.{cases_lt, cases_eq}
use Rattle.std.proofs.lemmas.List.{ext_get_or, get_or-replicate, get_or-set_other, get_or-set_same, get_or_past, length-set, length-take}
use Rattle.std.specs.List.{slice_range}
use Rattle.std.specs.Int.{byte_at, bytes_low_first, from_le_bytes, to_le_bytes, w32, w64}
use Rattle.std.proofs.lemmas.Bool.Decides.{nat_tests}
use Rattle.byteorder.specs.Numbers.{length-bytes_low_first}
use Rattle.zj_block.specs.Block.{IsBytes, IsContent, bytes_of, overwritten, u32_at, with_bytes_at, words_of, zero_content}
use Rattle.zj_block.proofs.ByteAt.{byte_at-add, byte_at-zero, byte_at_fits, from_le_bytes-same_4}
use Rattle.zj_block.proofs.Bytes.{IsBytes-bytes_of, bytes_of-words_of, bytes_of_fits, get_or-bytes, get_or-bytes_of, get_or-part, get_or-words_of, length-bytes_of, length-overwritten, length-words_of, overwritten_above, overwritten_below, overwritten_within, words_of-bytes_of}

-- the number of 32 bits at a place is told by its four bytes
pub u32_at-bytes : (content : List ℕ) (at x : ℕ) → ((i : ℕ) → i < 4 → slice_index (bytes_of content) (at + i) ≡ byte_at i x) → u32_at content at ≡ x % 2 ^ 32
unfolding u32_at
u32_at-bytes content at x same =
    from_le_bytes-same_4 (slice_range (bytes_of content) at (at + 4)) x (λ i below. get_or-part (bytes_of content) at 4 i below ∙ same i below)

-- four bytes tell the number of 32 bits
same_from_bytes : (xs ys : List ℕ) → ((i : ℕ) → i < 4 → slice_index xs i ≡ slice_index ys i) → from_le_bytes w32 xs ≡ from_le_bytes w32 ys
same_from_bytes xs ys same =
    let b0 = same 0 (omega arith) in
    let b1 = same 1 (omega arith) in
    let b2 = same 2 (omega arith) in
    let b3 = same 3 (omega arith) in
    rw (b0, b1, b2, b3) refl

-- so where its bytes stay, the number stays
pub u32_at_unchanged : (old new : List ℕ) (at : ℕ) → ((i : ℕ) → i < 4 → slice_index (bytes_of new) (at + i) ≡ slice_index (bytes_of old) (at + i)) → u32_at new at ≡ u32_at old at
unfolding u32_at
u32_at_unchanged old new at same =
    same_from_bytes (slice_range (bytes_of new) at (at + 4)) (slice_range (bytes_of old) at (at + 4)) (λ i below.
    get_or-part (bytes_of new) at 4 i below ∙ same i below ∙ sym (get_or-part (bytes_of old) at 4 i below))

-- each word fits
bytes_fit_8 : (xs : List ℕ) → ((i : ℕ) → slice_index xs i < 256) → from_le_bytes w64 xs < 2 ^ 64
bytes_fit_8 xs fits =
    let b0 = fits 0 in
    let b1 = fits 1 in
    let b2 = fits 2 in
    let b3 = fits 3 in
    let b4 = fits 4 in
    let b5 = fits 5 in
    let b6 = fits 6 in
    let b7 = fits 7 in
    omega arith

-- a part has no byte of its own
part_fits : (bytes : List ℕ) (at n : ℕ) → ((i : ℕ) → slice_index bytes i < 256) → (i : ℕ) → slice_index (slice_range bytes at (at + n)) i < 256
part_fits bytes at n fits i = elim (cases_lt i n) [
  | inl below ↦ rw (get_or-part bytes at n i below) (fits (at + i))
  | inr above ↦
      let short : length (slice_range bytes at (at + n)) ≤ i = omega (arith, length-take (at + n - at) (drop at bytes)) in
      rw (get_or_past (slice_range bytes at (at + n)) i 0 short) (omega arith)
]

-- 512 bytes make a content
pub IsContent-words_of : (bytes : List ℕ) → IsBytes bytes → IsContent (words_of bytes)
IsContent-words_of bytes is = record {
  many = omega (arith, length-words_of bytes, is.many);
  fits = λ i. elim (cases_lt i 64) [
    | inl below ↦ rw (get_or-words_of bytes i (omega (arith, is.many))) (bytes_fit_8 (slice_range bytes (8 * i) (8 * i + 8)) (part_fits bytes (8 * i) 8 is.fits))
    | inr above ↦ rw (get_or_past (words_of bytes) i 0 (omega (arith, length-words_of bytes, is.many))) (omega arith)
  ];
}

-- new bytes over some are bytes
pub IsBytes-overwritten : (bytes : List ℕ) (at : ℕ) (new : List ℕ) → IsBytes bytes → at + length new ≤ 512 → ((i : ℕ) → slice_index new i < 256) → IsBytes (overwritten bytes at new)
IsBytes-overwritten bytes at new is within new_fits =
    let inside : at + length new ≤ length bytes = omega (arith, is.many) in
    record {
      many = length-overwritten bytes at new inside ∙ is.many;
      fits = λ m. elim (cases_lt m at) [
        | inl below ↦ rw (overwritten_below bytes at new inside m below) (is.fits m)
        | inr from ↦ elim (cases_lt m (at + length new)) [
          | inl below ↦ rw (overwritten_within bytes at new inside m from below) (new_fits (m - at))
          | inr above ↦ rw (overwritten_above bytes at new inside m above) (is.fits m)
        ]
      ];
    }

-- the bytes of a content with new bytes over some
pub bytes_of-with_bytes_at : (content : List ℕ) (at : ℕ) (new : List ℕ) → IsContent content → at + length new ≤ 512 → ((i : ℕ) → slice_index new i < 256) → bytes_of (with_bytes_at content at new) ≡ overwritten (bytes_of content) at new
unfolding with_bytes_at
bytes_of-with_bytes_at content at new is within fits =
    let bytes = IsBytes-overwritten (bytes_of content) at new (IsBytes-bytes_of content is) within fits in
    bytes_of-words_of (overwritten (bytes_of content) at new) 64 bytes.many bytes.fits

pub IsContent-with_bytes_at : (content : List ℕ) (at : ℕ) (new : List ℕ) → IsContent content → at + length new ≤ 512 → ((i : ℕ) → slice_index new i < 256) → IsContent (with_bytes_at content at new)
unfolding with_bytes_at
IsContent-with_bytes_at content at new is within fits =
    IsContent-words_of (overwritten (bytes_of content) at new) (IsBytes-overwritten (bytes_of content) at new (IsBytes-bytes_of content is) within fits)

-- a content with these bytes is the one with new bytes over some
pub with_bytes_at-is : (old new : List ℕ) (at : ℕ) (bytes : List ℕ) → IsContent new → bytes_of new ≡ overwritten (bytes_of old) at bytes → new ≡ with_bytes_at old at bytes
unfolding with_bytes_at
with_bytes_at-is old new at bytes is same = sym (words_of-bytes_of new is.fits) ∙ ap words_of same

-- a content with one word set
pub bytes_of-set : (content : List ℕ) (i word : ℕ) → i < length content → bytes_of (set content i word) ≡ overwritten (bytes_of content) (8 * i) (to_le_bytes w64 word)
bytes_of-set content i word within =
    let many = length-bytes_of content in
    let new_many = length-bytes_of (set content i word) in
    let set_many = length-set content i word in
    let inside : 8 * i + 8 ≤ length (bytes_of content) = omega (arith, many) in
    let whole = length-overwritten (bytes_of content) (8 * i) (to_le_bytes w64 word) inside in
    ext_get_or 0 (bytes_of (set content i word)) (overwritten (bytes_of content) (8 * i) (to_le_bytes w64 word)) (omega (arith, many, new_many, set_many, whole)) (λ m below.
    get_or-bytes_of (set content i word) m ∙ elim (cases_eq (m / 8) i) [
      | inl here ↦
          let k : m - 8 * i ≡ m % 8 = omega arith in
          let none : 0 + m % 8 ≡ m % 8 = omega arith in
          let k_fits : m % 8 < 8 = omega arith in
          let word_here : slice_index (set content i word) (m / 8) ≡ word = ap (λ q. slice_index (set content i word) q) here ∙ get_or-set_same content i word 0 within in
          ap (λ x. byte_at (m % 8) x) word_here
          ∙ sym (overwritten_within (bytes_of content) (8 * i) (to_le_bytes w64 word) inside m (omega arith) (omega arith)
          ∙ ap (λ j. slice_index (to_le_bytes w64 word) j) k
          ∙ get_or-bytes 0 8 word (m % 8) k_fits
          ∙ ap (λ j. byte_at j word) none)
      | inr other ↦
          ap (λ x. byte_at (m % 8) x) (get_or-set_other content i (m / 8) word 0 other)
          ∙ sym (elim (cases_lt m (8 * i)) [
            | inl before ↦ overwritten_below (bytes_of content) (8 * i) (to_le_bytes w64 word) inside m before ∙ get_or-bytes_of content m
            | inr behind ↦ overwritten_above (bytes_of content) (8 * i) (to_le_bytes w64 word) inside m (omega arith) ∙ get_or-bytes_of content m
          ])
    ])

-- a word is its two halves
pub u32_at-low : (content : List ℕ) (i : ℕ) → u32_at content (8 * i) ≡ slice_index content i % 2 ^ 32
u32_at-low content i = u32_at-bytes content (8 * i) (slice_index content i) (λ k below.
    let r : (8 * i + k) % 8 ≡ k = omega arith in
    let q : (8 * i + k) / 8 ≡ i = omega arith in
    get_or-bytes_of content (8 * i + k) ∙ rw (r, q) refl)

pub u32_at-high : (content : List ℕ) (i : ℕ) → u32_at content (8 * i + 4) ≡ slice_index content i / 2 ^ 32 % 2 ^ 32
u32_at-high content i = u32_at-bytes content (8 * i + 4) (slice_index content i / 2 ^ 32) (λ k below.
    let r : (8 * i + 4 + k) % 8 ≡ 4 + k = omega arith in
    let q : (8 * i + 4 + k) / 8 ≡ i = omega arith in
    get_or-bytes_of content (8 * i + 4 + k) ∙ rw (r, q) (byte_at-add 4 k (slice_index content i)))

pub word_of_halves : (content : List ℕ) (i : ℕ) → IsContent content → slice_index content i ≡ u32_at content (8 * i) + 2 ^ 32 * u32_at content (8 * i + 4)
word_of_halves content i is = rw (u32_at-low content i, u32_at-high content i) (omega (arith, is.fits i))

-- a number of 32 bits that was put is the one found there, and a part of which no byte was put stays
module _ (old new : List ℕ) (at : ℕ) (is : IsContent old) (within : at + 4 ≤ 512) where
  inside : (v : ℕ) → at + length (to_le_bytes w32 v) ≤ length (bytes_of old)
  inside v = omega (arith, is.many, length-bytes_of old)

  pub u32_at_put : (v : ℕ) → v < 2 ^ 32 → bytes_of new ≡ overwritten (bytes_of old) at (to_le_bytes w32 v) → u32_at new at ≡ v
  u32_at_put v fits same =
      u32_at-bytes new at v (λ k below.
      let place : at + k - at ≡ k = omega arith in
      let none : 0 + k ≡ k = omega arith in
      ap (λ (b : List ℕ). slice_index b (at + k)) same
      ∙ overwritten_within (bytes_of old) at (to_le_bytes w32 v) (inside v) (at + k) (omega arith) (omega arith)
      ∙ rw place (get_or-bytes 0 4 v k below ∙ ap (λ j. byte_at j v) none))
      ∙ omega arith

  pub u32_at_apart : (v other : ℕ) → (other + 4 ≤ at) ⊎ (at + 4 ≤ other) → bytes_of new ≡ overwritten (bytes_of old) at (to_le_bytes w32 v) → u32_at new other ≡ u32_at old other
  u32_at_apart v other apart same = u32_at_unchanged old new other (λ i below.
      ap (λ (b : List ℕ). slice_index b (other + i)) same ∙ elim apart [
        | inl before ↦ overwritten_below (bytes_of old) at (to_le_bytes w32 v) (inside v) (other + i) (omega arith)
        | inr behind ↦ overwritten_above (bytes_of old) at (to_le_bytes w32 v) (inside v) (other + i) (omega arith)
      ])

-- what a block of zeros has
pub word-zero : (i : ℕ) → slice_index zero_content i ≡ 0
unfolding zero_content
word-zero i = elim (cases_lt i 64) [
  | inl below ↦ get_or-replicate {A = ℕ} 64 i 0 0 below
  | inr above ↦ get_or_past {X = ℕ} (replicate 64 0) i 0 above
]

pub IsContent-zero : IsContent zero_content
unfolding zero_content
IsContent-zero = record { many = refl; fits = λ i. rw (word-zero i) (omega arith) }

pub byte-zero : (m : ℕ) → slice_index (bytes_of zero_content) m ≡ 0
byte-zero m = get_or-bytes_of zero_content m ∙ ap (λ x. byte_at (m % 8) x) (word-zero (m / 8)) ∙ byte_at-zero (m % 8)

pub u32_at-zero : (at : ℕ) → u32_at zero_content at ≡ 0
u32_at-zero at = u32_at-bytes zero_content at 0 (λ i below. byte-zero (at + i) ∙ sym (byte_at-zero i))

-- each byte of a number is one
pub number_bytes_fit : (n v i : ℕ) → slice_index (bytes_low_first 0 n v) i < 256
number_bytes_fit n v i = elim (cases_lt i n) [
  | inl below ↦ rw (get_or-bytes 0 n v i below) (byte_at_fits (0 + i) v)
  | inr above ↦ rw (get_or_past (bytes_low_first 0 n v) i 0 (omega (arith, length-bytes_low_first 0 n v))) (omega arith)
]

-- a number of 32 bits has them
pub u32_at_fits : (content : List ℕ) (at : ℕ) → u32_at content at < 2 ^ 32
unfolding u32_at
u32_at_fits content at =
    let fits = part_fits (bytes_of content) at 4 (bytes_of_fits content) in
    let b0 = fits 0 in
    let b1 = fits 1 in
    let b2 = fits 2 in
    let b3 = fits 3 in
    omega arith

-- a number that was put into a content
module _ (content : List ℕ) (at number : ℕ) (is : IsContent content) (within : at + 4 ≤ 512) where
  pub bytes_with_number : bytes_of (with_bytes_at content at (to_le_bytes w32 number)) ≡ overwritten (bytes_of content) at (to_le_bytes w32 number)
  bytes_with_number = bytes_of-with_bytes_at content at (to_le_bytes w32 number) is within (number_bytes_fit 4 number)

  pub IsContent-with_number : IsContent (with_bytes_at content at (to_le_bytes w32 number))
  IsContent-with_number = IsContent-with_bytes_at content at (to_le_bytes w32 number) is within (number_bytes_fit 4 number)

  pub number_found : number < 2 ^ 32 → u32_at (with_bytes_at content at (to_le_bytes w32 number)) at ≡ number
  number_found fits = u32_at_put content (with_bytes_at content at (to_le_bytes w32 number)) at is within number fits bytes_with_number

  pub number_apart : (other : ℕ) → (other + 4 ≤ at) ⊎ (at + 4 ≤ other) → u32_at (with_bytes_at content at (to_le_bytes w32 number)) other ≡ u32_at content other
  number_apart other apart = u32_at_apart content (with_bytes_at content at (to_le_bytes w32 number)) at is within number other apart bytes_with_number

-- places of four that differ lie apart
fours_apart : (j k : ℕ) → k ≢ j → (4 * k + 4 ≤ 4 * j) ⊎ (4 * j + 4 ≤ 4 * k)
fours_apart j k other = elim (cases_lt k j) [
  | inl below ↦ inl (omega arith)
  | inr above ↦ inr (omega arith)
]

pub number_elsewhere : (content : List ℕ) (j k number : ℕ) → IsContent content → j < 128 → k ≢ j → u32_at (with_bytes_at content (4 * j) (to_le_bytes w32 number)) (4 * k) ≡ u32_at content (4 * k)
number_elsewhere content j k number is within other = number_apart content (4 * j) number is (omega arith) (4 * k) (fours_apart j k other)

pub word_elsewhere : (content : List ℕ) (j i number : ℕ) → IsContent content → j < 128 → i < 64 → i ≢ j / 2 → slice_index (with_bytes_at content (4 * j) (to_le_bytes w32 number)) i ≡ slice_index content i
word_elsewhere content j i number is within i_within other =
    let new = with_bytes_at content (4 * j) (to_le_bytes w32 number) in
    let new_is = IsContent-with_number content (4 * j) number is (omega arith) in
    let low_place : 4 * (2 * i) ≡ 8 * i = omega arith in
    let high_place : 4 * (2 * i + 1) ≡ 8 * i + 4 = omega arith in
    let low = rw low_place at (number_elsewhere content j (2 * i) number is within (λ same. other (omega arith))) in
    let high = rw high_place at (number_elsewhere content j (2 * i + 1) number is within (λ same. other (omega arith))) in
    omega (arith, word_of_halves new i new_is, word_of_halves content i is, low, high)

-- a word that is set leaves the numbers apart from it
pub number_off_word : (content : List ℕ) (i word other : ℕ) → IsContent content → i < 64 → (other + 4 ≤ 8 * i) ⊎ (8 * i + 8 ≤ other) → u32_at (set content i word) other ≡ u32_at content other
number_off_word content i word other is within apart =
    let inside : 8 * i + 8 ≤ length (bytes_of content) = omega (arith, is.many, length-bytes_of content) in
    u32_at_unchanged content (set content i word) other (λ k below.
    ap (λ (b : List ℕ). slice_index b (other + k)) (bytes_of-set content i word (omega (arith, is.many))) ∙ elim apart [
      | inl before ↦ overwritten_below (bytes_of content) (8 * i) (to_le_bytes w64 word) inside (other + k) (omega arith)
      | inr behind ↦ overwritten_above (bytes_of content) (8 * i) (to_le_bytes w64 word) inside (other + k) (omega arith)
    ])

-- which byte stands where
pub get_or-overwritten : (bytes : List ℕ) (at : ℕ) (new : List ℕ) (m : ℕ) → at + length new ≤ length bytes
    → slice_index (overwritten bytes at new) m ≡ (if nat_le at m && nat_lt m (at + length new) then slice_index new (m - at) else slice_index bytes m)
get_or-overwritten bytes at new m within = elim (cases_lt m at) [
  | inl below ↦ grind (arith, nat_tests, overwritten_below bytes at new within m below)
  | inr from ↦ elim (cases_lt m (at + length new)) [
    | inl below ↦ grind (arith, nat_tests, overwritten_within bytes at new within m from below)
    | inr above ↦ grind (arith, nat_tests, overwritten_above bytes at new within m above)
  ]
]
