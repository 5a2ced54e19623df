-- Reading and writing a few bytes of a block by its words.
use Rattle.std.proofs.Common.{◌≡◌, ℕ, ◌+◌, ◌-◌, ◌*◌, ◌/◌, ◌%◌, ◌^◌, ◌<◌, ◌≤◌, List, [], ◌∷◌, ◌++◌, length, set, slice_get, slice_index, Some, None, bit_and, refl, sym, ap, ◌∙◌, inl, inr, arith}
use Rattle.std.proofs.Math.Nat.{mod-eq_of_lt, mul-le-mul_right, pow-le-pow_right}
use Rattle.std.proofs.lemmas.Bool.{cases_lt, cases_eq}
use Rattle.std.proofs.lemmas.List.{ext_get_or, get_or-append_right, get_or-set_other, get_or-set_same, get_or_append_left, length-append, length-set}
use Rattle.std.proofs.lemmas.Nat.{and_mask, mod_below, mod_low, mul-add-lt, one_shl, pow_pos, shl_whole, shr_below, shr_high, shr_split}
use Rattle.std.proofs.lemmas.Option.{get_or_from_slice_get, none-some, slice_get-get_or, slice_get_past, slice_get_within}
use Rattle.std.specs.Int.{byte_at, bytes_low_first}
use Rattle.byteorder.specs.Numbers.{length-bytes_low_first}
use Rattle.zj_block.specs.Block.{bytes_of, overwritten}
use Rattle.zj_block.proofs.ByteAt.{byte_at-add, byte_at-bits, byte_at-mod, byte_at_below, put_above, put_below, put_fits, put_within, with_field}
use Rattle.zj_block.proofs.Bytes.{get_or-bytes, get_or-bytes_of, length-bytes_of, length-overwritten, overwritten_above, overwritten_below, overwritten_within}

-- the bytes of two numbers, one above the other
pub byte_at-joined_low : (low high n k : ℕ) → low < 2 ^ (8 * n) → k < n → byte_at k (high * 2 ^ (8 * n) + low) ≡ byte_at k low
byte_at-joined_low low high n k fits below =
    byte_at_below n k (high * 2 ^ (8 * n) + low) low below (mod_low high (8 * n) low fits ∙ sym (mod-eq_of_lt fits))

pub byte_at-joined_high : (low high n k : ℕ) → low < 2 ^ (8 * n) → byte_at (n + k) (high * 2 ^ (8 * n) + low) ≡ byte_at k high
byte_at-joined_high low high n k fits =
    byte_at-add n k (high * 2 ^ (8 * n) + low) ∙ ap (λ x. byte_at k x) (shr_high high (8 * n) low fits)

-- a part of a word that is read over
pub byte_of_word : (content : List ℕ) (i k : ℕ) → k < 8 → slice_index (bytes_of content) (8 * i + k) ≡ byte_at k (slice_index content i)
byte_of_word content i k below =
    let r : (8 * i + k) % 8 ≡ k = omega arith in
    let q : (8 * i + k) / 8 ≡ i = omega arith in
    get_or-bytes_of content (8 * i + k) ∙ rw (r, q) refl

-- the bytes from one within a word
pub window_in_word : (content : List ℕ) (at k : ℕ) → at % 8 + k < 8 → byte_at k (slice_index content (at / 8) / 2 ^ (8 * (at % 8))) ≡ slice_index (bytes_of content) (at + k)
window_in_word content at k below =
    let place : 8 * (at / 8) + (at % 8 + k) ≡ at + k = omega arith in
    sym (byte_at-add (at % 8) k (slice_index content (at / 8)))
    ∙ sym (byte_of_word content (at / 8) (at % 8 + k) below)
    ∙ ap (λ m. slice_index (bytes_of content) m) place

-- the bytes from one within a word on, over its end
pub window_over_end : (content : List ℕ) (at k : ℕ) → slice_index content (at / 8) < 2 ^ 64 → 4 < at % 8 → k < 4
    → byte_at k (slice_index content (at / 8 + 1) % 2 ^ 32 * 2 ^ (8 * (8 - at % 8)) + slice_index content (at / 8) / 2 ^ (8 * (at % 8))) ≡ slice_index (bytes_of content) (at + k)
window_over_end content at k fits late few =
    let n = 8 - at % 8 in
    let low = slice_index content (at / 8) / 2 ^ (8 * (at % 8)) in
    let high = slice_index content (at / 8 + 1) % 2 ^ 32 in
    let bits : 64 ≡ 8 * (8 - at % 8) + 8 * (at % 8) = omega arith in
    let low_fits : low < 2 ^ (8 * n) = shr_below (slice_index content (at / 8)) (8 * n) (8 * (at % 8)) (rw (← bits) fits) in
    elim (cases_lt k n) [
      | inl below ↦ byte_at-joined_low low high n k low_fits below ∙ window_in_word content at k (omega arith)
      | inr above ↦
          let j = k - n in
          let k_is : k ≡ n + j = omega arith in
          let place : 8 * (at / 8 + 1) + j ≡ at + k = omega arith in
          ap (λ m. byte_at m (high * 2 ^ (8 * n) + low)) k_is
          ∙ byte_at-joined_high low high n j low_fits
          ∙ byte_at-mod 4 j (slice_index content (at / 8 + 1)) (omega arith)
          ∙ sym (byte_of_word content (at / 8 + 1) j (omega arith))
          ∙ ap (λ m. slice_index (bytes_of content) m) place
    ]

-- a part of a word that is written over
module _ (w from count v : ℕ) where
  v_fits : v % 2 ^ (8 * count) < 2 ^ (8 * count)
  v_fits = mod_below v (2 ^ (8 * count)) (pow_pos (8 * count))

  pub part_below : (k : ℕ) → k < from → byte_at k (with_field w (8 * from) (8 * count) (v % 2 ^ (8 * count))) ≡ byte_at k w
  part_below k below = byte_at_below from k _ w below (put_below w (8 * from) (8 * count) (v % 2 ^ (8 * count)) v_fits)

  pub part_within : (k : ℕ) → k < count → byte_at (from + k) (with_field w (8 * from) (8 * count) (v % 2 ^ (8 * count))) ≡ byte_at k v
  part_within k below =
      byte_at-add from k (with_field w (8 * from) (8 * count) (v % 2 ^ (8 * count)))
      ∙ byte_at_below count k _ v below (put_within w (8 * from) (8 * count) (v % 2 ^ (8 * count)) v_fits)

  pub part_above : (k : ℕ) → from + count ≤ k → byte_at k (with_field w (8 * from) (8 * count) (v % 2 ^ (8 * count))) ≡ byte_at k w
  part_above k above =
      let j = k - (from + count) in
      let k_is : k ≡ (from + count) + j = omega arith in
      let bits : 8 * (from + count) ≡ 8 * from + 8 * count = omega arith in
      let new = with_field w (8 * from) (8 * count) (v % 2 ^ (8 * count)) in
      let high : new / 2 ^ (8 * (from + count)) ≡ w / 2 ^ (8 * (from + count)) = rw bits (put_above w (8 * from) (8 * count) (v % 2 ^ (8 * count)) v_fits) in
      let moved : byte_at (from + count + j) new ≡ byte_at (from + count + j) w =
      byte_at-add (from + count) j new ∙ ap (λ x. byte_at j x) high ∙ sym (byte_at-add (from + count) j w) in
      rw k_is moved

-- a word written whose other bytes stay
pub bytes_of-put : (old : List ℕ) (i from count v word : ℕ) → i < length old → from + count ≤ 8
    → ((k : ℕ) → k < from → byte_at k word ≡ byte_at k (slice_index old i))
    → ((k : ℕ) → k < count → byte_at (from + k) word ≡ byte_at k v)
    → ((k : ℕ) → from + count ≤ k → byte_at k word ≡ byte_at k (slice_index old i))
    → bytes_of (set old i word) ≡ overwritten (bytes_of old) (8 * i + from) (bytes_low_first 0 count v)
bytes_of-put old i from count v word within inside below part above =
    let new = set old i word in
    let bytes = bytes_low_first 0 count v in
    let many = length-bytes_of old in
    let new_many = length-bytes_of new in
    let set_many = length-set old i word in
    let count_is = length-bytes_low_first 0 count v in
    let room : 8 * i + from + length bytes ≤ length (bytes_of old) = omega (arith, many, count_is) in
    let whole = length-overwritten (bytes_of old) (8 * i + from) bytes room in
    ext_get_or 0 (bytes_of new) (overwritten (bytes_of old) (8 * i + from) bytes) (omega (arith, many, new_many, set_many, whole)) (λ m in_range.
    get_or-bytes_of new m ∙ elim (cases_eq (m / 8) i) [
      | inl here ↦
          let word_here : slice_index new (m / 8) ≡ word = ap (λ q. slice_index new q) here ∙ get_or-set_same old i word 0 within in
          let old_here : byte_at (m % 8) (slice_index old i) ≡ slice_index (bytes_of old) m = ap (λ q. byte_at (m % 8) (slice_index old q)) (sym here) ∙ sym (get_or-bytes_of old m) in
          ap (λ x. byte_at (m % 8) x) word_here ∙ elim (cases_lt (m % 8) from) [
            | inl before ↦ below (m % 8) before ∙ old_here ∙ sym (overwritten_below (bytes_of old) (8 * i + from) bytes room m (omega arith))
            | inr from_on ↦ elim (cases_lt (m % 8) (from + count)) [
              | inl among ↦
                  let k = m % 8 - from in
                  let at : from + k ≡ m % 8 = omega arith in
                  let place : m - (8 * i + from) ≡ k = omega arith in
                  let none : 0 + k ≡ k = omega arith in
                  ap (λ j. byte_at j word) (sym at)
                  ∙ part k (omega arith)
                  ∙ sym (overwritten_within (bytes_of old) (8 * i + from) bytes room m (omega arith) (omega (arith, count_is))
                  ∙ ap (λ j. slice_index bytes j) place
                  ∙ get_or-bytes 0 count v k (omega arith)
                  ∙ ap (λ j. byte_at j v) none)
              | inr behind ↦ above (m % 8) behind ∙ old_here ∙ sym (overwritten_above (bytes_of old) (8 * i + from) bytes room m (omega (arith, count_is)))
            ]
          ]
      | inr other ↦
          ap (λ x. byte_at (m % 8) x) (get_or-set_other old i (m / 8) word 0 other)
          ∙ sym (get_or-bytes_of old m)
          ∙ sym (elim (cases_lt m (8 * i)) [
            | inl before ↦ overwritten_below (bytes_of old) (8 * i + from) bytes room m (omega arith)
            | inr behind ↦ overwritten_above (bytes_of old) (8 * i + from) bytes room m (omega (arith, count_is))
          ])
    ])

-- bytes written in two steps, one behind the other
pub overwritten-overwritten : (bytes : List ℕ) (at : ℕ) (xs ys : List ℕ) → at + length xs + length ys ≤ length bytes → overwritten (overwritten bytes at xs) (at + length xs) ys ≡ overwritten bytes at (xs ++ ys)
overwritten-overwritten bytes at xs ys within =
    let first = overwritten bytes at xs in
    let both = length-append xs ys in
    let room_first : at + length xs ≤ length bytes = omega arith in
    let first_many = length-overwritten bytes at xs room_first in
    let room_second : at + length xs + length ys ≤ length first = omega (arith, first_many) in
    let second_many = length-overwritten first (at + length xs) ys room_second in
    let room_both : at + length (xs ++ ys) ≤ length bytes = omega (arith, both) in
    let both_many = length-overwritten bytes at (xs ++ ys) room_both in
    ext_get_or 0 (overwritten first (at + length xs) ys) (overwritten bytes at (xs ++ ys)) (omega (arith, first_many, second_many, both_many)) (λ m in_range.
    elim (cases_lt m at) [
      | inl before ↦
          overwritten_below first (at + length xs) ys room_second m (omega arith)
          ∙ overwritten_below bytes at xs room_first m before
          ∙ sym (overwritten_below bytes at (xs ++ ys) room_both m before)
      | inr from_on ↦ elim (cases_lt m (at + length xs)) [
        | inl in_first ↦
            overwritten_below first (at + length xs) ys room_second m in_first
            ∙ overwritten_within bytes at xs room_first m from_on in_first
            ∙ sym (get_or_append_left xs ys 0 (m - at) (omega arith))
            ∙ sym (overwritten_within bytes at (xs ++ ys) room_both m from_on (omega (arith, both)))
        | inr behind_first ↦ elim (cases_lt m (at + length xs + length ys)) [
          | inl in_second ↦
              let place : m - at - length xs ≡ m - (at + length xs) = omega arith in
              overwritten_within first (at + length xs) ys room_second m behind_first in_second
              ∙ ap (λ j. slice_index ys j) (sym place)
              ∙ sym (get_or-append_right xs ys (length xs) (m - at) 0 refl (omega arith))
              ∙ sym (overwritten_within bytes at (xs ++ ys) room_both m from_on (omega (arith, both)))
          | inr behind ↦
              overwritten_above first (at + length xs) ys room_second m behind
              ∙ overwritten_above bytes at xs room_first m behind_first
              ∙ sym (overwritten_above bytes at (xs ++ ys) room_both m (omega (arith, both)))
        ]
      ]
    ])

-- the lowest bytes of a number, cut in two
pub bytes_cut : (n m v : ℕ) → bytes_low_first 0 n v ++ bytes_low_first 0 m (v / 2 ^ (8 * n)) ≡ bytes_low_first 0 (n + m) v
bytes_cut n m v =
    let xs = bytes_low_first 0 n v in
    let ys = bytes_low_first 0 m (v / 2 ^ (8 * n)) in
    let first = length-bytes_low_first 0 n v in
    let second = length-bytes_low_first 0 m (v / 2 ^ (8 * n)) in
    let both = length-append xs ys in
    let all = length-bytes_low_first 0 (n + m) v in
    ext_get_or 0 (xs ++ ys) (bytes_low_first 0 (n + m) v) (omega (arith, first, second, both, all)) (λ k in_range.
    let k_none : 0 + k ≡ k = omega arith in
    let whole = get_or-bytes 0 (n + m) v k (omega (arith, first, second, both)) ∙ ap (λ j. byte_at j v) k_none in
    elim (cases_lt k n) [
      | inl below ↦
          get_or_append_left xs ys 0 k (omega (arith, first)) ∙ get_or-bytes 0 n v k below ∙ ap (λ j. byte_at j v) k_none ∙ sym whole
      | inr above ↦
          let j_none : 0 + (k - n) ≡ k - n = omega arith in
          let place : n + (k - n) ≡ k = omega arith in
          get_or-append_right xs ys n k 0 first above
          ∙ get_or-bytes 0 m (v / 2 ^ (8 * n)) (k - n) (omega (arith, first, second, both))
          ∙ ap (λ j. byte_at j (v / 2 ^ (8 * n))) j_none
          ∙ sym (byte_at-add n (k - n) v)
          ∙ ap (λ j. byte_at j v) place
          ∙ sym whole
    ])

-- shifts and masks as they stand in the code
masked : (x n : ℕ) → n < 8 → bit_and x (1 * 2 ^ (8 * n) % 2 ^ 64 - 1) ≡ x % 2 ^ (8 * n)
masked x n few =
    let bits : 8 * n < 64 = omega arith in
    rw (one_shl (8 * n) 64 bits) (and_mask x (8 * n))

moved : (x n a : ℕ) → a + n ≤ 8 → (x % 2 ^ (8 * n)) * 2 ^ (8 * a) % 2 ^ 64 ≡ (x % 2 ^ (8 * n)) * 2 ^ (8 * a)
moved x n a within = shl_whole (x % 2 ^ (8 * n)) (8 * n) (8 * a) 64 (mod_below x (2 ^ (8 * n)) (pow_pos (8 * n))) (omega arith)

-- a part is no more than its number
field_le : (x s m : ℕ) → (x / 2 ^ s % 2 ^ m) * 2 ^ s ≤ x
field_le x s m =
    let part : x / 2 ^ s % 2 ^ m ≤ x / 2 ^ s = omega (arith, shr_split (x / 2 ^ s) m) in
    let product = mul-le-mul_right (2 ^ s) part in
    omega (arith, product, shr_split x s)

module _ (w a n v : ℕ) (within : a + n ≤ 8) (few : n ≤ 4) where
  -- what the code computes is the word with the part
  pub with_part_is : w - bit_and (w / 2 ^ (8 * a)) (1 * 2 ^ (8 * n) % 2 ^ 64 - 1) * 2 ^ (8 * a) % 2 ^ 64 + bit_and v (1 * 2 ^ (8 * n) % 2 ^ 64 - 1) * 2 ^ (8 * a) % 2 ^ 64 ≡ with_field w (8 * a) (8 * n) (v % 2 ^ (8 * n))
  with_part_is =
      let old_mask = masked (w / 2 ^ (8 * a)) n (omega arith) in
      let new_mask = masked v n (omega arith) in
      let old_moved = moved (w / 2 ^ (8 * a)) n a within in
      let new_moved = moved v n a within in
      rw (old_mask, new_mask, old_moved, new_moved) refl

  pub old_part_le : bit_and (w / 2 ^ (8 * a)) (1 * 2 ^ (8 * n) % 2 ^ 64 - 1) * 2 ^ (8 * a) % 2 ^ 64 ≤ w
  old_part_le =
      let old_mask = masked (w / 2 ^ (8 * a)) n (omega arith) in
      let old_moved = moved (w / 2 ^ (8 * a)) n a within in
      rw (old_mask, old_moved) (field_le w (8 * a) (8 * n))

  pub with_part_fits : w < 2 ^ 64 → w - bit_and (w / 2 ^ (8 * a)) (1 * 2 ^ (8 * n) % 2 ^ 64 - 1) * 2 ^ (8 * a) % 2 ^ 64 + bit_and v (1 * 2 ^ (8 * n) % 2 ^ 64 - 1) * 2 ^ (8 * a) % 2 ^ 64 < 2 ^ 64
  with_part_fits fits = rw with_part_is (put_fits w (8 * a) (8 * n) (v % 2 ^ (8 * n)) (mod_below v (2 ^ (8 * n)) (pow_pos (8 * n))) (omega arith) fits)

-- two words joined, as they stand in the code
module _ (high low r : ℕ) (late : 4 < r) (inside : r < 8) where
  pub joined_is : bit_and high 4294967295 * 2 ^ (8 * (8 - r)) % 2 ^ 64 + low / 2 ^ (8 * r) ≡ high % 2 ^ 32 * 2 ^ (8 * (8 - r)) + low / 2 ^ (8 * r)
  joined_is =
      let mask = and_mask high 32 in
      let shift = shl_whole (high % 2 ^ 32) 32 (8 * (8 - r)) 64 (omega arith) (omega arith) in
      rw (mask, shift) refl

  pub joined_fits : low < 2 ^ 64 → bit_and high 4294967295 * 2 ^ (8 * (8 - r)) % 2 ^ 64 + low / 2 ^ (8 * r) < 2 ^ 64
  joined_fits fits =
      let bits : 64 ≡ 8 * (8 - r) + 8 * r = omega arith in
      let low_fits : low / 2 ^ (8 * r) < 2 ^ (8 * (8 - r)) = shr_below low (8 * (8 - r)) (8 * r) (rw (← bits) fits) in
      let high_fits : high % 2 ^ 32 < 2 ^ 32 = omega arith in
      let both = mul-add-lt (high % 2 ^ 32) (2 ^ (8 * (8 - r))) (low / 2 ^ (8 * r)) (2 ^ 32) high_fits low_fits in
      let top : 8 * (8 - r) ≤ 24 = omega arith in
      let small : 2 ^ (8 * (8 - r)) ≤ 2 ^ 24 = pow-le-pow_right {n = 2} (omega arith) {i = 8 * (8 - r)} {j = 24} top in
      rw joined_is (omega (arith, both, small))

-- a byte that is looked up is one of a word that is looked up
pub byte_found : (content : List ℕ) (at word : ℕ) → slice_get content (at / 8) ≡ Some word → slice_get (bytes_of content) at ≡ Some (word / 2 ^ (8 * (at % 8)) % 256)
byte_found content at word found =
    let within = slice_get_within content (at / 8) word found in
    let many = length-bytes_of content in
    let read = get_or_from_slice_get content (at / 8) word 0 found in
    let byte : slice_index (bytes_of content) at ≡ word / 2 ^ (8 * (at % 8)) % 256 =
    get_or-bytes_of content at ∙ ap (λ w. byte_at (at % 8) w) read ∙ byte_at-bits (at % 8) word in
    slice_get-get_or (bytes_of content) at 0 (omega (arith, many)) ∙ ap (λ b. Some b) byte

pub byte_absent : (content : List ℕ) (at : ℕ) → slice_get content (at / 8) ≡ None → slice_get (bytes_of content) at ≡ None
byte_absent content at absent = elim (cases_lt (at / 8) (length content)) [
  | inl within ↦ absurd (none-some (slice_index content (at / 8)) (sym absent ∙ slice_get-get_or content (at / 8) 0 within))
  | inr past ↦ slice_get_past (bytes_of content) at (omega (arith, length-bytes_of content))
]

-- one byte
pub single_byte : (v : ℕ) → v < 256 → bytes_low_first 0 1 v ≡ v ∷ []
single_byte v fits = ap (λ b. b ∷ []) (mod-eq_of_lt fits)

-- bytes put in two steps, over the end of a word
pub put_in_two : (before between after : List ℕ) (at n v : ℕ) → at + 4 ≤ length before → n ≤ 4
    → between ≡ overwritten before at (bytes_low_first 0 n v)
    → after ≡ overwritten between (at + n) (bytes_low_first 0 (4 - n) (v / 2 ^ (8 * n)))
    → after ≡ overwritten before at (bytes_low_first 0 4 v)
put_in_two before between after at n v inside few first second =
    let xs = bytes_low_first 0 n v in
    let ys = bytes_low_first 0 (4 - n) (v / 2 ^ (8 * n)) in
    let xs_many = length-bytes_low_first 0 n v in
    let ys_many = length-bytes_low_first 0 (4 - n) (v / 2 ^ (8 * n)) in
    let whole : n + (4 - n) ≡ 4 = omega arith in
    let place : at + n ≡ at + length xs = ap (λ k. at + k) (sym xs_many) in
    let all : xs ++ ys ≡ bytes_low_first 0 4 v = bytes_cut n (4 - n) v ∙ ap (λ k. bytes_low_first 0 k v) whole in
    second
    ∙ ap (λ b. overwritten b (at + n) ys) first
    ∙ ap (λ k. overwritten (overwritten before at xs) k ys) place
    ∙ overwritten-overwritten before at xs ys (omega (arith, xs_many, ys_many))
    ∙ ap (λ b. overwritten before at b) all
