-- Numbers that are read from bytes.
use Rattle.std.proofs.Common.{◌≡◌, ℕ, ◌+◌, ◌<◌, ◌≤◌, List, [], ◌∷◌, slice_index, refl, sym, ap, ◌∙◌, arith}
use Rattle.std.proofs.lemmas.List.Edits.{get_or-between}
use Rattle.std.specs.List.{slice_range}
use Rattle.std.specs.Int.{from_le_bytes, w64}
use Rattle.byteorder.specs.Endian.{little_number}
use Rattle.zj_home.specs.Super.{u32_in, u64_in}

-- a byte of a part
pub part : (bytes : List ℕ) (at n i : ℕ) → i < n → slice_index (slice_range bytes at (at + n)) i ≡ slice_index bytes (at + i)
part bytes at n i below = get_or-between bytes at (at + n) i 0 (omega arith)

first : (bytes : List ℕ) (at n : ℕ) → 0 < n → slice_index (slice_range bytes at (at + n)) 0 ≡ slice_index bytes at
first bytes at n some = let here : at + 0 ≡ at = omega arith in part bytes at n 0 some ∙ ap (λ k. slice_index bytes k) here

-- a byte of a part, by its place in a longer one
same_byte : (bytes : List ℕ) (at n to i : ℕ) → at + n ≤ to → i < n → slice_index (slice_range bytes at to) i ≡ slice_index (slice_range bytes at (at + n)) i
same_byte bytes at n to i within below = get_or-between bytes at to i 0 (omega arith) ∙ sym (part bytes at n i below)

-- the number at the front of what stands from a place on is the one there
pub u32_front : (bytes : List ℕ) (at to number : ℕ) → at + 4 ≤ to → number ≡ little_number 4 (slice_range bytes at to) → number ≡ u32_in bytes at
unfolding u32_in
u32_front bytes at to number within is =
    let b0 = same_byte bytes at 4 to 0 within (omega arith) in
    let b1 = same_byte bytes at 4 to 1 within (omega arith) in
    let b2 = same_byte bytes at 4 to 2 within (omega arith) in
    let b3 = same_byte bytes at 4 to 3 within (omega arith) in
    is ∙ rw (b0, b1, b2, b3) (omega arith)

-- and so with eight bytes
pub u64_front : (bytes : List ℕ) (at to number : ℕ) → at + 8 ≤ to → number ≡ little_number 8 (slice_range bytes at to) → number ≡ u64_in bytes at
unfolding u64_in
u64_front bytes at to number within is =
    let b0 = same_byte bytes at 8 to 0 within (omega arith) in
    let b1 = same_byte bytes at 8 to 1 within (omega arith) in
    let b2 = same_byte bytes at 8 to 2 within (omega arith) in
    let b3 = same_byte bytes at 8 to 3 within (omega arith) in
    let b4 = same_byte bytes at 8 to 4 within (omega arith) in
    let b5 = same_byte bytes at 8 to 5 within (omega arith) in
    let b6 = same_byte bytes at 8 to 6 within (omega arith) in
    let b7 = same_byte bytes at 8 to 7 within (omega arith) in
    is ∙ rw (b0, b1, b2, b3, b4, b5, b6, b7) (omega arith)

-- eight bytes make the number
pub u64_read : (bytes : List ℕ) (at : ℕ) →
    from_le_bytes w64 (slice_index bytes at ∷ slice_index bytes (at + 1) ∷ slice_index bytes (at + 2) ∷ slice_index bytes (at + 3) ∷ slice_index bytes (at + 4) ∷ slice_index bytes (at + 5) ∷ slice_index bytes (at + 6) ∷ slice_index bytes (at + 7) ∷ []) ≡ u64_in bytes at
unfolding u64_in
u64_read bytes at =
    let b0 = first bytes at 8 (omega arith) in
    let b1 = part bytes at 8 1 (omega arith) in
    let b2 = part bytes at 8 2 (omega arith) in
    let b3 = part bytes at 8 3 (omega arith) in
    let b4 = part bytes at 8 4 (omega arith) in
    let b5 = part bytes at 8 5 (omega arith) in
    let b6 = part bytes at 8 6 (omega arith) in
    let b7 = part bytes at 8 7 (omega arith) in
    rw (b0, b1, b2, b3, b4, b5, b6, b7) refl
