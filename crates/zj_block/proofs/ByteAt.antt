-- The bytes of one number.
use Rattle.std.proofs.Common.{◌≡◌, ℕ, zero, suc, ◌+◌, ◌-◌, ◌*◌, ◌/◌, ◌%◌, ◌^◌, ◌<◌, ◌≤◌, List, slice_index, refl, sym, ap, ◌∙◌, arith}
use Rattle.std.proofs.Math.Nat.{add-mul, div-one, mod-mod, mul_assoc, pow-suc}
use Rattle.std.proofs.Math.Pow.{mod-mod-pow}
use Rattle.std.proofs.lemmas.Nat.{field_of, from_le_bytes-to_le_bytes_4, from_le_bytes-to_le_bytes_8, mod_low, pow-add, pow_pos, shr-shr, shr_high, shr_split, mod_below, mul-add-lt, shr_below}
use Rattle.std.specs.Int.{byte_at, from_le_bytes, w32, w64}

-- a power of 256 is one of 2
pow_256 : (k : ℕ) → 256 ^ k ≡ 2 ^ (8 * k)
pow_256 zero = refl
pow_256 (suc k) =
    let e : 8 * suc k ≡ 8 * k + 8 = omega arith in
    rw (pow-suc 256 k, e, pow-add 2 (8 * k) 8, pow_256 k) refl

-- a byte by shift and mask
pub byte_at-bits : (k x : ℕ) → byte_at k x ≡ x / 2 ^ (8 * k) % 256
byte_at-bits zero x = rw (div-one x) refl
byte_at-bits (suc k) x = rw (pow_256 (suc k)) refl

-- a byte is below 256
pub byte_at_fits : (k x : ℕ) → byte_at k x < 256
byte_at_fits k x = rw (byte_at-bits k x) (omega arith)

-- a byte of 0
pub byte_at-zero : (k : ℕ) → byte_at k 0 ≡ 0
byte_at-zero k = rw (byte_at-bits k 0) (omega arith)

-- a byte of a number is a byte of what is left of it
pub byte_at-add : (r k x : ℕ) → byte_at (r + k) x ≡ byte_at k (x / 2 ^ (8 * r))
byte_at-add r k x =
    let e : 8 * (r + k) ≡ 8 * r + 8 * k = omega arith in
    rw (byte_at-bits (r + k) x, byte_at-bits k (x / 2 ^ (8 * r)), e, shr-shr x (8 * r) (8 * k)) refl

-- a byte is told by the bits below its end
byte_at-low : (k x : ℕ) → byte_at k x ≡ x % 2 ^ (8 + 8 * k) / 2 ^ (8 * k)
byte_at-low k x = byte_at-bits k x ∙ sym (field_of x 8 (8 * k))

-- two numbers with the same low bytes
pub byte_at_below : (r k x y : ℕ) → k < r → x % 2 ^ (8 * r) ≡ y % 2 ^ (8 * r) → byte_at k x ≡ byte_at k y
byte_at_below r k x y below same =
    let shorter : (n : ℕ) → n % 2 ^ (8 * r) % 2 ^ (8 + 8 * k) ≡ n % 2 ^ (8 + 8 * k) = λ n.
    let e : 8 * r ≡ (8 * r - (8 + 8 * k)) + (8 + 8 * k) = omega arith in
    rw e (mod-mod-pow n (8 * r - (8 + 8 * k)) (8 + 8 * k)) in
    byte_at-low k x ∙ ap (λ n. n / 2 ^ (8 * k)) (sym (shorter x) ∙ ap (λ n. n % 2 ^ (8 + 8 * k)) same ∙ shorter y) ∙ sym (byte_at-low k y)

-- the bytes of what a mask leaves
pub byte_at-mod : (r k x : ℕ) → k < r → byte_at k (x % 2 ^ (8 * r)) ≡ byte_at k x
byte_at-mod r k x below = byte_at_below r k (x % 2 ^ (8 * r)) x below (mod-mod x (2 ^ (8 * r)))

-- a number with v over its m bits from bit s on
abbrev pub with_field : ℕ → ℕ → ℕ → ℕ → ℕ
with_field w s m v = w - (w / 2 ^ s % 2 ^ m) * 2 ^ s + v * 2 ^ s

-- such a number, written by its parts
put_parts : (w s m v : ℕ) → with_field w s m v ≡ (w / 2 ^ (s + m) * 2 ^ m + v) * 2 ^ s + w % 2 ^ s
put_parts w s m v =
    let low = shr_split w s in
    let middle = shr_split (w / 2 ^ s) m in
    let high = shr-shr w s m in
    let old = ap (λ x. x * 2 ^ s) (sym middle) ∙ add-mul (w / 2 ^ s / 2 ^ m * 2 ^ m) (w / 2 ^ s % 2 ^ m) (2 ^ s) in
    let new = add-mul (w / 2 ^ s / 2 ^ m * 2 ^ m) v (2 ^ s) in
    rw (← high) (omega (arith, low, old, new))

-- what such a number has below, in and above the place
module _ (w s m v : ℕ) (fits : v < 2 ^ m) where
  low_fits : w % 2 ^ s < 2 ^ s
  low_fits = mod_below w (2 ^ s) (pow_pos s)

  put_above_s : (with_field w s m v) / 2 ^ s ≡ w / 2 ^ (s + m) * 2 ^ m + v
  put_above_s = rw (put_parts w s m v) (shr_high (w / 2 ^ (s + m) * 2 ^ m + v) s (w % 2 ^ s) low_fits)

  pub put_below : (with_field w s m v) % 2 ^ s ≡ w % 2 ^ s
  put_below = rw (put_parts w s m v) (mod_low (w / 2 ^ (s + m) * 2 ^ m + v) s (w % 2 ^ s) low_fits)

  pub put_within : (with_field w s m v) / 2 ^ s % 2 ^ m ≡ v
  put_within = ap (λ x. x % 2 ^ m) put_above_s ∙ mod_low (w / 2 ^ (s + m)) m v fits

  pub put_above : (with_field w s m v) / 2 ^ (s + m) ≡ w / 2 ^ (s + m)
  put_above = sym (shr-shr (with_field w s m v) s m) ∙ ap (λ x. x / 2 ^ m) put_above_s ∙ shr_high (w / 2 ^ (s + m)) m v fits

  pub put_fits : s + m ≤ 64 → w < 2 ^ 64 → with_field w s m v < 2 ^ 64
  put_fits within below =
      let whole : 64 ≡ 64 - (s + m) + (s + m) = omega arith in
      let top_bits : s + m + (64 - (s + m)) ≡ 64 = omega arith in
      let high : w / 2 ^ (s + m) < 2 ^ (64 - (s + m)) = shr_below w (64 - (s + m)) (s + m) (rw (← whole) below) in
      let turned : s + m ≡ m + s = omega arith in
      let rest : v * 2 ^ s + w % 2 ^ s < 2 ^ s * 2 ^ m = mul-add-lt v (2 ^ s) (w % 2 ^ s) (2 ^ m) fits low_fits in
      let top = mul-add-lt (w / 2 ^ (s + m)) (2 ^ s * 2 ^ m) (v * 2 ^ s + w % 2 ^ s) (2 ^ (64 - (s + m))) high rest in
      let product : 2 ^ s * 2 ^ m * 2 ^ (64 - (s + m)) ≡ 2 ^ 64 = rw (← pow-add 2 s m, ← pow-add 2 (s + m) (64 - (s + m)), top_bits) refl in
      let spread = add-mul (w / 2 ^ (s + m) * 2 ^ m) v (2 ^ s) in
      let joined = mul_assoc (w / 2 ^ (s + m)) (2 ^ m) (2 ^ s) in
      let square : 2 ^ m * 2 ^ s ≡ 2 ^ s * 2 ^ m = rw (← pow-add 2 s m, ← pow-add 2 m s, turned) refl in
      let joined_turned = joined ∙ ap (λ x. w / 2 ^ (s + m) * x) square in
      rw (put_parts w s m v) (omega (arith, spread, joined_turned, top, product))

-- bytes that are those of a number make its lowest 32 bits
pub from_le_bytes-same_4 : (bytes : List ℕ) (x : ℕ) → ((i : ℕ) → i < 4 → slice_index bytes i ≡ byte_at i x) → from_le_bytes w32 bytes ≡ x % 2 ^ 32
from_le_bytes-same_4 bytes x same =
    let y = x % 2 ^ 32 in
    let each : (i : ℕ) → i < 4 → slice_index bytes i ≡ byte_at i y = λ i below. same i below ∙ sym (byte_at-mod 4 i x below) in
    let b0 = each 0 (omega arith) in
    let b1 = each 1 (omega arith) in
    let b2 = each 2 (omega arith) in
    let b3 = each 3 (omega arith) in
    rw (b0, b1, b2, b3) (from_le_bytes-to_le_bytes_4 y (omega arith))

-- the same of all bytes of a word
pub from_le_bytes-same_8 : (bytes : List ℕ) (x : ℕ) → x < 2 ^ 64 → ((i : ℕ) → i < 8 → slice_index bytes i ≡ byte_at i x) → from_le_bytes w64 bytes ≡ x
from_le_bytes-same_8 bytes x fits each =
    let b0 = each 0 (omega arith) in
    let b1 = each 1 (omega arith) in
    let b2 = each 2 (omega arith) in
    let b3 = each 3 (omega arith) in
    let b4 = each 4 (omega arith) in
    let b5 = each 5 (omega arith) in
    let b6 = each 6 (omega arith) in
    let b7 = each 7 (omega arith) in
    rw (b0, b1, b2, b3, b4, b5, b6, b7) (from_le_bytes-to_le_bytes_8 x fits)
