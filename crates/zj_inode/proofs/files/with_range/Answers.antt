-- One byte more of the range is put.
use Rattle.std.proofs.Common.{◌≡◌, ◌≢◌, ◌⊎◌, inl, inr, ℕ, ◌+◌, ◌-◌, ◌<◌, ◌≤◌, List, length, set, ap, ◌∙◌, arith, slice_index}
use Rattle.std.proofs.lemmas.List.{length-set, get_or-set_same, get_or-set_other}
use native.Mathlib.Decide.{ℕ_discrete}
use Rattle.zj_layout.specs.Node.{byte_in}
use Rattle.zj_inode.proofs.files.with_range.Goals as goal

pub loop-k-init : goal.loop-k-init
unfolding byte_in
loop-k-init c = record {
  many = c.to_bytes.array_long;
  up = omega (arith, c.max-k.ensures);
  from = omega (arith, c.max-k.ensures);
  inside = λ i lt le less. absurd (omega (arith, c.max-k.ensures));
  outside = λ i lt side. ap (λ (x : List ℕ). slice_index x i) c.to_bytes.ensures.bytes;
}

put_inside : (first at k : ℕ) (out bytes : List ℕ) → at ≤ k → first ≤ k → k - first < length out → ((i : ℕ) → i < 512 → at ≤ first + i → first + i < k → slice_index out i ≡ slice_index bytes (first + i - at))
    → (i : ℕ) → i < 512 → at ≤ first + i → first + i < k + 1 → Dec (i ≡ k - first) → slice_index (set out (k - first) (slice_index bytes (k - at))) i ≡ slice_index bytes (first + i - at)
put_inside first at k out bytes le le' room h i lt up less (yes e) =
    let place : k - at ≡ first + i - at = omega (arith, e, le') in
    ap (slice_index (set out (k - first) (slice_index bytes (k - at)))) e ∙ get_or-set_same out (k - first) (slice_index bytes (k - at)) 0 room ∙ ap (slice_index bytes) place
put_inside first at k out bytes le le' room h i lt up less (no ne) = get_or-set_other out (k - first) i (slice_index bytes (k - at)) 0 ne ∙ h i lt up (omega (arith, ne, le'))

pub loop-k-preserved : goal.loop-k-preserved
loop-k-preserved c =
    let k = c.loop-k.k in
    let first = c.args.first in
    let at = c.args.at in
    let inv = c.loop-k.invariant in
    let room : k - first < 512 = omega (arith, c.loop-k-test.true, c.min-end.ensures, inv.from) in
    record {
      many = length-set c.loop-k.out (k - first) _ ∙ inv.many;
      up = omega (arith, c.loop-k-test.true);
      from = omega (arith, inv.from);
      inside = λ i lt le less. put_inside first at k c.loop-k.out c.args.bytes.now (omega (arith, inv.from)) (omega (arith, inv.from)) (omega (arith, room, inv.many)) inv.inside i lt le less (ℕ_discrete i (k - first));
      outside = λ i lt side. get_or-set_other c.loop-k.out (k - first) i (slice_index c.args.bytes.now (k - at)) 0 (apart i side) ∙ inv.outside i lt (before i side);
    }
  where
    apart : (i : ℕ) → (c.args.first + i < c.args.at) ⊎ (c.loop-k.k + 1 ≤ c.args.first + i) → i ≢ c.loop-k.k - c.args.first
    apart i (inl lt) e = omega (arith, lt, e, c.loop-k.invariant.from)
    apart i (inr le) e = omega (arith, le, e, c.loop-k.invariant.from)

    before : (i : ℕ) → (c.args.first + i < c.args.at) ⊎ (c.loop-k.k + 1 ≤ c.args.first + i) → (c.args.first + i < c.args.at) ⊎ (c.loop-k.k ≤ c.args.first + i)
    before i (inl lt) = inl lt
    before i (inr le) = inr (omega (arith, le))

pub returns : goal.returns
unfolding byte_in
returns c =
    let inv = c.loop-k.invariant in
    record {
      inside = λ i lt le less. ap (λ (x : List ℕ). slice_index x i) c.from_bytes.ensures.bytes ∙ inv.inside i lt le (omega (arith, le, less, lt, c.min-end.ensures, c.loop-k-test.false));
      outside = λ i lt side. ap (λ (x : List ℕ). slice_index x i) c.from_bytes.ensures.bytes ∙ inv.outside i lt (before i lt side);
    }
  where
    before : (i : ℕ) → i < 512 → (c.args.first + i < c.args.at) ⊎ (c.args.at + length c.args.bytes.now ≤ c.args.first + i) → (c.args.first + i < c.args.at) ⊎ (c.loop-k.k ≤ c.args.first + i)
    before i lt (inl less) = inl less
    before i lt (inr le) = inr (omega (arith, le, c.loop-k.invariant.up, c.min-end.ensures))
