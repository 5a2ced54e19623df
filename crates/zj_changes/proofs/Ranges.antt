-- A file after a write or a cut has the bytes that the plain service gives it.
use Rattle.std.proofs.Common.{◌≡◌, ◌⊎◌, inl, inr, ℕ, ◌+◌, ◌-◌, ◌/◌, ◌%◌, ◌<◌, ◌≤◌, List, ◌++◌, take, drop, length, max, sym, ap, ◌∙◌, subst, arith, slice_index}
use Rattle.std.proofs.lemmas.List.{length-append, length-drop, length-take-le, get_or-append_right, get_or_append_left, get_or-drop, get_or-take}
use Rattle.std.proofs.lemmas.List.FromFn.{get_or-map-range_with_len, length-map-range_with_len}
use native.Mathlib.Decide.{dec_lt}
use Rattle.zj_block.specs.Sizes.{Numbers}
use Rattle.zj_tree.specs.Bytes.{overwritten}
use Rattle.zj_layout.specs.declared.fields.Kind.TheVariants.{File}
use Rattle.zj_layout.specs.Node.{byte_in, per_block}
use Rattle.zj_layout.specs.Image.{Image, node_of, count_of, number_of, byte_at_place}
use Rattle.zj_changes.specs.Resized.{Resizes, SetsBytes, WritesRange, CutsFile}
use Rattle.zj_changes.proofs.Freed.{bytes_in}

module _ (bytes : List ℕ) (at : ℕ) (new : List ℕ) (within : at ≤ length bytes) where
  front : length (take at bytes) ≡ at
  front = length-take-le at bytes within

  middle : length (take at bytes ++ new) ≡ at + length new
  middle = omega (arith, front, length-append (take at bytes) new)

  -- bytes may be written past the end, where they begin within
  pub length_over : length (overwritten bytes at new) ≡ max (length bytes) (at + length new)
  length_over = omega (arith, middle, length-append (take at bytes ++ new) (drop (at + length new) bytes), length-drop (at + length new) bytes)

  pub over_below : (m : ℕ) → m < at → slice_index (overwritten bytes at new) m ≡ slice_index bytes m
  over_below m below =
      get_or_append_left (take at bytes ++ new) (drop (at + length new) bytes) 0 m (omega (arith, middle))
      ∙ get_or_append_left (take at bytes) new 0 m (omega (arith, front))
      ∙ get_or-take at bytes m 0 below

  pub over_within : (m : ℕ) → m < length new → slice_index (overwritten bytes at new) (at + m) ≡ slice_index new m
  over_within m below =
      let place : at + m - at ≡ m = omega arith in
      get_or_append_left (take at bytes ++ new) (drop (at + length new) bytes) 0 (at + m) (omega (arith, middle))
      ∙ get_or-append_right (take at bytes) new at (at + m) 0 front (omega arith)
      ∙ ap (slice_index new) place

  pub over_above : (m : ℕ) → at + length new ≤ m → slice_index (overwritten bytes at new) m ≡ slice_index bytes m
  over_above m above =
      let place : at + length new + (m - (at + length new)) ≡ m = omega arith in
      get_or-append_right (take at bytes ++ new) (drop (at + length new) bytes) (at + length new) m 0 middle above
      ∙ get_or-drop (at + length new) bytes (m - (at + length new)) 0
      ∙ ap (λ k. slice_index bytes k) place

-- the bytes of a file, one by one
pub byte_of : (image : Image) (file k : ℕ) → k < (node_of image file).size → slice_index (bytes_in image file) k ≡ byte_at_place image file k
byte_of image file k lt = get_or-map-range_with_len (byte_at_place image file) 0 (node_of image file).size k k 0 lt (omega arith)

pub size_is : (image : Image) (file : ℕ) → length (bytes_in image file) ≡ (node_of image file).size
size_is image file = length-map-range_with_len (byte_at_place image file) 0 (node_of image file).size

pub written : (sizes : Numbers) (old new : Image) (file at : ℕ) (bytes blocks : List ℕ) → WritesRange sizes old new file at bytes blocks → SetsBytes sizes old new file blocks (overwritten (bytes_in old file) at bytes)
written sizes old new file at bytes blocks w = record {
  was_file = w.was_file;
  resizes = subst (λ n. Resizes sizes old new file (record { kind = File; size = n; blocks = blocks })) (sym whole) w.resizes;
  each = λ k lt. each k lt (dec_lt k at) (dec_lt k (at + length bytes));
}
  where
    within : at ≤ length (bytes_in old file)
    within = omega (arith, size_is old file, w.at_most)

    whole : length (overwritten (bytes_in old file) at bytes) ≡ max (node_of old file).size (at + length bytes)
    whole = length_over (bytes_in old file) at bytes within ∙ ap (λ n. max n (at + length bytes)) (size_is old file)

    outside : (k : ℕ) → k < (node_of old file).size → (k < at) ⊎ (at + length bytes ≤ k) → slice_index (overwritten (bytes_in old file) at bytes) k ≡ slice_index (bytes_in old file) k → byte_in (new.content (slice_index blocks (k / 512))) (k % 512) ≡ slice_index (overwritten (bytes_in old file) at bytes) k
    outside k lt side e = w.outside k lt side ∙ sym (e ∙ byte_of old file k lt)

    each : (k : ℕ) → k < length (overwritten (bytes_in old file) at bytes) → Dec (k < at) → Dec (k < at + length bytes) → byte_in (new.content (slice_index blocks (k / 512))) (k % 512) ≡ slice_index (overwritten (bytes_in old file) at bytes) k
    each k lt (yes h) d = outside k (omega (arith, w.at_most)) (inl h) (over_below (bytes_in old file) at bytes within k h)
    each k lt (no h) (no d) = outside k (omega (arith, whole)) (inr (omega arith)) (over_above (bytes_in old file) at bytes within k (omega arith))
    each k lt (no h) (yes d) =
        let place : at + (k - at) ≡ k = omega arith in
        subst (λ m. byte_in (new.content (slice_index blocks (m / 512))) (m % 512) ≡ slice_index (overwritten (bytes_in old file) at bytes) m) place
        (w.inside (k - at) (omega arith) ∙ sym (over_within (bytes_in old file) at bytes within (k - at) (omega arith)))

pub cut : (sizes : Numbers) (old new : Image) (file size : ℕ) (blocks : List ℕ) → CutsFile sizes old new file size blocks → SetsBytes sizes old new file blocks (take size (bytes_in old file))
cut sizes old new file size blocks c = record {
  was_file = c.was_file;
  resizes = subst (λ n. Resizes sizes old new file (record { kind = File; size = n; blocks = blocks })) (sym short) c.resizes;
  each = λ k lt. each k (omega (arith, short));
}
  where
    short : length (take size (bytes_in old file)) ≡ size
    short = length-take-le size (bytes_in old file) (omega (arith, size_is old file, c.fewer))

    old_count : count_of old file ≡ ((node_of old file).size + 511) / 512
    old_count = ap (λ k. ((node_of old file).size + (per_block k - 1)) / per_block k) c.was_file

    each : (k : ℕ) → k < size → byte_in (new.content (slice_index blocks (k / 512))) (k % 512) ≡ slice_index (take size (bytes_in old file)) k
    each k lt =
        ap (λ b. byte_in (new.content b) (k % 512)) (c.resizes.kept (k / 512) (omega arith) (omega (arith, old_count, c.fewer)))
        ∙ ap (λ x. byte_in x (k % 512)) (c.content (k / 512) (omega arith))
        ∙ sym (get_or-take size (bytes_in old file) k 0 lt ∙ byte_of old file k (omega (arith, c.fewer)) ∙ ap (λ t. byte_in (old.content (number_of old file (k / per_block t))) (k % 512)) c.was_file)
