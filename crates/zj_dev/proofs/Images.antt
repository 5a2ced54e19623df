-- What a crash may leave of a device in memory, place by place, and what each change does to it.
use Rattle.std.proofs.Common.{◌≡◌, ℕ, zero, suc, ◌+◌, ◌-◌, ◌<◌, ◌≤◌, true, false, ◌&&◌, ◌||◌, ◌⊎◌, inl, inr, eqb, ltb, leb, List, [], ◌∷◌, ◌++◌, length, get_or, take, drop, replicate, refl, sym, ap, subst, ◌∙◌, arith, rules, add-zero, zero-add}
use Rattle.std.specs.Prelude.{All}
use Rattle.std.proofs.lemmas.Bool.{false≢true, and_parts, and_from, or_cases, or_left, or_right, ltb-true, lt-ltb, leb-true, eqb-true, eq-eqb, cases_Bool}
use Rattle.std.proofs.lemmas.Bool.Decides.{nat_tests}
use Rattle.std.proofs.lemmas.List.{places, ext_get_or, get_or-take, get_or-drop, get_or_default, drop_more, drop-drop, append_assoc, length-take, length-drop, length-replicate, get_or-replicate}
use borrow.Rule.Slice.PartMut.{put_mid}
use Rattle.zj_dev.specs.Disk.{AreBytes, replaced, SameOutside}
use Rattle.zj_dev.proofs.DiskLaws.{byte_outside, length-replaced, replaced_outside}
use Rattle.zj_dev.specs.Medium.{lies_in, is_pending, may_be, filled}
use Rattle.zj_dev.specs.declared.mem_disk.Extent.{Extent}

-- a byte that a crash may leave at a place
pub record MayBeAt (pending : List Extent) (place settled byte : ℕ) : Type 0 where
  pub is_byte : byte < 256
  pub cause : (byte ≡ settled) ⊎ (is_pending pending place ≡ true)

-- an image that a crash may leave, from a place on
pub record Agrees (pending : List Extent) (place : ℕ) (settled image : List ℕ) : Type 0 where
  pub size : length image ≡ length settled
  pub each : (i : ℕ) → i < length settled → MayBeAt pending (place + i) (get_or settled i 0) (get_or image i 0)

each_cons : (pending : List Extent) (place s b : ℕ) (ss bs : List ℕ) → MayBeAt pending place s b →
    ((i : ℕ) → i < length ss → MayBeAt pending ((place + 1) + i) (get_or ss i 0) (get_or bs i 0)) →
    (i : ℕ) → i < length (s ∷ ss) → MayBeAt pending (place + i) (get_or (s ∷ ss) i 0) (get_or (b ∷ bs) i 0)
each_cons pending place s b ss bs first rest zero l = rw add-zero first
each_cons pending place s b ss bs first rest (suc i) l =
    let e : (place + 1) + i ≡ place + suc i = omega arith in
    subst (λ (n : ℕ). MayBeAt pending n (get_or ss i 0) (get_or bs i 0)) e (rest i (omega arith))

may_be_at : (pending : List Extent) (place s b : ℕ) → (ltb b 256 && (eqb b s || is_pending pending place)) ≡ true → MayBeAt pending place s b
may_be_at pending place s b h =
    let parts = and_parts (ltb b 256) (eqb b s || is_pending pending place) h in
    record {
      is_byte = ltb-true b 256 parts.0;
      cause = elim (or_cases (eqb b s) (is_pending pending place) parts.1) [ inl e ↦ inl (eqb-true b s e) | inr e ↦ inr e ];
    }

may_be_from : (pending : List Extent) (place s b : ℕ) → MayBeAt pending place s b → (ltb b 256 && (eqb b s || is_pending pending place)) ≡ true
may_be_from pending place s b h =
    and_from (ltb b 256) (eqb b s || is_pending pending place) (lt-ltb b 256 h.is_byte)
    (elim h.cause [ inl e ↦ or_left (eqb b s) (is_pending pending place) (eq-eqb b s e) | inr e ↦ or_right (eqb b s) (is_pending pending place) e ])

-- what the test says of each place
pub agrees : (pending : List Extent) (place : ℕ) (settled image : List ℕ) → may_be pending place settled image ≡ true → Agrees pending place settled image
agrees pending place [] [] h = record { size = refl; each = λ i l. absurd (omega arith) }
agrees pending place [] (b ∷ bs) h = absurd (false≢true h)
agrees pending place (s ∷ ss) [] h = absurd (false≢true h)
agrees pending place (s ∷ ss) (b ∷ bs) h =
    let parts = and_parts (ltb b 256 && (eqb b s || is_pending pending place)) (may_be pending (place + 1) ss bs) h in
    let rest = agrees pending (place + 1) ss bs parts.1 in
    record {
      size = ap suc rest.size;
      each = each_cons pending place s b ss bs (may_be_at pending place s b parts.0) rest.each;
    }

-- and the other way round
pub passes : (pending : List Extent) (place : ℕ) (settled image : List ℕ) → Agrees pending place settled image → may_be pending place settled image ≡ true
passes pending place [] [] h = refl
passes pending place [] (b ∷ bs) h = absurd (omega (arith, h.size))
passes pending place (s ∷ ss) [] h = absurd (omega (arith, h.size))
passes pending place (s ∷ ss) (b ∷ bs) h =
    let here : MayBeAt pending (place + 0) s b = h.each 0 (omega arith) in
    let rest : Agrees pending (place + 1) ss bs = record {
      size = omega (arith, h.size);
      each = λ i l. let e : place + suc i ≡ (place + 1) + i = omega arith in
          subst (λ (n : ℕ). MayBeAt pending n (get_or ss i 0) (get_or bs i 0)) e (h.each (suc i) (omega arith));
    } in
    and_from (ltb b 256 && (eqb b s || is_pending pending place)) (may_be pending (place + 1) ss bs)
    (may_be_from pending place s b (rw add-zero at here))
    (passes pending (place + 1) ss bs rest)

-- an image that a crash may leave
pub record IsImage (pending : List Extent) (settled image : List ℕ) : Type 0 where
  pub size : length image ≡ length settled
  pub each : (i : ℕ) → i < length settled → MayBeAt pending i (get_or settled i 0) (get_or image i 0)

pub is_image : (pending : List Extent) (settled image : List ℕ) → may_be pending 0 settled image ≡ true → IsImage pending settled image
is_image pending settled image h =
    let a = agrees pending 0 settled image h in
    record { size = a.size; each = λ i l. rw zero-add at (a.each i l) }

pub is_left : (pending : List Extent) (settled image : List ℕ) → IsImage pending settled image → may_be pending 0 settled image ≡ true
is_left pending settled image h = passes pending 0 settled image (record { size = h.size; each = λ i l. rw zero-add (h.each i l) })

-- an image is bytes
pub image_bytes : (pending : List Extent) (settled image : List ℕ) → IsImage pending settled image → AreBytes image
image_bytes pending settled image h = λ k d l.
    let e = get_or_default image k d 0 l in
    let b = (h.each k (omega (arith, h.size))).is_byte in
    rw e b

-- a place lies in one more extent, or in those before it
pub is_pending-push : (extents : List Extent) (extent : Extent) (place : ℕ) → is_pending (extents ++ extent ∷ []) place ≡ (is_pending extents place || lies_in place extent)
is_pending-push [] extent place = elim (lies_in place extent) as (λ b. (b || false) ≡ (false || b)) [ true ↦ refl | false ↦ refl ]
is_pending-push (e ∷ es) extent place =
    ap (λ b. lies_in place e || b) (is_pending-push es extent place) ∙
    elim (lies_in place e) as (λ b. (b || (is_pending es place || lies_in place extent)) ≡ ((b || is_pending es place) || lies_in place extent)) [ true ↦ refl | false ↦ refl ]

pub lies : (place : ℕ) (extent : Extent) → lies_in place extent ≡ true → (extent.at ≤ place) × (place < extent.at + extent.count)
lies place extent h =
    let parts = and_parts (leb extent.at place) (ltb place (extent.at + extent.count)) h in
    (leb-true extent.at place parts.0, ltb-true place (extent.at + extent.count) parts.1)

pub lies_outside : (place : ℕ) (extent : Extent) → lies_in place extent ≡ false → (place < extent.at) ⊎ (extent.at + extent.count ≤ place)
lies_outside place extent h = grind (arith, nat_tests)

-- the same bytes at each place outside a range
pub same_outside : (at count : ℕ) (old new : List ℕ) → length new ≡ length old → ((i : ℕ) → (i < at) ⊎ (at + count ≤ i) → get_or new i 0 ≡ get_or old i 0) → SameOutside at count old new
same_outside at count old new size each = record {
  size = size;
  before = ext_get_or 0 (take at new) (take at old) (omega (arith, length-take at new, length-take at old))
      (λ i l. let small : i < at = omega (arith, length-take at new) in
      get_or-take at new i 0 small ∙ each i (inl small) ∙ sym (get_or-take at old i 0 small));
  behind = ext_get_or 0 (drop (at + count) new) (drop (at + count) old) (omega (arith, length-drop (at + count) new, length-drop (at + count) old))
      (λ i l. get_or-drop (at + count) new i 0 ∙ each ((at + count) + i) (inr (omega arith)) ∙ sym (get_or-drop (at + count) old i 0));
}

pub replaced_inside : (bytes : List ℕ) (at : ℕ) (piece : List ℕ) → at + length piece ≤ length bytes → (i : ℕ) → at ≤ i → i < at + length piece → get_or (replaced bytes at piece) i 0 ≡ get_or piece (i - at) 0
replaced_inside bytes at piece fits i low high = search (rules, places)

pub replaced_outside_at : (bytes : List ℕ) (at : ℕ) (piece : List ℕ) → at + length piece ≤ length bytes → (i : ℕ) → (i < at) ⊎ (at + length piece ≤ i) → get_or (replaced bytes at piece) i 0 ≡ get_or bytes i 0
replaced_outside_at bytes at piece fits i where_is = byte_outside at (length piece) bytes (replaced bytes at piece) i (replaced_outside bytes at piece fits) where_is

at_place : (n i m : ℕ) → (i < n) ⊎ (n ≤ i)
at_place n i m = grind (arith, nat_tests)

pub replaced_bytes : (bytes : List ℕ) (at : ℕ) (piece : List ℕ) → at + length piece ≤ length bytes → AreBytes bytes → AreBytes piece → AreBytes (replaced bytes at piece)
replaced_bytes bytes at piece fits all_old all_piece = λ k d l.
    let size = length-replaced bytes at piece fits in
    let old : k < length bytes = omega (arith, size) in
    let h : get_or (replaced bytes at piece) k 0 < 256 =
    elim (at_place at k 0) [
      | inl low ↦ rw (replaced_outside_at bytes at piece fits k (inl low)) (all_old k 0 old)
      | inr high ↦ elim (at_place (at + length piece) k 0) [
        | inl low ↦ rw (replaced_inside bytes at piece fits k high low) (all_piece (k - at) 0 (omega arith))
        | inr behind ↦ rw (replaced_outside_at bytes at piece fits k (inr behind)) (all_old k 0 old)
      ]
    ] in
    rw (get_or_default (replaced bytes at piece) k d 0 l) h

-- An image changed within an extent may be left where that extent is pending too.
pub grows : (old_pending new_pending : List Extent) (extent : Extent) (settled before image : List ℕ) → IsImage old_pending settled before →
    SameOutside extent.at extent.count before image → AreBytes image →
    ((i : ℕ) → is_pending old_pending i ≡ true → is_pending new_pending i ≡ true) →
    ((i : ℕ) → lies_in i extent ≡ true → is_pending new_pending i ≡ true) →
    IsImage new_pending settled image
grows old_pending new_pending extent settled before image h same all keeps adds =
    let size : length image ≡ length settled = same.size ∙ h.size in
    record {
      size = size;
      each = λ i l. record {
        is_byte = all i 0 (omega (arith, size));
        cause = elim (cases_Bool (lies_in i extent)) [
          | inl inside ↦ inr (adds i inside)
          | inr outside ↦
              let e = byte_outside extent.at extent.count before image i same (lies_outside i extent outside) in
              elim (h.each i l).cause [ inl is ↦ inl (e ∙ is) | inr is ↦ inr (keeps i is) ]
        ];
      };
    }

pub keeps_push : (extents : List Extent) (extent : Extent) (i : ℕ) → is_pending extents i ≡ true → is_pending (extents ++ extent ∷ []) i ≡ true
keeps_push extents extent i h = is_pending-push extents extent i ∙ or_left (is_pending extents i) (lies_in i extent) h

pub adds_push : (extents : List Extent) (extent : Extent) (i : ℕ) → lies_in i extent ≡ true → is_pending (extents ++ extent ∷ []) i ≡ true
adds_push extents extent i h = is_pending-push extents extent i ∙ or_right (is_pending extents i) (lies_in i extent) h

-- one more extent is pending
pub pushed : (pending : List Extent) (extent : Extent) (settled before image : List ℕ) → IsImage pending settled before →
    SameOutside extent.at extent.count before image → AreBytes image → IsImage (pending ++ extent ∷ []) settled image
pushed pending extent settled before image h same all =
    grows pending (pending ++ extent ∷ []) extent settled before image h same all (keeps_push pending extent) (adds_push pending extent)

slice_size : (settled : List ℕ) (extent : Extent) → extent.at + extent.count ≤ length settled → length (take extent.count (drop extent.at settled)) ≡ extent.count
slice_size settled extent fits = omega (arith, length-take extent.count (drop extent.at settled), length-drop extent.at settled)

-- what an image was before an extent was written: as settled in that extent
before_image : List ℕ → Extent → List ℕ → List ℕ
before_image settled extent image = replaced image extent.at (take extent.count (drop extent.at settled))

before_inside : (settled image : List ℕ) (extent : Extent) → length image ≡ length settled → extent.at + extent.count ≤ length settled → (i : ℕ) → (extent.at ≤ i) × (i < extent.at + extent.count) →
    get_or (before_image settled extent image) i 0 ≡ get_or settled i 0
unfolding before_image
before_inside settled image extent size fits i h =
    let n = slice_size settled extent fits in
    let e : extent.at + (i - extent.at) ≡ i = omega (arith, h.0) in
    replaced_inside image extent.at (take extent.count (drop extent.at settled)) (omega (arith, size)) i h.0 (omega (arith, h.1)) ∙
    get_or-take extent.count (drop extent.at settled) (i - extent.at) 0 (omega (arith, h.0, h.1)) ∙
    get_or-drop extent.at settled (i - extent.at) 0 ∙
    ap (λ (m : ℕ). get_or settled m 0) e

before_outside : (settled image : List ℕ) (extent : Extent) → length image ≡ length settled → extent.at + extent.count ≤ length settled →
    SameOutside extent.at extent.count (before_image settled extent image) image
unfolding before_image
before_outside settled image extent size fits =
    let n = slice_size settled extent fits in
    let s = length-replaced image extent.at (take extent.count (drop extent.at settled)) (omega (arith, size)) in
    same_outside extent.at extent.count (before_image settled extent image) image (sym s)
    (λ i where_is. sym (replaced_outside_at image extent.at (take extent.count (drop extent.at settled)) (omega (arith, size)) i
    (elim where_is [ inl l ↦ inl l | inr l ↦ inr (omega arith) ])))

-- Where one more extent is pending, each image comes from one of before.
pub comes_from : (pending : List Extent) (extent : Extent) (settled image : List ℕ) → IsImage (pending ++ extent ∷ []) settled image → AreBytes settled →
    extent.at + extent.count ≤ length settled → (before : List ℕ) × IsImage pending settled before × SameOutside extent.at extent.count before image
comes_from pending extent settled image h all fits =
    let before = before_image settled extent image in
    let same = before_outside settled image extent h.size fits in
    let size : length before ≡ length settled = sym same.size ∙ h.size in (
      before,
      record {
        size = size;
        each = λ i l. elim (cases_Bool (lies_in i extent)) [
          | inl inside ↦
              let e = before_inside settled image extent h.size fits i (lies i extent inside) in
              record { is_byte = rw e (all i 0 l); cause = inl e }
          | inr outside ↦
              let e = byte_outside extent.at extent.count before image i same (lies_outside i extent outside) in
              let here = h.each i l in
              record {
                is_byte = rw (sym e) here.is_byte;
                cause = elim here.cause [
                  | inl is ↦ inl (sym e ∙ is)
                  | inr is ↦ elim (or_cases (is_pending pending i) (lies_in i extent) (sym (is_pending-push pending extent i) ∙ is)) [
                    | inl was ↦ inr was
                    | inr inside ↦ absurd (false≢true (sym outside ∙ inside))
                  ]
                ];
              }
        ];
      },
      same,
    )

-- With nothing pending an image is what was settled.
pub nothing_pending : (settled image : List ℕ) → IsImage [] settled image → image ≡ settled
nothing_pending settled image h = ext_get_or 0 image settled h.size
    (λ i l. elim (h.each i (omega (arith, h.size))).cause [ inl e ↦ e | inr e ↦ absurd (false≢true e) ])

pub agrees_itself : (bytes : List ℕ) → AreBytes bytes → IsImage [] bytes bytes
agrees_itself bytes all = record { size = refl; each = λ i l. record { is_byte = all i 0 l; cause = inl refl } }

pub agrees_settled : (pending : List Extent) (bytes : List ℕ) → AreBytes bytes → IsImage pending bytes bytes
agrees_settled pending bytes all = record { size = refl; each = λ i l. record { is_byte = all i 0 l; cause = inl refl } }

at_slice : (settled bytes : List ℕ) (extent : Extent) → length bytes ≡ length settled → extent.at + extent.count ≤ length settled → (i : ℕ) → (extent.at ≤ i) × (i < extent.at + extent.count) →
    get_or (replaced settled extent.at (take extent.count (drop extent.at bytes))) i 0 ≡ get_or bytes i 0
at_slice settled bytes extent size fits i h =
    let n = slice_size bytes extent (omega (arith, size)) in
    let e : extent.at + (i - extent.at) ≡ i = omega (arith, h.0) in
    replaced_inside settled extent.at (take extent.count (drop extent.at bytes)) (omega arith) i h.0 (omega (arith, h.1)) ∙
    get_or-take extent.count (drop extent.at bytes) (i - extent.at) 0 (omega (arith, h.0, h.1)) ∙
    get_or-drop extent.at bytes (i - extent.at) 0 ∙
    ap (λ (m : ℕ). get_or bytes m 0) e

-- One of the pending extents is copied from what a read gives to what is settled.
pub settles : (extent : Extent) (rest : List Extent) (settled bytes next : List ℕ) → IsImage (extent ∷ rest) settled bytes → extent.at + extent.count ≤ length settled →
    next ≡ replaced settled extent.at (take extent.count (drop extent.at bytes)) → IsImage rest next bytes
settles extent rest settled bytes next h fits is =
    let n = slice_size bytes extent (omega (arith, h.size)) in
    let within : extent.at + length (take extent.count (drop extent.at bytes)) ≤ length settled = omega arith in
    let size : length next ≡ length settled = ap length is ∙ length-replaced settled extent.at (take extent.count (drop extent.at bytes)) within in
    record {
      size = omega (arith, h.size);
      each = λ i l. let here = h.each i (omega (arith, size)) in record {
        is_byte = here.is_byte;
        cause = elim (cases_Bool (lies_in i extent)) [
          | inl inside ↦
              let p = lies i extent inside in
              let e : get_or next i 0 ≡ get_or bytes i 0 = ap (λ (xs : List ℕ). get_or xs i 0) is ∙ at_slice settled bytes extent h.size fits i p in
              inl (sym e)
          | inr outside ↦
              let e : get_or next i 0 ≡ get_or settled i 0 = ap (λ (xs : List ℕ). get_or xs i 0) is ∙
              replaced_outside_at settled extent.at (take extent.count (drop extent.at bytes)) within i
              (elim (lies_outside i extent outside) [ inl low ↦ inl low | inr high ↦ inr (omega arith) ]) in
              elim here.cause [
                | inl same ↦ inl (same ∙ sym e)
                | inr pending ↦ elim (or_cases (lies_in i extent) (is_pending rest i) pending) [
                  | inl inside ↦ absurd (false≢true (sym outside ∙ inside))
                  | inr later ↦ inr later
                ]
              ]
        ];
      };
    }

-- what is known of a slice of bytes
pub are_bytes : (bytes : List ℕ) → ((k : ℕ) → get_or bytes k 0 < 256) → AreBytes bytes
are_bytes bytes all = λ k d l. rw (get_or_default bytes k d 0 l) (all k)

-- after a write to a part of a slice
pub put_is_replaced : (at count : ℕ) (bytes piece : List ℕ) → length piece ≡ count → put_mid at count bytes piece ≡ replaced bytes at piece
put_is_replaced at count bytes piece long =
    ap (λ (xs : List ℕ). take at bytes ++ (piece ++ xs)) (drop-drop count at bytes ∙ ap (λ (n : ℕ). drop (at + n) bytes) (sym long)) ∙
    sym (append_assoc (take at bytes) piece (drop (at + length piece) bytes))

pub settled_more : (pending : List Extent) (i : ℕ) (none extent : Extent) (settled bytes piece : List ℕ) (count : ℕ) → get_or pending i none ≡ extent →
    may_be (drop i pending) 0 settled bytes ≡ true → i < length pending → extent.at + extent.count ≤ length settled → count ≡ extent.count →
    piece ≡ take count (drop extent.at bytes) →
    (may_be (drop (i + 1) pending) 0 (put_mid extent.at count settled piece) bytes ≡ true) × (length (put_mid extent.at count settled piece) ≡ length settled)
settled_more pending i none extent settled bytes piece count e was l fits n is =
    let split : drop i pending ≡ extent ∷ drop (i + 1) pending = drop_more pending i none l ∙ ap (λ (x : Extent). x ∷ drop (i + 1) pending) e in
    let h : IsImage (extent ∷ drop (i + 1) pending) settled bytes = is_image (extent ∷ drop (i + 1) pending) settled bytes (subst (λ (es : List Extent). may_be es 0 settled bytes ≡ true) split was) in
    let piece_is : piece ≡ take extent.count (drop extent.at bytes) = is ∙ ap (λ (m : ℕ). take m (drop extent.at bytes)) n in
    let long : length piece ≡ extent.count = ap length piece_is ∙ slice_size bytes extent (omega (arith, h.size)) in
    let put = put_is_replaced extent.at count settled piece (long ∙ sym n) in
    let next : put_mid extent.at count settled piece ≡ replaced settled extent.at (take extent.count (drop extent.at bytes)) =
    put ∙ ap (λ (xs : List ℕ). replaced settled extent.at xs) piece_is in (
      is_left (drop (i + 1) pending) (put_mid extent.at count settled piece) bytes (settles extent (drop (i + 1) pending) settled bytes (put_mid extent.at count settled piece) h fits next),
      ap length put ∙ length-replaced settled extent.at piece (omega arith),
    )

same_filled : (image : List ℕ) (at count byte : ℕ) → at + count ≤ length image → SameOutside at count image (replaced image at (replicate count byte))
same_filled image at count byte fits =
    let n = length-replicate count byte in
    subst (λ (m : ℕ). SameOutside at m image (replaced image at (replicate count byte))) n (replaced_outside image at (replicate count byte) (omega arith))

-- pending extents filled with a byte
pub filled_left : (pending extents : List Extent) (settled image : List ℕ) (byte : ℕ) → byte < 256 → All (λ e. e.at + e.count ≤ length settled) extents →
    ((i : ℕ) → is_pending extents i ≡ true → is_pending pending i ≡ true) → IsImage pending settled image → IsImage pending settled (filled byte extents image)
filled_left pending [] settled image byte small within inside h = h
filled_left pending (e ∷ es) settled image byte small within inside h =
    let fits : e.at + e.count ≤ length image = omega (arith, h.size, within 0 e (omega arith)) in
    let n = length-replicate e.count byte in
    let bytes : AreBytes (replicate e.count byte) = λ k d l. rw (get_or-replicate e.count k byte d (omega arith)) small in
    let next = replaced image e.at (replicate e.count byte) in
    filled_left pending es settled next byte small (λ k d l. within (suc k) d (omega arith)) (λ i at_rest. inside i (or_right (lies_in i e) (is_pending es i) at_rest))
    (grows pending pending e settled image next h (same_filled image e.at e.count byte fits)
    (replaced_bytes image e.at (replicate e.count byte) (omega arith) (image_bytes pending settled image h) bytes)
    (λ i was. was) (λ i here. inside i (or_left (lies_in i e) (is_pending es i) here)))
