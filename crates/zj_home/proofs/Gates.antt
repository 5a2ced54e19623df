-- What the bytes behind the gates, and the gates, say of an image.
use Rattle.std.proofs.Common.{◌≡◌, ◌≢◌, ℕ, ◌+◌, ◌-◌, ◌≤◌, Bool, true, false, List, [], ◌∷◌, length, take, drop, slice_index, Option, Some, None, refl, sym, ap, ◌∙◌, arith, inl, inr}
use Rattle.std.specs.Prelude.{◌==◌, ◌⊎◌, nat_eq, nat_lt}
use Rattle.std.specs.List.{slice_range, starts_with}
use Rattle.std.proofs.lemmas.Bool.{cases_Bool, cases_lt}
use Rattle.std.proofs.lemmas.Bool.Decides.{Decides-eqb, eqb_tells}
use Rattle.std.proofs.lemmas.Grind.{common_steps}
use Rattle.std.proofs.lemmas.List.{drop-take, get_or-take, take-take}
use Rattle.std.proofs.lemmas.Slice.Eq.{starts_is}
use Rattle.zj_dev.specs.Disk.{SameOutside, replaced}
use Rattle.zj_home.specs.Super.{counting, counting_of, head_fault, head_of, is_open, letters, slot_fault, u64_in}
use Rattle.zj_home.specs.Made.{HasNoLetters, IsNoImage, IsShut}
use Rattle.zj_home.specs.declared.fault.HomeFault.TheVariants.{NotAnImage}
use Rattle.zj_home.proofs.FieldReads.{part}
use Rattle.zj_home.proofs.ImageLemmas.{fault_by_head, short}
use Rattle.zj_dev.proofs.DiskLaws.{byte_outside, length-replaced, part_outside, replaced_part}
use Rattle.zj_home.proofs.Replaced.{at-replaced}

-- the letters stay away
letters_stay : (old new : List ℕ) → slice_range new 1 8 ≡ slice_range old 1 8 → slice_range new 4097 4104 ≡ slice_range old 4097 4104 → HasNoLetters old → HasNoLetters new
letters_stay old new first second none = record {
  first = λ is. none.first (sym first ∙ is);
  second = λ is. none.second (sym second ∙ is);
}

-- where the first gate is written
pub letters_first : (old new : List ℕ) → SameOutside 0 1 old new → HasNoLetters old → HasNoLetters new
letters_first old new same = letters_stay old new (part_outside 0 1 old new 1 8 same (inr (omega arith))) (part_outside 0 1 old new 4097 4104 same (inr (omega arith)))

-- where the second gate is
pub letters_second : (old new : List ℕ) → SameOutside 4096 1 old new → HasNoLetters old → HasNoLetters new
letters_second old new same = letters_stay old new (part_outside 4096 1 old new 1 8 same (inl (omega arith))) (part_outside 4096 1 old new 4097 4104 same (inr (omega arith)))

-- and where a block is
pub letters_block : (at count : ℕ) (old new : List ℕ) → 8192 ≤ at → SameOutside at count old new → HasNoLetters old → HasNoLetters new
letters_block at count old new far same = letters_stay old new (part_outside at count old new 1 8 same (inl (omega arith))) (part_outside at count old new 4097 4104 same (inl (omega arith)))

-- the gates stay shut where a body is written
pub shut_body : (count : ℕ) (old new : List ℕ) → count ≤ 4095 → SameOutside 1 count old new → IsShut old → IsShut new
shut_body count old new few same shut = record {
  first = λ is. shut.first (sym (byte_outside 1 count old new 0 same (inl (omega arith))) ∙ is);
  second = λ is. shut.second (sym (byte_outside 1 count old new 4096 same (inr (omega arith))) ∙ is);
}

-- an image whose first byte is 1
opened : (old new : List ℕ) → drop 1 new ≡ drop 1 old → slice_index new 0 ≡ 1 → new ≡ replaced old 0 (1 ∷ [])
opened old [] same is = absurd (omega arith)
opened old (byte ∷ rest) same is = grind (arith, common_steps)

-- where the first gate is written the gates stay shut, or it is 1
pub shut_or_open : (old new : List ℕ) → SameOutside 0 1 old new → IsShut old → IsShut new ⊎ (new ≡ replaced old 0 (1 ∷ []))
shut_or_open old new same shut = elim (eqb_tells (slice_index new 0) 1) [
  | inl is ↦ inr (opened old new same.behind is.1)
  | inr not ↦ inl (record { first = not.1; second = λ is. shut.second (sym (byte_outside 0 1 old new 4096 same (inr (omega arith))) ∙ is) })
]

-- no letters in the image, none in its head
no_start : (image : List ℕ) (at m : ℕ) → at + (7 + m) ≡ 8192 → slice_range image at (at + 7) ≢ letters → starts_with nat_eq (drop at (head_of image)) letters ≡ false
no_start image at m within none = elim (cases_Bool (starts_with nat_eq (drop at (head_of image)) letters)) [
  | inl is ↦ absurd (none (found is))
  | inr not ↦ not
]
  where
    part : take 7 (drop at (head_of image)) ≡ slice_range image at (at + 7)
    part =
        let size : at + 7 - at ≡ 7 = omega arith in
        let head : drop at (head_of image) ≡ take (7 + m) (drop at image) = rw (← within) (drop-take at (7 + m) image) in
        ap (take 7) head ∙ take-take 7 (7 + m) (drop at image) (omega arith) ∙ rw size refl

    found : starts_with nat_eq (drop at (head_of image)) letters ≡ true → slice_range image at (at + 7) ≡ letters
    found is =
        let whole = (starts_is Decides-eqb (drop at (head_of image)) letters true (sym is)).0 refl in
        sym part ∙ ap (take 7) whole

-- a slot without the letters is refused there
no_letters_slot : (head : List ℕ) (len slot : ℕ) → starts_with nat_eq (drop (slot + 1) head) letters ≡ false → slot_fault head len slot ≡ Some (NotAnImage (slot + 1))
unfolding slot_fault
no_letters_slot head len slot none = rw none refl

-- whichever slot counts
none_counts : (head : List ℕ) (len : ℕ) (a b later : Bool) → starts_with nat_eq (drop 1 head) letters ≡ false → starts_with nat_eq (drop 4097 head) letters ≡ false
    → (at : ℕ) × (head_fault head len (counting_of a b later) ≡ Some (NotAnImage at))
unfolding head_fault
none_counts head len true true true first second = (4097, no_letters_slot head len 4096 second)
none_counts head len true true false first second = (1, no_letters_slot head len 0 first)
none_counts head len true false later first second = (1, no_letters_slot head len 0 first)
none_counts head len false true later first second = (4097, no_letters_slot head len 4096 second)
none_counts head len false false later first second = (0, refl)

-- an image by its head
by_head : (image : List ℕ) → (at : ℕ) × (head_fault (head_of image) (length image) (counting (head_of image)) ≡ Some (NotAnImage at)) → IsNoImage image
by_head image fault = elim (cases_lt (length image) 8192) [
  | inl below ↦ (0, short image below)
  | inr long ↦ (fault.0, fault_by_head image (head_of image) (length image) refl long refl ∙ fault.1)
]

-- what has no letters is no image
pub no_letters : (image : List ℕ) → HasNoLetters image → IsNoImage image
unfolding counting
no_letters image none =
    let head = head_of image in
    by_head image (none_counts head (length image) (is_open head 0) (is_open head 4096) (nat_lt (u64_in head 8) (u64_in head 4104)) (no_start image 1 8184 refl none.first) (no_start image 4097 4088 refl none.second))

-- what is shut is none
pub shut_image : (image : List ℕ) → IsShut image → IsNoImage image
unfolding counting head_fault
shut_image image shut =
    let head = head_of image in
    let first : is_open head 0 ≡ false = closed (slice_index head 0) (λ is. shut.first (sym (get_or-take 8192 image 0 0 (omega arith)) ∙ is)) in
    let second : is_open head 4096 ≡ false = closed (slice_index head 4096) (λ is. shut.second (sym (get_or-take 8192 image 4096 0 (omega arith)) ∙ is)) in
    let none : counting_of (is_open head 0) (is_open head 4096) (nat_lt (u64_in head 8) (u64_in head 4104)) ≡ None = rw (first, second) refl in
    by_head image (0, ap (λ (o : Option ℕ). head_fault head (length image) o) none)
  where
    closed : (gate : ℕ) → gate ≢ 1 → (gate == 1) ≡ false
    closed gate not = elim (eqb_tells gate 1) [ inl is ↦ absurd (not is.1) | inr off ↦ off.0 ]

-- both gates were closed
pub closed_shut : (image : List ℕ) → 8192 ≤ length image → IsShut (replaced (replaced image 0 (0 ∷ [])) 4096 (0 ∷ []))
closed_shut image long =
    let one = replaced image 0 (0 ∷ []) in
    let both = replaced one 4096 (0 ∷ []) in
    let many = length-replaced image 0 (0 ∷ []) (omega (arith, long)) in
    let first : slice_range both 0 1 ≡ 0 ∷ [] = replaced_part one 4096 (0 ∷ []) 0 1 (omega (arith, long, many)) (inl (omega arith)) ∙ at-replaced image 0 (0 ∷ []) 1 (omega (arith, long)) refl in
    let second : slice_range both 4096 4097 ≡ 0 ∷ [] = at-replaced one 4096 (0 ∷ []) 4097 (omega (arith, long, many)) refl in
    let a : slice_index both 0 ≡ 0 = sym (part both 0 1 0 (omega arith)) ∙ ap (λ (p : List ℕ). slice_index p 0) first in
    let b : slice_index both 4096 ≡ 0 = sym (part both 4096 1 0 (omega arith)) ∙ ap (λ (p : List ℕ). slice_index p 0) second in
    record { first = λ is. absurd (omega (arith, a, is)); second = λ is. absurd (omega (arith, b, is)) }
