-- Parts of bytes, and a buffer that two parts were read into.
use Rattle.std.proofs.Common.{◌≡◌, ℕ, ◌+◌, ◌-◌, ◌<◌, ◌≤◌, List, [], ◌∷◌, ◌++◌, length, take, drop, slice_index, sym, ap, subst, ◌∙◌, arith, append_assoc, length-append}
use Rattle.std.specs.List.{slice_range}
use Rattle.std.specs.Prelude.{IfSome, Option, Some, None}
use Rattle.std.proofs.Math.Seq.{take-add}
use Rattle.std.proofs.lemmas.List.{drop-drop, length-take-le, take-append-le, take-take, take_at}
use Rattle.std.proofs.lemmas.List.Edits.{get_or-between}
use borrow.Rule.Slice.PartMut.{put_mid, post_of}

-- so many bytes from a place on
pub part_is : (image : List ℕ) (p n : ℕ) → slice_range image p (p + n) ≡ take n (drop p image)
part_is image p n = let e : p + n - p ≡ n = omega arith in ap (λ (k : ℕ). take k (drop p image)) e

-- two parts, one behind the other
pub part_split : (image : List ℕ) (p h m : ℕ) → slice_range image p (p + (h + m)) ≡ slice_range image p (p + h) ++ slice_range image (p + h) (p + h + m)
part_split image p h m =
    let both : take (h + m) (drop p image) ≡ take h (drop p image) ++ take m (drop h (drop p image)) = take-add h m (drop p image) in
    let further : drop h (drop p image) ≡ drop (p + h) image = drop-drop h p image in
    part_is image p (h + m) ∙ both ∙ ap (λ (l : List ℕ). take h (drop p image) ++ take m l) further
    ∙ ap (λ (l : List ℕ). l ++ take m (drop (p + h) image)) (sym (part_is image p h))
    ∙ ap (λ (l : List ℕ). slice_range image p (p + h) ++ l) (sym (part_is image (p + h) m))

-- the front of a list whose middle was written
pub take_put_mid : (h m : ℕ) (xs ys : List ℕ) → h ≤ length xs → length ys ≡ m → take (h + m) (put_mid h m xs ys) ≡ take h xs ++ ys
take_put_mid h m xs ys within many =
    let front = length-take-le h xs within in
    let whole : put_mid h m xs ys ≡ (take h xs ++ ys) ++ post_of h m xs = sym (append_assoc (take h xs) ys (post_of h m xs)) in
    ap (take (h + m)) whole ∙ take_at (take h xs ++ ys) (post_of h m xs) (h + m) (omega (arith, length-append (take h xs) ys, front, many))

-- the first byte of a part
pub first_byte : (image : List ℕ) (p : ℕ) (into rest : List ℕ) → 0 < length into → into ≡ slice_range image p (p + length into) → slice_index (into ++ rest) 0 ≡ slice_index image p
first_byte image p [] rest some e = absurd (omega arith)
first_byte image p (b ∷ into) rest some e =
    let here : p + 0 ≡ p = omega arith in
    let n = length (b ∷ into) in
    ap (λ (l : List ℕ). slice_index l 0) e ∙ get_or-between image p (p + n) 0 0 (omega arith) ∙ ap (λ (k : ℕ). slice_index image k) here

-- a head that was read, and then the rest
pub both_read : (image buffer head rest : List ℕ) (p h len : ℕ) → h ≤ len → length head ≡ h → length rest ≡ len - h → head ≡ slice_range image p (p + length head) → rest ≡ slice_range image (p + h) (p + h + length rest)
    → take len (put_mid h (len - h) (head ++ drop h buffer) rest) ≡ slice_range image p (p + len)
both_read image buffer head rest p h len le head_len rest_len head_is rest_is =
    let m = len - h in
    let all : h + m ≡ len = omega arith in
    let front : take h (head ++ drop h buffer) ≡ head = take_at head (drop h buffer) h head_len in
    let room : h ≤ length (head ++ drop h buffer) = omega (arith, length-append head (drop h buffer), head_len) in
    subst (λ (k : ℕ). take k (put_mid h m (head ++ drop h buffer) rest) ≡ slice_range image p (p + k)) all
    (take_put_mid h m (head ++ drop h buffer) rest room rest_len
    ∙ ap (λ (l : List ℕ). l ++ rest) (front ∙ head_is ∙ ap (λ (k : ℕ). slice_range image p (p + k)) head_len)
    ∙ ap (λ (l : List ℕ). slice_range image p (p + h) ++ l) (rest_is ∙ ap (λ (k : ℕ). slice_range image (p + h) (p + h + k)) rest_len)
    ∙ sym (part_split image p h m))

-- writing behind the first bytes leaves them
pub front_stays : (h m n : ℕ) (xs ys : List ℕ) → n ≤ h → h ≤ length xs → take n (put_mid h m xs ys) ≡ take n xs
front_stays h m n xs ys le within =
    let front = length-take-le h xs within in
    let room : n ≤ length (take h xs) = omega (arith, front) in
    take-append-le n (take h xs) (ys ++ post_of h m xs) room ∙ take-take n h xs le

-- what holds of bytes that are told twice
pub if_some : {X : Type 0} {P Q : X → Type 0} (o : Option X) → ((x : X) → P x → Q x) → IfSome o P → IfSome o Q
if_some None follows p = tt
if_some (Some x) follows p = follows x p

pub if_both : {X : Type 0} {P Q R : X → Type 0} (o o' : Option X) → o' ≡ o → ((x : X) → P x → Q x → R x) → IfSome o P → IfSome o' Q → IfSome o R
if_both None o' same follows p q = tt
if_both (Some x) None same follows p q = cc
if_both {Q = Q} (Some x) (Some y) same follows p q = let e : y ≡ x = cc in follows x p (subst Q e q)

-- a buffer that was written whole
pub written_whole : (into rest whole : List ℕ) (n : ℕ) → length into ≡ n → whole ≡ take n (into ++ rest) → whole ≡ into
written_whole into rest whole n many is = is ∙ take_at into rest n many
