-- What the head of a device says of its image.
use Rattle.std.proofs.Common.{◌≡◌, ℕ, ◌<◌, ◌≤◌, true, false, List, [], ◌∷◌, ◌++◌, length, take, Option, Some, None, refl, sym, ap, subst, ◌∙◌, arith}
use Rattle.std.specs.Prelude.{IfSome, IfOk, IfErr, OnOk, Result, Ok, Err, is_err, nat_le}
use Rattle.std.specs.List.{slice_range}
use Rattle.std.specs.Option.{option_map}
use Rattle.std.proofs.lemmas.Grind.{common_steps}
use Rattle.std.proofs.lemmas.Bool.Decides.{nat_tests}
use Rattle.std.proofs.lemmas.List.{take-append-le, take_all}
use Rattle.zj_dev.specs.Disk.{DiskView, IsDisk}
use Rattle.zj_dev.proofs.DiskLaws.{told_length}
use Rattle.zj_block.specs.Faults.{first_fault}
use Rattle.zj_home.specs.Super.{IsOfBytes, OpensAs, counting, head_fault, image_fault, super_in, super_of}
use Rattle.zj_home.specs.Home.{IsCause}
use Rattle.zj_home.specs.Told.{super_told}
use Rattle.zj_home.specs.declared.slot.Told.{Told}
use Rattle.zj_home.specs.declared.fault.HomeFault.{HomeFault}
use Rattle.zj_home.specs.declared.fault.HomeFault.TheVariants.{DiskFault, NoMemory, NotAnImage, Version, Sizes}

-- what follows for each value that may be there
pub if_some : {X : Type 0} (o : Option X) {P Q : X → Type 0} → ((x : X) → o ≡ Some x → P x → Q x) → IfSome o P → IfSome o Q
if_some None follows p = tt
if_some (Some x) follows p = follows x refl p

-- what holds of each value that may be there
pub if_some_all : {X : Type 0} (o : Option X) {Q : X → Type 0} → ((x : X) → o ≡ Some x → Q x) → IfSome o Q
if_some_all None follows = tt
if_some_all (Some x) follows = follows x refl

-- a list of one
one : (o : Option HomeFault) → first_fault (o ∷ []) ≡ o
one None = refl
one (Some fault) = refl

-- a device that is too short for the slots
pub short : (image : List ℕ) → length image < 8192 → image_fault image ≡ Some (NotAnImage 0)
unfolding image_fault
short image h = grind (arith, common_steps, nat_tests)

-- the head of a device tells why it is refused
pub fault_by_head : (image head : List ℕ) (len : ℕ) → length image ≡ len → 8192 ≤ len → head ≡ slice_range image 0 8192 → image_fault image ≡ head_fault head len (counting head)
unfolding image_fault
fault_by_head image head len many long e =
    let there : nat_le 8192 (length image) ≡ true = grind (arith, common_steps, nat_tests) in
    rw (there, ← e, many) (one (head_fault head len (counting head)))

-- and its super
pub super_by_head : (image head : List ℕ) → head ≡ slice_range image 0 8192 → super_of image ≡ option_map (λ slot. super_in head slot) (counting head)
unfolding super_of
super_by_head image head e = rw (← e) refl

-- a fault that the bytes have is a cause
pub cause_of : (old new : DiskView) (fault : HomeFault) → IsOfBytes fault → IfSome old.bytes (λ image. image_fault image ≡ Some fault) → IsCause old new fault
cause_of old new DiskFault is h = absurd is
cause_of old new NoMemory is h = absurd is
cause_of old new (NotAnImage at) is h = h
cause_of old new (Version found) is h = h
cause_of old new (Sizes found expected) is h = h

-- what the head of a disk tells of its image
abbrev pub TellsImage : DiskView → List ℕ → ℕ → Type 0
TellsImage disk head len = IfSome disk.bytes (λ image. (image_fault image ≡ head_fault head len (counting head)) × (super_of image ≡ option_map (λ slot. super_in head slot) (counting head)))

-- a head that was read tells it
pub tells_image : (disk : DiskView) (head : List ℕ) (len end : ℕ) → IsDisk disk → len ≡ disk.size → 8192 ≤ len → end ≡ 8192 → IfSome disk.bytes (λ bytes. head ≡ slice_range bytes 0 end) → TellsImage disk head len
tells_image disk head len end is many long e read =
    if_some disk.bytes (λ image told h.
    let same : head ≡ slice_range image 0 8192 = subst (λ (k : ℕ). head ≡ slice_range image 0 k) e h in
    (fault_by_head image head len (told_length disk image is told ∙ sym many) long same, super_by_head image head same)) read

-- a device that is too short, as a disk
pub short_disk : (disk : DiskView) (len : ℕ) → IsDisk disk → len ≡ disk.size → len < 8192 → IfSome disk.bytes (λ image. image_fault image ≡ Some (NotAnImage 0))
short_disk disk len is many h = if_some_all disk.bytes (λ image told. let e = told_length disk image is told in short image (omega (arith, e, many, h)))

-- what was read from the head is the super of the image
pub told_from_head : (r : Result Told HomeFault) (disk : DiskView) (head : List ℕ) (len : ℕ) → TellsImage disk head len
    → OnOk r (head_fault head len (counting head) ≡ None) → IfOk r (λ told. option_map (λ slot. super_in head slot) (counting head) ≡ Some (super_told told))
    → IfOk r (λ told. IfSome disk.bytes (λ image. OpensAs image (super_told told)))
told_from_head (Ok told) disk head len tells none is = if_some disk.bytes (λ image e h. record { sound = h.0 ∙ none; counts = h.1 ∙ is }) tells
told_from_head (Err fault) disk head len tells none is = tt

-- a fault of the head is one of the image
pub cause_from_head : (r : Result Told HomeFault) (old new : DiskView) (head : List ℕ) (len : ℕ) → TellsImage old head len
    → IfErr r (λ fault. head_fault head len (counting head) ≡ Some fault) → IfErr r IsOfBytes → IfErr r (IsCause old new)
cause_from_head (Ok told) old new head len tells is refusal = tt
cause_from_head (Err fault) old new head len tells is refusal = cause_of old new fault refusal (if_some old.bytes (λ image e h. h.0 ∙ is) tells)

-- a result that is no error is Ok
pub on_ok : {X Y P : Type 0} (r : Result X Y) → is_err r ≡ false → OnOk r P → P
on_ok (Ok x) good p = p
on_ok (Err y) good p = cc

-- the front of a list whose front was written
pub written_front : (into rest whole : List ℕ) (n : ℕ) → length into ≡ n → whole ≡ take n (into ++ rest) → whole ≡ into
written_front into rest whole n many is = grind (arith, common_steps, take-append-le n into rest (omega arith), take_all n into (omega arith))

-- two writes and a sync
pub two_writes : {Y : Type 0} (f g : List ℕ → List ℕ) (r : Result (Unit {0}) Y) (o p q s : Option (List ℕ)) → p ≡ option_map f o → q ≡ option_map g p → s ≡ q → OnOk r (s ≡ option_map (λ bytes. g (f bytes)) o)
two_writes f g (Err y) o p q s first second last = tt
two_writes f g (Ok x) None p q s first second last = cc
two_writes f g (Ok x) (Some bytes) p q s first second last = last ∙ second ∙ ap (option_map g) first
