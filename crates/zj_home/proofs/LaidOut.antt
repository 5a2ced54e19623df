-- What was laid out on a device, as a home.
use Rattle.std.proofs.Common.{◌≡◌, ℕ, ◌+◌, ◌*◌, ◌≤◌, List, [], ◌∷◌, ◌++◌, length, take, drop, slice_index, Option, Some, None, refl, sym, ap, ◌∙◌, arith, subst, true, inr}
use Rattle.std.specs.Prelude.{IfSome, OnOk, Result, Ok, Err}
use Rattle.std.specs.List.{slice_range}
use Rattle.std.specs.Option.{option_map}
use Rattle.std.proofs.lemmas.Grind.{common_steps}
use Rattle.std.proofs.lemmas.List.{get_or-take, take-replicate}
use Rattle.zj_block.specs.Sizes.{Numbers, IsInLimits}
use Rattle.zj_dev.specs.Disk.{DiskView, IsDisk, replaced}
use Rattle.std.specs.Prelude.{Bool, ◌==◌, ◌^◌, nat_eq, nat_lt, map}
use Rattle.std.specs.List.{starts_with, range_with_len}
use Rattle.std.proofs.Common.{replicate, eq-eqb}
use Rattle.zj_block.specs.Numbers.{zero_tail, zero_tails}
use Rattle.zj_block.specs.declared.numbers.Tail.{Tail}
use Rattle.zj_block.specs.Faults.{fault_unless, first_fault}
use Rattle.zj_block.specs.declared.sizes.TheConstants.{VERSION}
use Rattle.zj_home.specs.declared.fault.HomeFault.{HomeFault}
use Rattle.zj_home.specs.declared.fault.HomeFault.TheVariants.{NotAnImage, Sizes, Version}
use Rattle.zj_home.proofs.FieldReads.{part}
use Rattle.std.specs.Prelude.{All}
use Rattle.std.proofs.lemmas.List.Elements.{All-replicate, All-same}
use Rattle.zj_home.specs.Super.{IsTail, numbers_fault, tails_fault, tail_in, u64_in, Super, head_of, head_fault, letters, numbers_in, slot_fault, super_in, home_length}
use Rattle.zj_home.specs.Made.{HoldsBlocks, IsHome, IsLaidOut, IsMade, first_super, slot_bytes}
use Rattle.zj_dev.proofs.DiskLaws.{replaced_part, length-replaced, told_length}
use Rattle.zj_home.proofs.ImageLemmas.{fault_by_head, super_by_head, if_some}
use Rattle.zj_home.proofs.MadeLemmas.{epoch_at, first_counts, no_number_fault, no_tail_fault, numbers_at, tails_at}
use Rattle.zj_home.proofs.Replaced.{at-replaced, gate_last}

-- six places with no fault
six : (a b c d e f : Option HomeFault) → a ≡ None → b ≡ None → c ≡ None → d ≡ None → e ≡ None → f ≡ None → first_fault (a ∷ b ∷ c ∷ d ∷ e ∷ f ∷ []) ≡ None
six a b c d e f ea eb ec ed ee ef = rw (ea, eb, ec, ed, ee, ef) refl

-- a slot with no fault in its parts
slot_none : (h : List ℕ) (n : Numbers) (len : ℕ) → starts_with nat_eq (drop 1 h) letters ≡ true → numbers_in h 0 ≡ n → n.version ≡ VERSION → u64_in h 8 ≡ 1 → numbers_fault 0 n ≡ None → tails_fault h 0 n n.cores ≡ None → len ≡ home_length n
    → slot_fault h len 0 ≡ None
unfolding slot_fault
slot_none h n len starts same version epoch numbers tails size =
    let right_version : fault_unless (n.version == VERSION) (Version n.version) ≡ None = ap (λ (b : Bool). fault_unless b (Version n.version)) (eq-eqb n.version VERSION version) in
    let right_size : fault_unless (len == home_length n) (Sizes len (home_length n)) ≡ None = ap (λ (b : Bool). fault_unless b (Sizes len (home_length n))) (eq-eqb len (home_length n) size) in
    six (fault_unless (starts_with nat_eq (drop 1 h) letters) (NotAnImage 1)) (fault_unless ((numbers_in h 0).version == VERSION) (Version (numbers_in h 0).version)) (fault_unless (nat_lt (u64_in h 8) (2 ^ 62)) (NotAnImage 8))
    (numbers_fault 0 (numbers_in h 0)) (tails_fault h 0 (numbers_in h 0) (numbers_in h 0).cores) (fault_unless (len == home_length (numbers_in h 0)) (Sizes len (home_length (numbers_in h 0))))
    (ap (λ (b : Bool). fault_unless b (NotAnImage 1)) starts)
    (ap (λ (m : Numbers). fault_unless (m.version == VERSION) (Version m.version)) same ∙ right_version)
    (ap (λ (k : ℕ). fault_unless (nat_lt k (2 ^ 62)) (NotAnImage 8)) epoch)
    (ap (λ (m : Numbers). numbers_fault 0 m) same ∙ numbers)
    (ap (λ (m : Numbers). tails_fault h 0 m m.cores) same ∙ tails)
    (ap (λ (m : Numbers). fault_unless (len == home_length m) (Sizes len (home_length m))) same ∙ right_size)

-- the parts of a super
abbrev super_with : ℕ → Numbers → List Tail → Super
super_with epoch sizes tails = record { slot = 0; epoch = epoch; sizes = sizes; tails = tails }

same_super : (e e' : ℕ) (s s' : Numbers) (t t' : List Tail) → e ≡ e' → s ≡ s' → t ≡ t' → super_with e s t ≡ super_with e' s' t'
same_super e e' s s' t t' ee es et = rw (ee, es, et) refl

super_is : (h : List ℕ) (n : Numbers) → u64_in h 8 ≡ 1 → numbers_in h 0 ≡ n → map (λ core. tail_in h 0 core) (range_with_len 0 n.cores) ≡ replicate n.cores zero_tail → super_in h 0 ≡ first_super n
super_is h n epoch same tails =
    same_super (u64_in h 8) 1 (numbers_in h 0) n (map (λ core. tail_in h 0 core) (range_with_len 0 (numbers_in h 0).cores)) (replicate n.cores zero_tail) epoch same
    (ap (λ (m : Numbers). map (λ core. tail_in h 0 core) (range_with_len 0 m.cores)) same ∙ tails)

-- an image with that slot is a home
is_home : (n : Numbers) (blocks : List (List ℕ)) (rest : List ℕ) → IsInLimits n → length (slot_bytes (first_super n) ++ rest) ≡ home_length n → slice_index (slot_bytes (first_super n) ++ rest) 4096 ≡ 0
    → HoldsBlocks (slot_bytes (first_super n) ++ rest) blocks (length blocks) → IsHome (first_super n) blocks (slot_bytes (first_super n) ++ rest)
unfolding head_fault
is_home n blocks rest is many closed holds =
    let image = slot_bytes (first_super n) ++ rest in
    let shut : slice_index (head_of image) 4096 ≡ 0 = get_or-take 8192 image 4096 0 (omega arith) ∙ closed in
    let counts = first_counts n rest shut in
    let same = numbers_at n rest is in
    let slot = slot_none (head_of image) n (home_length n) refl same is.one_version (epoch_at n rest) (no_number_fault n is) (no_tail_fault n rest is) refl in
    let super = super_is (head_of image) n (epoch_at n rest) same (tails_at n rest is.most_cores) in
    record {
      opens = record {
        sound = fault_by_head image (head_of image) (home_length n) many (omega arith) refl ∙ ap (λ (o : Option ℕ). head_fault (head_of image) (home_length n) o) counts ∙ slot;
        counts = super_by_head image (head_of image) refl ∙ ap (option_map (λ slot. super_in (head_of image) slot)) counts ∙ ap (λ (s : Super). Some s) super;
      };
      blocks_are = holds;
    }

-- what was laid out is a home
pub laid_out_home : (n : Numbers) (blocks : List (List ℕ)) (image : List ℕ) → IsInLimits n → IsLaidOut (slot_bytes (first_super n)) blocks (home_length n) image → IsHome (first_super n) blocks image
laid_out_home n blocks image is laid =
    let rest = drop (length (slot_bytes (first_super n))) image in
    let e = laid.slot_is in
    subst (λ (i : List ℕ). IsHome (first_super n) blocks i) (sym e)
    (is_home n blocks rest is (ap length (sym e) ∙ laid.size_is) (ap (λ (i : List ℕ). slice_index i 4096) (sym e) ∙ laid.closed)
    (subst (λ (i : List ℕ). HoldsBlocks i blocks (length blocks)) e laid.blocks_are))

-- and so it is at a crash
pub made_by : (disk : DiskView) (n : Numbers) (blocks : List (List ℕ)) → IsInLimits n → IfSome disk.bytes (λ image. IsLaidOut (slot_bytes (first_super n)) blocks (home_length n) image)
    → ((image : List ℕ) → disk.may_leave disk.calls image ≡ true → disk.bytes ≡ Some image) → IsMade (first_super n) blocks disk
made_by disk n blocks is laid only = record {
  left = λ image may. let now = rw (only image may) at laid in laid_out_home n blocks image is now;
  given = if_some disk.bytes (λ image e h. laid_out_home n blocks image is h) laid;
}

-- the closed gates, and then the slot
laid : (image slot : List ℕ) (blocks : List (List ℕ)) (size : ℕ) → length image ≡ size → size ≡ 8192 + 512 * length blocks → 1 ≤ length slot → length slot ≤ 4096 → HoldsBlocks image blocks (length blocks)
    → IsLaidOut slot blocks size (replaced (replaced (replaced (replaced image 0 (0 ∷ [])) 4096 (0 ∷ [])) 1 (drop 1 slot)) 0 (take 1 slot))
laid image slot blocks size many is some short holds =
    let first = replaced image 0 (0 ∷ []) in
    let both = replaced first 4096 (0 ∷ []) in
    let first_many = length-replaced image 0 (0 ∷ []) (omega (arith, many, is)) in
    let both_many = length-replaced first 4096 (0 ∷ []) (omega (arith, many, is, first_many)) in
    let whole = replaced both 0 slot in
    let whole_many = length-replaced both 0 slot (omega (arith, many, is, first_many, both_many)) in
    let e = gate_last both slot some (omega (arith, many, is, first_many, both_many)) in
    let shut : slice_range whole 4096 4097 ≡ 0 ∷ [] =
    replaced_part both 0 slot 4096 4097 (omega (arith, many, is, first_many, both_many)) (inr (omega arith)) ∙ at-replaced first 4096 (0 ∷ []) 4097 (omega (arith, many, is, first_many)) refl in
    let out : IsLaidOut slot blocks size whole = record {
      slot_is = grind (arith, common_steps);
      closed = sym (part whole 4096 1 0 (omega arith)) ∙ ap (λ (p : List ℕ). slice_index p 0) shut;
      size_is = whole_many ∙ both_many ∙ first_many ∙ many;
      blocks_are = λ b below.
          replaced_part both 0 slot (8192 + 512 * b) (8192 + 512 * b + 512) (omega (arith, many, is, first_many, both_many)) (inr (omega arith))
          ∙ replaced_part first 4096 (0 ∷ []) (8192 + 512 * b) (8192 + 512 * b + 512) (omega (arith, many, is, first_many)) (inr (omega arith))
          ∙ replaced_part image 0 (0 ∷ []) (8192 + 512 * b) (8192 + 512 * b + 512) (omega (arith, many, is)) (inr (omega arith))
          ∙ holds b below;
    } in
    subst (λ (i : List ℕ). IsLaidOut slot blocks size i) (sym e) out

-- the same on a disk
pub laid_out : {Y : Type 0} (disk : DiskView) (r : Result (Unit {0}) Y) (shut end : Option (List ℕ)) (slot : List ℕ) (blocks : List (List ℕ)) (size : ℕ) → IsDisk disk → disk.size ≡ size → size ≡ 8192 + 512 * length blocks
    → 1 ≤ length slot → length slot ≤ 4096 → IfSome disk.bytes (λ image. HoldsBlocks image blocks (length blocks))
    → shut ≡ option_map (λ bytes. replaced (replaced bytes 0 (0 ∷ [])) 4096 (0 ∷ [])) disk.bytes
    → OnOk r (end ≡ option_map (λ bytes. replaced (replaced bytes 1 (drop 1 slot)) 0 (take 1 slot)) shut)
    → OnOk r (IfSome end (λ image. IsLaidOut slot blocks size image))
laid_out disk (Err y) shut end slot blocks size is same many some short holds closes ends = tt
laid_out disk (Ok x) shut end slot blocks size is same many some short holds closes ends =
    rw (ends, closes) (mapped disk.bytes (λ image told h. laid image slot blocks size (told_length disk image is told ∙ same) many some short h) holds)
  where
    mapped : (o : Option (List ℕ)) → ((image : List ℕ) → o ≡ Some image → HoldsBlocks image blocks (length blocks) → IsLaidOut slot blocks size (replaced (replaced (replaced (replaced image 0 (0 ∷ [])) 4096 (0 ∷ [])) 1 (drop 1 slot)) 0 (take 1 slot)))
        → IfSome o (λ image. HoldsBlocks image blocks (length blocks))
        → IfSome (option_map (λ bytes. replaced (replaced bytes 1 (drop 1 slot)) 0 (take 1 slot)) (option_map (λ bytes. replaced (replaced bytes 0 (0 ∷ [])) 4096 (0 ∷ [])) o)) (λ image. IsLaidOut slot blocks size image)
    mapped None follows h = tt
    mapped (Some image) follows h = follows image refl h

-- the first tails of zeros
pub zeros_taken : (n : ℕ) → n ≤ 8 → take n zero_tails ≡ replicate n zero_tail
unfolding zero_tails
zeros_taken n few = take-replicate n 64 zero_tail (omega arith)

-- the super that was made
pub first_told : (n : Numbers) (tails : List Tail) → tails ≡ zero_tails → n.cores ≤ 8 → super_with 1 n (take n.cores tails) ≡ first_super n
first_told n tails zero few = ap (λ (t : List Tail). super_with 1 n t) (ap (take n.cores) zero ∙ zeros_taken n.cores few)

-- and its slot
pub first_spelled : (n : Numbers) (tails : List Tail) (slot spelled : List ℕ) → slot ≡ spelled → spelled ≡ slot_bytes (super_with 1 n (take n.cores tails)) → tails ≡ zero_tails → n.cores ≤ 8 → slot ≡ slot_bytes (first_super n)
first_spelled n tails slot spelled same is zero few = same ∙ is ∙ ap slot_bytes (first_told n tails zero few)

-- with the slot and the size as they were passed
pub made_from : (disk : DiskView) (n : Numbers) (blocks : List (List ℕ)) (slot : List ℕ) (size : ℕ) → slot ≡ slot_bytes (first_super n) → size ≡ home_length n → IsInLimits n → IfSome disk.bytes (λ image. IsLaidOut slot blocks size image)
    → ((image : List ℕ) → disk.may_leave disk.calls image ≡ true → disk.bytes ≡ Some image) → IsMade (first_super n) blocks disk
made_from disk n blocks slot size same long is laid only =
    made_by disk n blocks is
    (subst (λ (z : ℕ). IfSome disk.bytes (λ image. IsLaidOut (slot_bytes (first_super n)) blocks z image)) long
    (subst (λ (s : List ℕ). IfSome disk.bytes (λ image. IsLaidOut s blocks size image)) same laid)) only

-- the first tails are sound
pub zeros_sound : (n : Numbers) (tails : List Tail) → tails ≡ zero_tails → IsInLimits n → All (IsTail n) (take n.cores tails)
zeros_sound n tails zero is =
    All-same (IsTail n) (take n.cores tails) (replicate n.cores zero_tail) (ap (take n.cores) zero ∙ zeros_taken n.cores is.most_cores)
    (All-replicate (IsTail n) n.cores zero_tail (omega (arith, is.least_area), omega arith))
