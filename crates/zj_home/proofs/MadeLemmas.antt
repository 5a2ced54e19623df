-- The first slot of a home that was just made, read back.
use Rattle.std.proofs.Common.{◌≡◌, ℕ, zero, suc, ◌+◌, ◌*◌, ◌^◌, ◌<◌, ◌≤◌, List, ◌++◌, length, slice_index, Option, Some, None, refl, sym, ap, subst, ◌∙◌, arith, replicate}
use Rattle.std.specs.Prelude.{map, option_map}
use Rattle.std.specs.List.{flat_map, range_with_len}
use Rattle.std.proofs.lemmas.Nat.{from_le_bytes-to_le_bytes_4, from_le_bytes-to_le_bytes_8}
use Rattle.std.proofs.lemmas.Grind.{common_steps}
use Rattle.std.proofs.lemmas.Bool.Decides.{nat_tests}
use Rattle.std.proofs.lemmas.List.{get_or-append_right, get_or_append_left, get_or-take, get_or-replicate, length-append, length-replicate}
use Rattle.std.proofs.lemmas.List.{replicate-append-replicate}
use Rattle.std.proofs.lemmas.List.Concat.{flat_map-cons}
use Rattle.std.proofs.lemmas.List.FromFn.{fill_by_all}
use Rattle.zj_block.specs.Numbers.{zero_tail}
use Rattle.zj_block.specs.Sizes.{Numbers, IsInLimits}
use Rattle.zj_block.specs.declared.numbers.Tail.{Tail}
use Rattle.zj_home.specs.Super.{counting, field_fault, head_of, numbers_fault, numbers_in, tail_fault, tail_in, u32_in, u64_in}
use Rattle.zj_block.specs.Faults.{first_fault}
use Rattle.zj_block.proofs.Limits.{none_out}
use Rattle.zj_home.specs.Made.{field_bytes, first_super, slot_bytes, tail_bytes}
use Rattle.zj_home.specs.declared.fault.HomeFault.{HomeFault}
use Rattle.zj_home.proofs.FieldReads.{u64_read}
use Rattle.zj_home.proofs.FaultLemmas.{none_more}

-- the slot of a home that was just made
abbrev first_slot : Numbers → List ℕ
first_slot n = slot_bytes (first_super n)

-- the fields in front of the tails
abbrev fields : Numbers → List ℕ
fields n = field_bytes 1 n

-- tails of zeros are zeros
zeros_spelled : (c : ℕ) → flat_map tail_bytes (replicate c zero_tail) ≡ replicate (16 * c) 0
zeros_spelled zero = refl
zeros_spelled (suc c) =
    let e : 16 * suc c ≡ 16 + 16 * c = omega arith in
    flat_map-cons tail_bytes zero_tail (replicate c zero_tail) ∙ ap (λ (l : List ℕ). tail_bytes zero_tail ++ l) (zeros_spelled c) ∙ replicate-append-replicate 16 (16 * c) 0 ∙ sym (ap (λ (k : ℕ). replicate k 0) e)

slot_is : (n : Numbers) → first_slot n ≡ fields n ++ replicate (16 * n.cores) 0
slot_is n = ap (λ (l : List ℕ). fields n ++ l) (zeros_spelled n.cores)

-- the head of an image with that slot
abbrev head : Numbers → List ℕ → List ℕ
head n rest = head_of (first_slot n ++ rest)

version_at : (n : Numbers) (rest : List ℕ) → n.version < 2 ^ 32 → u32_in (head n rest) 16 ≡ n.version
unfolding u32_in
version_at n rest fits = from_le_bytes-to_le_bytes_4 n.version fits

cores_at : (n : Numbers) (rest : List ℕ) → n.cores < 2 ^ 32 → u32_in (head n rest) 20 ≡ n.cores
unfolding u32_in
cores_at n rest fits = from_le_bytes-to_le_bytes_4 n.cores fits

blocks_at : (n : Numbers) (rest : List ℕ) → n.blocks < 2 ^ 32 → u32_in (head n rest) 24 ≡ n.blocks
unfolding u32_in
blocks_at n rest fits = from_le_bytes-to_le_bytes_4 n.blocks fits

nodes_at : (n : Numbers) (rest : List ℕ) → n.nodes < 2 ^ 32 → u32_in (head n rest) 28 ≡ n.nodes
unfolding u32_in
nodes_at n rest fits = from_le_bytes-to_le_bytes_4 n.nodes fits

area_at : (n : Numbers) (rest : List ℕ) → n.area < 2 ^ 64 → u64_in (head n rest) 32 ≡ n.area
unfolding u64_in
area_at n rest fits = from_le_bytes-to_le_bytes_8 n.area fits

pub epoch_at : (n : Numbers) (rest : List ℕ) → u64_in (head n rest) 8 ≡ 1
unfolding u64_in
epoch_at n rest = refl

-- the numbers are read back
pub numbers_at : (n : Numbers) (rest : List ℕ) → IsInLimits n → numbers_in (head n rest) 0 ≡ n
numbers_at n rest is =
    let a = version_at n rest (omega (arith, is.one_version)) in
    let b = cores_at n rest (omega (arith, is.most_cores)) in
    let c = blocks_at n rest (omega (arith, is.most_blocks)) in
    let d = nodes_at n rest (omega (arith, is.most_nodes)) in
    let e = area_at n rest (omega (arith, is.most_area)) in
    rw (a, b, c, d, e) refl

-- how long the slot is
pub length-first_slot : (n : Numbers) → length (first_slot n) ≡ 40 + 16 * n.cores
length-first_slot n = ap length (slot_is n) ∙ length-append (fields n) (replicate (16 * n.cores) 0) ∙ ap (λ k. 40 + k) (length-replicate (16 * n.cores) 0)

-- behind the fields there are zeros
zero_byte : (n : Numbers) (rest : List ℕ) (m : ℕ) → 40 ≤ m → m < 40 + 16 * n.cores → m < 8192 → slice_index (head n rest) m ≡ 0
zero_byte n rest m behind within below =
    let zeros = replicate (16 * n.cores) 0 in
    let many : length (first_slot n) ≡ 40 + 16 * n.cores = length-first_slot n in
    get_or-take 8192 (first_slot n ++ rest) m 0 below
    ∙ get_or_append_left (first_slot n) rest 0 m (omega (arith, many))
    ∙ ap (λ (l : List ℕ). slice_index l m) (slot_is n)
    ∙ get_or-append_right (fields n) zeros 40 m 0 refl behind
    ∙ grind (arith, common_steps, get_or-replicate)

-- a number of zeros
zero_number : (bytes : List ℕ) (at : ℕ) → ((i : ℕ) → i < 8 → slice_index bytes (at + i) ≡ 0) → u64_in bytes at ≡ 0
zero_number bytes at zeros =
    let here : at + 0 ≡ at = omega arith in
    let b0 = sym (ap (λ k. slice_index bytes k) here) ∙ zeros 0 (omega arith) in
    let b1 = zeros 1 (omega arith) in
    let b2 = zeros 2 (omega arith) in
    let b3 = zeros 3 (omega arith) in
    let b4 = zeros 4 (omega arith) in
    let b5 = zeros 5 (omega arith) in
    let b6 = zeros 6 (omega arith) in
    let b7 = zeros 7 (omega arith) in
    sym (u64_read bytes at) ∙ rw (b0, b1, b2, b3, b4, b5, b6, b7) refl

-- each tail is zero
tail_at : (n : Numbers) (rest : List ℕ) (core : ℕ) → n.cores ≤ 8 → core < n.cores → tail_in (head n rest) 0 core ≡ zero_tail
tail_at n rest core few below =
    let place : u64_in (head n rest) (40 + 16 * core) ≡ 0 = zero_number (head n rest) (40 + 16 * core) (λ i within. zero_byte n rest (40 + 16 * core + i) (omega arith) (omega arith) (omega arith)) in
    let number : u64_in (head n rest) (48 + 16 * core) ≡ 0 = zero_number (head n rest) (48 + 16 * core) (λ i within. zero_byte n rest (48 + 16 * core + i) (omega arith) (omega arith) (omega arith)) in
    rw (place, number) refl

-- the tails are read back
pub tails_at : (n : Numbers) (rest : List ℕ) → n.cores ≤ 8 → map (λ core. tail_in (head n rest) 0 core) (range_with_len 0 n.cores) ≡ replicate n.cores zero_tail
tails_at n rest few =
    sym (fill_by_all (λ core. tail_in (head n rest) 0 core) (replicate n.cores zero_tail) n.cores zero_tail (length-replicate n.cores zero_tail)
    (λ k below. get_or-replicate n.cores k zero_tail zero_tail below ∙ sym (tail_at n rest k few below)))

-- places with no fault
none_among : (f : ℕ → Option HomeFault) (n : ℕ) → ((k : ℕ) → k < n → f k ≡ None) → first_fault (map f (range_with_len 0 n)) ≡ None
none_among f zero none = refl
none_among f (suc n) none = let e : n + 1 ≡ suc n = omega arith in subst (λ (k : ℕ). first_fault (map f (range_with_len 0 k)) ≡ None) e (none_more f n (none_among f n (λ k below. none k (omega arith))) (none n (omega arith)))

-- no tail has a fault
pub no_tail_fault : (n : Numbers) (rest : List ℕ) → IsInLimits n → first_fault (map (λ core. tail_fault 0 n core (tail_in (head n rest) 0 core)) (range_with_len 0 n.cores)) ≡ None
no_tail_fault n rest is =
    none_among (λ core. tail_fault 0 n core (tail_in (head n rest) 0 core)) n.cores
    (λ k below. ap (λ (t : Tail). tail_fault 0 n k t) (tail_at n rest k is.most_cores below) ∙ grind (arith, common_steps, nat_tests, is.least_area))

-- numbers within their limits have no fault
pub no_number_fault : (n : Numbers) → IsInLimits n → numbers_fault 0 n ≡ None
no_number_fault n is = ap (option_map (field_fault 0 n)) (none_out n is)

-- the first slot counts
pub first_counts : (n : Numbers) (rest : List ℕ) → slice_index (head n rest) 4096 ≡ 0 → counting (head n rest) ≡ Some 0
unfolding counting
first_counts n rest closed = rw closed refl
