-- Devices that are taken out of a shelf, read, and put back.
use Rattle.std.proofs.Common.{◌≡◌, ◌≢◌, ℕ, ◌+◌, ◌<◌, ◌≤◌, List, [], ◌∷◌, slice_index, refl, sym, ap, subst, ◌∙◌, arith}
use Rattle.std.specs.Prelude.{IfSome, codes, decimal}
use Rattle.std.proofs.lemmas.Fmt.{decimal_digit, decimal_injective}
use Rattle.zj_dev.specs.Fault.{Rose}
use Rattle.zj_dev.specs.Disk.{DiskView, OnlyReads}
use Rattle.zj_dev.proofs.DiskLaws.{reads_refl, rose_since}
use Rattle.zj_dev.specs.Shelf.{Closes, ShelfView, Slot, Untold, Absent, Out, Stands}
use Rattle.zj_home.specs.Home.{IsCause}
use Rattle.zj_home.specs.declared.fault.HomeFault.{HomeFault}
use Rattle.zj_home.specs.declared.fault.HomeFault.TheVariants as homes
use Rattle.zj_mount.specs.Image.{OfDevice, OfLength, RoseUnder}
use Rattle.zj_mount.specs.Opening.{IsOpenCause, fault_of_home}
use Rattle.zj_mount.specs.Set.{IsBack, IsLent, IsPutBack, IsTakenOut, home_name, journal_name}

-- ---- names

-- the name of a journal of one digit
pub name_of : (core k : ℕ) → core ≡ k → k < 10 → 106 ∷ (48 + k) ∷ [] ≡ 106 ∷ decimal core
name_of core k e low = rw e (ap (λ (d : List ℕ). 106 ∷ d) (sym (decimal_digit k low)))

-- journals have different names
pub journals_differ : (a b : ℕ) → a < 8 → b < 8 → a ≢ b → journal_name a ≢ journal_name b
journals_differ a b small small' other e =
    let digits : decimal a ≡ decimal b = cc in
    other (decimal_injective a b (omega arith) (omega arith) digits)

-- and none of them that of home
j_not_h : (a b : ℕ) (xs ys : List ℕ) → a ≢ b → a ∷ xs ≢ b ∷ ys
j_not_h a b xs ys other e = other (ap (λ (l : List ℕ). slice_index l 0) e)

pub home_differs : (core : ℕ) → journal_name core ≢ home_name
home_differs core = j_not_h 106 104 (decimal core) (codes "ome") (λ e. omega (arith, e))

-- ---- one device

-- a device that was taken out and then read
pub lent_after : (slot now : Slot) (d d' : DiskView) → IsTakenOut slot now d → OnlyReads d d' → IsLent slot now d'
lent_after Untold now d d' taken reads = taken
lent_after (Stands stood) now d d' taken reads = (taken.0, subst (λ (x : DiskView). OnlyReads x d') taken.1 reads)
lent_after Absent now d d' taken reads = taken
lent_after Out now d d' taken reads = taken

-- and put back
pub put_after : (slot mid now : Slot) (d : DiskView) → IsLent slot mid d → Closes d mid now → IsPutBack slot now d
put_after Untold mid now d lent closes = rw lent at closes
put_after (Stands stood) mid now d lent closes = (rw lent.0 at closes, lent.1)
put_after Absent mid now d lent closes = lent
put_after Out mid now d lent closes = lent

pub put_is_back : (slot now : Slot) (d : DiskView) → IsPutBack slot now d → IsBack slot now
put_is_back Untold now d put = put
put_is_back (Stands stood) now d put = (d, put.0, put.1)
put_is_back Absent now d put = absurd put
put_is_back Out now d put = absurd put

pub back_after : (slot mid now : Slot) (d d' : DiskView) → IsTakenOut slot mid d → OnlyReads d d' → Closes d' mid now → IsBack slot now
back_after slot mid now d d' taken reads closes = put_is_back slot now d' (put_after slot mid now d' (lent_after slot mid d d' taken reads) closes)

-- nothing happened there
pub back_refl : (slot : Slot) → IsBack slot slot
back_refl Untold = refl
back_refl (Stands stood) = (stood, refl, reads_refl stood)
back_refl Absent = refl
back_refl Out = refl

pub back_same : (slot now : Slot) → now ≡ slot → IsBack slot now
back_same slot now e = subst (λ (s : Slot). IsBack slot s) (sym e) (back_refl slot)

-- what holds of a device that was taken out holds of what stood there
pub of_taken : (slot now : Slot) (d : DiskView) (P : List ℕ → Type 0) → IsTakenOut slot now d → IfSome d.bytes P → OfDevice slot P
of_taken Untold now d P taken holds = tt
of_taken (Stands stood) now d P taken holds = subst (λ (x : DiskView). IfSome x.bytes P) taken.1 holds
of_taken Absent now d P taken holds = absurd taken
of_taken Out now d P taken holds = absurd taken

pub length_taken : (slot now : Slot) (d : DiskView) (P : ℕ → Type 0) → IsTakenOut slot now d → P d.size → OfLength slot P
length_taken Untold now d P taken holds = tt
length_taken (Stands stood) now d P taken holds = subst (λ (x : DiskView). P x.size) taken.1 holds
length_taken Absent now d P taken holds = absurd taken
length_taken Out now d P taken holds = absurd taken

-- the count of a device that was put back
pub rose_put : (slot now : Slot) (from d : DiskView) → IsPutBack slot now d → ((stood : DiskView) → slot ≡ Stands stood → stood.faults ≤ from.faults) → Rose from.faults d.faults → RoseUnder slot now
rose_put Untold now from d put least rose = tt
rose_put (Stands stood) now from d put least rose = subst (λ (s : Slot). RoseUnder (Stands stood) s) (sym put.0) (rose_since stood.faults from.faults d.faults (least stood refl) rose)
rose_put Absent now from d put least rose = absurd put
rose_put Out now from d put least rose = absurd put

-- why a home was refused
pub home_cause : (before now : ShelfView) (old new : ℕ) (mid : Slot) (d d' : DiskView) (fault : HomeFault) → IsTakenOut (before home_name) mid d → OnlyReads d d' → Closes d' mid (now home_name) → IsCause d d' fault → IsOpenCause before now old new (fault_of_home fault)
home_cause before now old new mid d d' homes.DiskFault taken reads closes cause =
    rose_put (before home_name) (now home_name) d d' (put_after (before home_name) mid (now home_name) d' (lent_after (before home_name) mid d d' taken reads) closes) (stood_is (before home_name) taken) cause
  where
    stood_is : (slot : Slot) → IsTakenOut slot mid d → (stood : DiskView) → slot ≡ Stands stood → stood.faults ≤ d.faults
    stood_is Untold taken stood e = cc
    stood_is (Stands other) taken stood e = let same : d ≡ stood = taken.1 ∙ (let s : other ≡ stood = cc in s) in subst (λ (x : DiskView). stood.faults ≤ x.faults) (sym same) (omega arith)
    stood_is Absent taken stood e = absurd taken
    stood_is Out taken stood e = absurd taken
home_cause before now old new mid d d' homes.NoMemory taken reads closes cause = tt
home_cause before now old new mid d d' (homes.NotAnImage at) taken reads closes cause = of_taken (before home_name) mid d _ taken cause
home_cause before now old new mid d d' (homes.Version found) taken reads closes cause = of_taken (before home_name) mid d _ taken cause
home_cause before now old new mid d d' (homes.Sizes found expected) taken reads closes cause = of_taken (before home_name) mid d _ taken cause
