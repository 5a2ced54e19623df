-- The devices of an image, put back one after the other.
use Rattle.std.proofs.Common.{◌≡◌, ◌≢◌, inl, inr, ℕ, ◌+◌, ◌<◌, ◌≤◌, List, ◌∷◌, length, drop, get_or, sym, ap, subst, ◌∙◌, arith, below_more}
use Rattle.std.specs.Prelude.{IfErr, IfSome, OnOk, MatchOption, slice_get, Option, Some, None, Result, Ok, Err}
use Rattle.std.specs.Result.{result_and}
use Rattle.std.specs.Fmt.{decimal}
use Rattle.std.proofs.lemmas.Fmt.{decimal_injective}
use Rattle.std.proofs.lemmas.List.{drop_more}
use Rattle.std.proofs.lemmas.Option.{slice_get-get_or, slice_get_cases}
use Rattle.zj_dev.specs.Disk.{DiskView}
use Rattle.zj_dev.specs.Fault.{Rose}
use Rattle.zj_dev.specs.Shelf.{ShelfView, Slot, Untold, Absent, Out, Stands, Closes, OthersStay}
use Rattle.zj_area.specs.Journal.{AreaView}
use Rattle.zj_mount.specs.declared.fault.CloseFault.{CloseFault}
use Rattle.zj_mount.specs.Set.{AllBack, ClosesAll, IsBack, IsClosed, IsLent, IsOut, IsPutBack, home_name, journal_name}

-- The journals of these areas that stand before that core are closed.
abbrev pub ClosedBelow : {D : Type 0} → (D → DiskView) → List (AreaView D) → ℕ → ShelfView → ShelfView → Type 0
ClosedBelow view areas count old now = (core : ℕ) → core < count → IfSome (slice_get areas core) (λ area. Closes (view area.device) (old (journal_name core)) (now (journal_name core)))

-- All other names have what they had.
abbrev pub KeptBut : ℕ → ShelfView → ShelfView → Type 0
KeptBut count old now = (name : List ℕ) → ((core : ℕ) → core < count → name ≢ journal_name core) → now name ≡ old name

-- the names tell the devices apart
pub apart : (core other : ℕ) → core < 8 → other < 8 → core ≢ other → journal_name core ≢ journal_name other
apart core other small below differ same =
    let digits : decimal core ≡ decimal other = cc in
    differ (decimal_injective core other (omega arith) (omega arith) digits)

pub no_home : (core : ℕ) → journal_name core ≢ home_name
no_home core same =
    let first : ◌≡◌ {A = ℕ} 106 104 = ap (λ (name : List ℕ). get_or name 0 0) same in
    absurd (omega arith)

-- what is left of a list
pub at_drop : {X : Type 0} (xs : List X) (i : ℕ) (x : X) (rest : List X) → i < length xs → drop i xs ≡ x ∷ rest → (slice_get xs i ≡ Some x) × (drop (i + 1) xs ≡ rest)
at_drop xs i x rest within is =
    let front = drop_more xs i x within in
    let same : get_or xs i x ≡ x = cc in
    (slice_get-get_or xs i x within ∙ ap Some same, cc)

-- a slot that a device is put back into
pub put_back : (before old now : Slot) (disk : DiskView) → IsLent before old disk → Closes disk old now → IsPutBack before now disk
put_back Untold old now disk lent closed = subst (λ slot. Closes disk slot now) lent closed
put_back (Stands stood) old now disk lent closed = (subst (λ slot. Closes disk slot now) lent.0 closed, lent.1)
put_back Absent old now disk lent closed = absurd lent
put_back Out old now disk lent closed = absurd lent

pub still : (before now : Slot) (disk : DiskView) → IsPutBack before now disk → IsBack before now
still Untold now disk back = back
still (Stands stood) now disk back = (disk, back.0, back.1)
still Absent now disk back = absurd back
still Out now disk back = absurd back

-- the slot of a journal that has an area, or none
pub put_back_some : {D : Type 0} (view : D → DiskView) (found : Option (AreaView D)) (before old new : Slot)
    → MatchOption found (IsBack before old) (λ area. IsLent before old (view area.device))
    → MatchOption found (new ≡ old) (λ area. Closes (view area.device) old new)
    → MatchOption found (IsBack before new) (λ area. IsPutBack before new (view area.device))
put_back_some view None before old new out closed = subst (IsBack before) (sym closed) out
put_back_some view (Some area) before old new out closed = put_back before old new (view area.device) out closed

pub still_some : {D : Type 0} (view : D → DiskView) (found : Option (AreaView D)) (before now : Slot)
    → MatchOption found (IsBack before now) (λ area. IsPutBack before now (view area.device)) → IsBack before now
still_some view None before now back = back
still_some view (Some area) before now back = still before now (view area.device) back

-- one more journal is closed
pub closed_more : {D : Type 0} (view : D → DiskView) (areas : List (AreaView D)) (count : ℕ) (area : AreaView D) (old now new : ShelfView) → count < 8
    → slice_get areas count ≡ Some area → ClosedBelow view areas count old now → KeptBut count old now
    → Closes (view area.device) (now (journal_name count)) (new (journal_name count)) → OthersStay (journal_name count) now new
    → ClosedBelow view areas (count + 1) old new
closed_more view areas count area old now new few at below kept closed stay =
    below_more (λ core. IfSome (slice_get areas core) (λ a. Closes (view a.device) (old (journal_name core)) (new (journal_name core)))) count
    (λ core lt. subst (λ slot. IfSome (slice_get areas core) (λ a. Closes (view a.device) (old (journal_name core)) slot))
    (sym (stay (journal_name core) (apart core count (omega arith) (omega arith) (omega arith))))
    (below core lt))
    (subst (λ found. IfSome found (λ a. Closes (view a.device) (old (journal_name count)) (new (journal_name count)))) (sym at)
    (subst (λ slot. Closes (view area.device) slot (new (journal_name count)))
    (kept (journal_name count) (λ core lt. apart count core (omega arith) (omega arith) (omega arith)))
    closed))

pub kept_more : (count : ℕ) (old now new : ShelfView) → KeptBut count old now → OthersStay (journal_name count) now new → KeptBut (count + 1) old new
kept_more count old now new kept stay name other =
    stay name (other count (omega arith)) ∙ kept name (λ core below. other core (omega arith))

-- the same, by the name and the device that were handed in
pub more : {D : Type 0} (view : D → DiskView) (areas : List (AreaView D)) (count : ℕ) (area : AreaView D) (old now new : ShelfView) (name : List ℕ) (device : D) → count < 8
    → name ≡ journal_name count → device ≡ area.device
    → slice_get areas count ≡ Some area → ClosedBelow view areas count old now → KeptBut count old now
    → Closes (view device) (now name) (new name) → OthersStay name now new
    → ClosedBelow view areas (count + 1) old new × KeptBut (count + 1) old new
more view areas count area old now new name device few is_name is_device at below kept closed stay =
    let others = subst (λ n. OthersStay n now new) is_name stay in
    let by_name = subst (λ n. Closes (view device) (now n) (new n)) is_name closed in (
      closed_more view areas count area old now new few at below kept (subst (λ d. Closes (view d) (now (journal_name count)) (new (journal_name count))) is_device by_name) others,
      kept_more count old now new kept others,
    )

-- each fault has a property, and the count of faults rose
abbrev pub HasCause : {T : Type 0} → (CloseFault → Type 0) → Result T CloseFault → ℕ → ℕ → Type 0
HasCause P result old now = IfErr result (λ fault. P fault × Rose old now)

pub weaker : {T : Type 0} (P Q : CloseFault → Type 0) (result : Result T CloseFault) (old now : ℕ) → ((fault : CloseFault) → P fault → Q fault) → HasCause P result old now → HasCause Q result old now
weaker P Q (Ok x) old now implies cause = tt
weaker P Q (Err fault) old now implies cause = (implies fault cause.0, cause.1)

first_of : {T : Type 0} (P : CloseFault → Type 0) (first one : Result T CloseFault) (old now new : ℕ) → HasCause P first old now → old ≤ now → now ≤ new → HasCause P one now new → HasCause P (result_and first one) old new
first_of P (Ok x) (Ok y) old now new was no_fewer rises cause = tt
first_of P (Ok x) (Err fault) old now new was no_fewer rises cause = (cause.0, omega (arith, cause.1))
first_of P (Err fault) one old now new was no_fewer rises cause = (was.0, omega (arith, was.1))

-- the first fault counts
pub first_fault : {T : Type 0} (P : CloseFault → Type 0) (first one both : Result T CloseFault) (old now new : ℕ) → both ≡ result_and first one → HasCause P first old now → old ≤ now → now ≤ new → HasCause P one now new → HasCause P both old new
first_fault P first one both old now new is was no_fewer rises cause =
    subst (λ r. HasCause P r old new) (sym is) (first_of P first one old now new was no_fewer rises cause)

quiet_of : {T : Type 0} (first one : Result T CloseFault) (old now new : ℕ) → OnOk first (now ≡ old) → OnOk one (new ≡ now) → OnOk (result_and first one) (new ≡ old)
quiet_of (Ok x) (Ok y) old now new was is = is ∙ was
quiet_of (Ok x) (Err fault) old now new was is = tt
quiet_of (Err fault) one old now new was is = tt

-- where neither of two calls failed, the count of faults is as it was
pub all_quiet : {T : Type 0} (first one both : Result T CloseFault) (old now new : ℕ) → both ≡ result_and first one → OnOk first (now ≡ old) → OnOk one (new ≡ now) → OnOk both (new ≡ old)
all_quiet first one both old now new is was quiet =
    subst (λ r. OnOk r (new ≡ old)) (sym is) (quiet_of first one old now new was quiet)

-- the journals of these areas are closed, and those of no area are kept
pub closed_or_kept : {D : Type 0} (view : D → DiskView) (areas : List (AreaView D)) (old new : ShelfView) (core : ℕ) → length areas ≤ 8 → core < 8
    → ClosedBelow view areas (length areas) old new → KeptBut (length areas) old new
    → MatchOption (slice_get areas core) (new (journal_name core) ≡ old (journal_name core)) (λ area. Closes (view area.device) (old (journal_name core)) (new (journal_name core)))
closed_or_kept view areas old new core few small journals kept =
    elim (slice_get_cases areas core).1 [
      | inl p ↦ subst (λ found. MatchOption found (new (journal_name core) ≡ old (journal_name core)) (λ area. Closes (view area.device) (old (journal_name core)) (new (journal_name core)))) (sym p.2)
          (subst (λ found. IfSome found (λ area. Closes (view area.device) (old (journal_name core)) (new (journal_name core)))) p.2 (journals core p.1))
      | inr p ↦ subst (λ found. MatchOption found (new (journal_name core) ≡ old (journal_name core)) (λ area. Closes (view area.device) (old (journal_name core)) (new (journal_name core)))) (sym p.1)
          (let past : length areas ≤ core = p.0 in kept (journal_name core) (λ other below. apart core other small (omega arith) (omega arith)))
    ]

-- home and then the journals are closed
pub closes_all : {D : Type 0} (view : D → DiskView) (old mid new : ShelfView) (home : DiskView) (areas : List (AreaView D)) → length areas ≤ 8
    → Closes home (old home_name) (mid home_name) → OthersStay home_name old mid
    → ClosedBelow view areas (length areas) mid new → KeptBut (length areas) mid new
    → ClosesAll view old new home areas
closes_all view old mid new home areas few closed stay journals kept = record {
  home_closed = subst (Closes home (old home_name)) (sym (kept home_name (λ core below same. no_home core (sym same)))) closed;
  journals = λ core small.
      subst (λ slot. MatchOption (slice_get areas core) (new (journal_name core) ≡ slot) (λ area. Closes (view area.device) slot (new (journal_name core))))
      (stay (journal_name core) (no_home core))
      (closed_or_kept view areas mid new core few small journals kept);
  others = λ name other none. kept name (λ core below. none core (omega arith)) ∙ stay name other;
}

-- those that were out stand again
pub closed_all : {D : Type 0} (view : D → DiskView) (before old new : ShelfView) (home : DiskView) (areas : List (AreaView D)) → IsOut view before old home areas → ClosesAll view old new home areas → IsClosed view before new home areas
closed_all view before old new home areas out closes = record {
  home_back = put_back (before home_name) (old home_name) (new home_name) home out.home_lent closes.home_closed;
  journals = λ core small. put_back_some view (slice_get areas core) (before (journal_name core)) (old (journal_name core)) (new (journal_name core)) (out.journals core small) (closes.journals core small);
  others = λ name other none. closes.others name other none ∙ out.others name other none;
}

-- what is closed is back
pub all_back : {D : Type 0} (view : D → DiskView) (before now : ShelfView) (home : DiskView) (areas : List (AreaView D)) → IsClosed view before now home areas → AllBack before now
all_back view before now home areas closed = record {
  home = still (before home_name) (now home_name) home closed.home_back;
  journals = λ core small. still_some view (slice_get areas core) (before (journal_name core)) (now (journal_name core)) (closed.journals core small);
  others = closed.others;
}
