-- Laws of disks, for proofs of this crate and of those above: pieces of bytes, runs of calls, and what a crash may leave at
-- each moment of a run.
use Rattle.std.proofs.Common.{◌≡◌, ◌⊎◌, ℕ, ◌+◌, ◌-◌, ◌<◌, ◌≤◌, Bool, true, List, [], ◌∷◌, ◌++◌, length, take, drop, slice_index, get_or, Some, refl, sym, ap, subst, ◌∙◌, arith, inl, inr, append_assoc, length-append, length-drop}
use Rattle.std.specs.List.{slice_range}
use Rattle.std.proofs.lemmas.Bool.{cases_lt}
use Rattle.std.proofs.lemmas.List.{drop-drop, drop_at, get_or-drop, get_or-take, length-take-le, take-append-drop, take-take, take_at, take_more}
use Rattle.std.proofs.lemmas.Slice.{between_is}
use Rattle.zj_dev.specs.Fault.{Rose}
use Rattle.zj_dev.specs.Crash.{FailsIn}
use Rattle.zj_dev.specs.declared.span.Span.{Span}
use Rattle.zj_dev.specs.Disk.{Continues, DiskView, EachImageSince, FailsToSync, GoesOn, IsDisk, LeadsTo, LeavesAll, OnlyReads, SameOutside, StaysSince, TearsOnly, TearsSince, replaced}

-- ---- bytes that are the same outside a range

pub same_outside_refl : (at count : ℕ) (bytes : List ℕ) → SameOutside at count bytes bytes
same_outside_refl at count bytes = record { size = refl; before = refl; behind = refl }

-- a part that ends where the range begins, or before
part_before : (at count : ℕ) (old new : List ℕ) (from to : ℕ) → SameOutside at count old new → to ≤ at → slice_range new from to ≡ slice_range old from to
part_before at count old new from to same le =
    between_is new from to
    ∙ ap (drop from) (sym (take-take to at new le) ∙ ap (take to) same.before ∙ take-take to at old le)
    ∙ sym (between_is old from to)

-- a part that begins where the range ends, or behind
part_behind : (at count : ℕ) (old new : List ℕ) (from to : ℕ) → SameOutside at count old new → at + count ≤ from → slice_range new from to ≡ slice_range old from to
part_behind at count old new from to same le =
    let k = from - (at + count) in
    let e : at + count + k ≡ from = omega arith in
    let rest : drop from new ≡ drop from old =
    ap (λ (m : ℕ). drop m new) (sym e) ∙ sym (drop-drop k (at + count) new) ∙ ap (drop k) same.behind ∙ drop-drop k (at + count) old ∙ ap (λ (m : ℕ). drop m old) e in
    ap (take (to - from)) rest

-- a part outside the range
pub part_outside : (at count : ℕ) (old new : List ℕ) (from to : ℕ) → SameOutside at count old new → (to ≤ at) ⊎ (at + count ≤ from) → slice_range new from to ≡ slice_range old from to
part_outside at count old new from to same (inl le) = part_before at count old new from to same le
part_outside at count old new from to same (inr le) = part_behind at count old new from to same le

byte_before : (at count : ℕ) (old new : List ℕ) (i : ℕ) → SameOutside at count old new → i < at → slice_index new i ≡ slice_index old i
byte_before at count old new i same le = sym (get_or-take at new i 0 le) ∙ ap (λ (l : List ℕ). get_or l i 0) same.before ∙ get_or-take at old i 0 le

byte_behind : (at count : ℕ) (old new : List ℕ) (i : ℕ) → SameOutside at count old new → at + count ≤ i → slice_index new i ≡ slice_index old i
byte_behind at count old new i same le =
    let k = i - (at + count) in
    let e : at + count + k ≡ i = omega arith in
    ap (λ (m : ℕ). slice_index new m) (sym e) ∙ sym (get_or-drop (at + count) new k 0) ∙ ap (λ (l : List ℕ). get_or l k 0) same.behind ∙ get_or-drop (at + count) old k 0 ∙ ap (λ (m : ℕ). slice_index old m) e

-- a byte outside the range
pub byte_outside : (at count : ℕ) (old new : List ℕ) (i : ℕ) → SameOutside at count old new → (i < at) ⊎ (at + count ≤ i) → slice_index new i ≡ slice_index old i
byte_outside at count old new i same (inl le) = byte_before at count old new i same le
byte_outside at count old new i same (inr le) = byte_behind at count old new i same le

-- one byte that may have changed
pub one_byte : (at : ℕ) (old new : List ℕ) → SameOutside at 1 old new → at + 1 ≤ length old → new ≡ replaced old at (slice_index new at ∷ [])
one_byte at old new same within =
    let split : take (at + 1) new ≡ take at new ++ slice_index new at ∷ [] = take_more new at 0 (omega (arith, same.size)) in
    sym (take-append-drop (at + 1) new) ∙ ap (λ (l : List ℕ). l ++ drop (at + 1) new) split
    ∙ ap (λ (l : List ℕ). (l ++ slice_index new at ∷ []) ++ drop (at + 1) new) same.before ∙ ap (λ (l : List ℕ). (take at old ++ slice_index new at ∷ []) ++ l) same.behind

-- ---- a piece that was written

pub length-replaced : (bytes : List ℕ) (at : ℕ) (piece : List ℕ) → at + length piece ≤ length bytes → length (replaced bytes at piece) ≡ length bytes
length-replaced bytes at piece within =
    let front = length-take-le at bytes (omega arith) in
    length-append (take at bytes ++ piece) (drop (at + length piece) bytes) ∙ omega (arith, length-append (take at bytes) piece, length-drop (at + length piece) bytes, front)

pub replaced_outside : (bytes : List ℕ) (at : ℕ) (piece : List ℕ) → at + length piece ≤ length bytes → SameOutside at (length piece) bytes (replaced bytes at piece)
replaced_outside bytes at piece within =
    let front = length-take-le at bytes (omega arith) in
    let rest = drop (at + length piece) bytes in
    record {
      size = length-replaced bytes at piece within;
      before = ap (take at) (append_assoc (take at bytes) piece rest) ∙ take_at (take at bytes) (piece ++ rest) at front;
      behind = drop_at (take at bytes ++ piece) rest (at + length piece) (omega (arith, length-append (take at bytes) piece, front));
    }

-- the piece stands where it was written
pub replaced_there : (bytes : List ℕ) (at : ℕ) (piece : List ℕ) → at + length piece ≤ length bytes → slice_range (replaced bytes at piece) at (at + length piece) ≡ piece
replaced_there bytes at piece within =
    let front = length-take-le at bytes (omega arith) in
    let rest = drop (at + length piece) bytes in
    between_is (replaced bytes at piece) at (at + length piece)
    ∙ ap (drop at) (take_at (take at bytes ++ piece) rest (at + length piece) (omega (arith, length-append (take at bytes) piece, front)))
    ∙ drop_at (take at bytes) piece at front

-- what lies apart from it stays
pub replaced_part : (bytes : List ℕ) (at : ℕ) (piece : List ℕ) (from to : ℕ) → at + length piece ≤ length bytes → (to ≤ at) ⊎ (at + length piece ≤ from) → slice_range (replaced bytes at piece) from to ≡ slice_range bytes from to
replaced_part bytes at piece from to within apart = part_outside at (length piece) bytes (replaced bytes at piece) from to (replaced_outside bytes at piece within) apart

-- ---- what a disk tells

-- the bytes that a disk tells fill it
pub told_length : (disk : DiskView) (image : List ℕ) → IsDisk disk → disk.bytes ≡ Some image → length image ≡ disk.size
told_length disk image is e =
    let now = rw e at is.current in
    (is.filled disk.calls image (omega arith) now).0

-- a count that rose on the way rose in all
pub rose_since : (a b c : ℕ) → a ≤ b → Rose b c → Rose a c
rose_since a b c le rose = omega (arith, rose)

pub rose_until : (a b c : ℕ) → Rose a b → b ≤ c → Rose a c
rose_until a b c rose le = omega (arith, rose)

-- ---- runs of calls

pub continues_refl : (disk : DiskView) → Continues disk disk
continues_refl disk = record {
  size = refl;
  calls = omega arith;
  no_fewer = omega arith;
  told = refl;
  images = λ moment image early. refl;
  here = λ image early. refl;
  past = λ moment early. refl;
  failed_here = λ early. refl;
}

-- one call
pub continues_once : (old new : DiskView) → IsDisk old → GoesOn old new → Continues old new
continues_once old new is on = record {
  size = on.size;
  calls = omega (arith, on.calls, is.counted);
  no_fewer = on.no_fewer;
  told = on.told;
  images = λ moment image early. on.images moment image (omega (arith, on.calls, is.counted));
  here = λ image early. on.images old.calls image (omega (arith, on.calls));
  past = λ moment early. on.past moment (omega (arith, on.calls, is.counted));
  failed_here = λ early. on.past old.calls (omega (arith, on.calls));
}

-- some calls, and then more
pub continues_trans : (a b c : DiskView) → Continues a b → Continues b c → Continues a c
continues_trans a b c first second = record {
  size = second.size ∙ first.size;
  calls = omega (arith, first.calls, second.calls);
  no_fewer = omega (arith, first.no_fewer, second.no_fewer);
  told = second.told ∙ first.told;
  images = λ moment image early. second.images moment image (omega (arith, first.calls)) ∙ first.images moment image early;
  here = λ image early. elim (cases_lt a.calls b.calls) [
    | inl later ↦ second.images a.calls image later ∙ first.here image early
    | inr same ↦
        let e : b.calls ≡ a.calls = omega (arith, first.calls) in
        subst (λ (m : ℕ). c.may_leave m image ≡ b.may_leave m image) e (second.here image (omega arith)) ∙ first.here image early
  ];
  past = λ moment early. second.past moment (omega (arith, first.calls)) ∙ first.past moment early;
  failed_here = λ early. elim (cases_lt a.calls b.calls) [
    | inl later ↦ second.past a.calls later ∙ first.failed_here early
    | inr same ↦
        let e : b.calls ≡ a.calls = omega (arith, first.calls) in
        subst (λ (m : ℕ). c.faults_at m ≡ b.faults_at m) e (second.failed_here (omega arith)) ∙ first.failed_here early
  ];
}

-- a count that rose since a moment rose in the span from there on
pub fails_since : (old new : DiskView) (span : Span) → IsDisk old → IsDisk new → Continues old new → Rose old.faults new.faults → span.from ≡ old.calls → span.to ≡ new.calls → FailsIn new span
fails_since old new span was is on rose from to told early =
    let first : new.faults_at span.from ≡ old.faults = ap new.faults_at from ∙ on.failed_here (omega (arith, from, to, on.calls, early)) ∙ was.faults_now (subst (λ (b : Bool). b ≡ true) on.told told) in
    let last : new.faults_at span.to ≡ new.faults = ap new.faults_at to ∙ is.faults_now told in
    omega (arith, first, last, rose)

-- a call that leaves all is as good as a sync that failed
pub fails_to_sync : (old new : DiskView) → LeavesAll old new → FailsToSync old new
fails_to_sync old new left = record { goes_on = left.goes_on; bytes = left.bytes; images = λ image may. sym (left.images image) ∙ may }

-- ---- runs of reads

pub reads_refl : (disk : DiskView) → OnlyReads disk disk
reads_refl disk = record {
  goes_on = continues_refl disk;
  bytes = refl;
  images = λ moment image from to. let now : moment ≡ disk.calls = omega arith in ap (λ (m : ℕ). disk.may_leave m image) now;
}

-- a moment of one call is the one before it or the one after it
at_moments : (old new : DiskView) (moment : ℕ) (image : List ℕ) {X : Type 0} → GoesOn old new → old.calls ≤ moment → moment ≤ new.calls
    → (new.may_leave moment image ≡ old.may_leave old.calls image → X) → (moment ≡ new.calls → X) → X
at_moments old new moment image on from to before now = elim (cases_lt moment new.calls) [
  | inl below ↦
      let first : moment ≡ old.calls = omega (arith, on.calls) in
      before (on.images moment image below ∙ ap (λ (m : ℕ). old.may_leave m image) first)
  | inr late ↦ now (omega arith)
]

-- a call that leaves all
pub reads_once : (old new : DiskView) → IsDisk old → LeavesAll old new → OnlyReads old new
reads_once old new is left = record {
  goes_on = continues_once old new is left.goes_on;
  bytes = left.bytes;
  images = λ moment image from to. at_moments old new moment image left.goes_on from to (λ same. same) (λ now. ap (λ (m : ℕ). new.may_leave m image) now ∙ left.images image);
}

pub reads_trans : (a b c : DiskView) → OnlyReads a b → OnlyReads b c → OnlyReads a c
reads_trans a b c first second = record {
  goes_on = continues_trans a b c first.goes_on second.goes_on;
  bytes = second.bytes ∙ first.bytes;
  images = λ moment image from to.
      elim (cases_lt moment b.calls) [
        | inl early ↦ second.goes_on.images moment image early ∙ first.images moment image from (omega arith)
        | inr late ↦ second.images moment image late to ∙ first.images b.calls image first.goes_on.calls (omega arith)
      ];
}

-- ---- what a crash may leave at each moment

-- of no call
pub each_first : (disk : DiskView) (P : List ℕ → Type 0) → ((image : List ℕ) → disk.may_leave disk.calls image ≡ true → P image) → EachImageSince disk.calls disk P
each_first disk P now moment image from to may =
    let e : moment ≡ disk.calls = omega arith in
    now image (subst (λ (m : ℕ). disk.may_leave m image ≡ true) e may)

-- of one call
pub each_once : (old new : DiskView) {P : List ℕ → Type 0} → GoesOn old new → ((image : List ℕ) → old.may_leave old.calls image ≡ true → P image)
    → ((image : List ℕ) → new.may_leave new.calls image ≡ true → P image) → EachImageSince old.calls new P
each_once old new on before now = λ moment image from to may.
    at_moments old new moment image on from to (λ same. before image (sym same ∙ may)) (λ last. now image (ap (λ (m : ℕ). new.may_leave m image) (sym last) ∙ may))

-- of some calls, and then more
pub each_then : (from : ℕ) (old new : DiskView) (P : List ℕ → Type 0) → Continues old new → EachImageSince from old P → EachImageSince old.calls new P → EachImageSince from new P
each_then from old new P on before behind moment image since to may =
    elim (cases_lt moment old.calls) [
      | inl early ↦ before moment image since (omega arith) (sym (on.images moment image early) ∙ may)
      | inr late ↦ behind moment image late to may
    ]

-- of the last moment
pub each_now : (from : ℕ) (disk : DiskView) (P : List ℕ → Type 0) → from ≤ disk.calls → EachImageSince from disk P → (image : List ℕ) → disk.may_leave disk.calls image ≡ true → P image
each_now from disk P since each image may = each disk.calls image since (omega arith) may

-- of one write, whatever it answered
pub tears_since : (old new : DiskView) (at count : ℕ) → GoesOn old new → TearsOnly at count old new → TearsSince at count old new
tears_since old new at count on torn = each_once old new on (λ image may. (image, may, same_outside_refl at count image)) torn

-- of one sync
pub stays_since : (old new : DiskView) → GoesOn old new → ((image : List ℕ) → new.may_leave new.calls image ≡ true → old.may_leave old.calls image ≡ true) → StaysSince old new
stays_since old new on now = each_once old new on (λ image may. may) now

-- ---- what one run leads to

pub leads_refl : (disk : DiskView) {P : List ℕ → Type 0} → LeadsTo P P disk disk
leads_refl disk = λ left moment image from until may.
    let now : moment ≡ disk.calls = omega arith in
    left image (ap (λ (m : ℕ). disk.may_leave m image) (sym now) ∙ may)

-- what follows of each image
pub leads_weaker : (old new : DiskView) {P Q R : List ℕ → Type 0} → ((image : List ℕ) → Q image → R image) → LeadsTo P Q old new → LeadsTo P R old new
leads_weaker old new weaker leads = λ left moment image from until may. weaker image (leads left moment image from until may)

-- a run of calls, and then another
pub leads_then : (a b c : DiskView) {P Q R : List ℕ → Type 0} → Continues a b → Continues b c → ((image : List ℕ) → Q image → R image) → LeadsTo P Q a b → LeadsTo Q R b c → LeadsTo P R a c
leads_then a b c first then weaker before behind = λ left moment image from until may. elim (cases_lt moment b.calls) [
  | inl below ↦ weaker image (before left moment image from (omega arith) (sym (then.images moment image below) ∙ may))
  | inr late ↦ behind (λ seen is. before left b.calls seen first.calls (omega arith) is) moment image late until may
]

-- a write after which each image has Q
pub leads_torn : (old new : DiskView) (at count : ℕ) {P Q : List ℕ → Type 0} → TearsSince at count old new → ((before image : List ℕ) → old.may_leave old.calls before ≡ true → SameOutside at count before image → P before → Q image) → LeadsTo P Q old new
leads_torn old new at count torn follows = λ left moment image from until may.
    let t = torn moment image from until may in
    follows t.0 image t.1 t.2 (left t.0 t.1)

-- a sync
pub leads_synced : (old new : DiskView) {P : List ℕ → Type 0} → StaysSince old new → LeadsTo P P old new
leads_synced old new stays = λ left moment image from until may. left image (stays moment image from until may)
