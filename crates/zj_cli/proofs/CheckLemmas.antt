-- An image that was opened, read and closed.
use Rattle.std.proofs.Common.{◌≡◌, ◌⊎◌, ℕ, ◌<◌, ◌+◌, ◌∙◌, ap, ◌≤◌, List, [], ◌∷◌, length, refl, sym, subst, arith, inl, inr}
use Rattle.std.specs.Prelude.{◌-◌, ◌++◌, Option, Some, None, IfSome, IsSomeAnd, MatchOption, map, slice_get, slice_index_or, zero, suc, ⊤}
use Rattle.std.specs.List.{flat_map, range_with_len}
use Rattle.std.specs.Option.{option_map, unwrap_or}
use Rattle.std.proofs.lemmas.List.{length-map}
use Rattle.std.proofs.lemmas.Option.{get_or_from_slice_get, slice_get-map, slice_get_within}
use Rattle.zj_dev.specs.Fault.{Rose}
use Rattle.zj_dev.specs.Disk.{DiskView, OnlyReads}
use Rattle.zj_dev.specs.Shelf.{ShelfView, Slot, Untold, Absent, Out, Stands}
use Rattle.zj_dev.specs.declared.device.Device.{Device}
use Rattle.zj_dev.specs.declared.device.Device.TheVariants as devices
use Rattle.zj_dev.proofs.DiskLaws.{reads_trans, rose_since}
use Rattle.zj_block.specs.declared.numbers.Tail.{Tail}
use Rattle.zj_block.specs.Sizes.{Numbers}
use Rattle.zj_home.specs.Super.{Super}
use Rattle.zj_home.specs.Made.{HoldsBlocks}
use Rattle.zj_tx.specs.Record.{Record}
use Rattle.zj_area.specs.Journal.{AreaView, JournalView, journal_of}
use Rattle.zj_area.specs.Ring.{Holds, IsDamaged}
use Rattle.zj_closure.specs.Found.{Journals, records_of, tail_of}
use Rattle.zj_closure.specs.Recovered.{kept_records}
use Rattle.zj_closure.proofs.NewestLemmas.{cores_next}
use Rattle.zj_history.specs.Transactions.{Bounds}
use Rattle.zj_tree.specs.Tree.{FileTree}
use Rattle.zj_layout.specs.Image.{State}
use Rattle.zj_layout.specs.Shows.{Shows}
use Rattle.zj_mount.specs.declared.fault.MountFault.{MountFault}
use Rattle.zj_mount.specs.declared.fault.MountFault.TheVariants as mounts
use Rattle.zj_mount.specs.declared.fault.OpenFault.{OpenFault}
use Rattle.zj_mount.specs.declared.fault.OpenFault.TheVariants as opens
use Rattle.zj_mount.specs.Image.{HasHome, HasJournals, OfDevice, RoseUnder}
use Rattle.zj_mount.specs.declared.recovered.Tally.{Tally}
use Rattle.zj_mount.specs.Inspecting.{AreFound, AreJournals, AreOnlyRead, HoldKept, HomeHolds, Inspects, IsFindCause, IsInspectCause, IsJournalAt, IsOnlyRead, IsRecoverCause, JournalHolds as ViewHolds, tally_of}
use Rattle.zj_mount.specs.Recovered.{Restored}
use Rattle.zj_mount.specs.Mounting.{AreEmpty, AreInOrder, FailsIn, HasTree, IsHomeCause, IsJournalOf, IsMountCause, IsUsedCause}
use Rattle.zj_mount.specs.Opening.{IsOfSet, IsOpenCause}
use Rattle.zj_mount.specs.Settling.{IsSettleCause}
use Rattle.zj_mount.specs.Scanning.{AreCounted, AreaHolds, AreRead, FailsAt, HoldsSome, IsDamagedAt}
use Rattle.zj_mount.specs.Set.{IsBack, IsClosed, IsLent, IsOut, IsPutBack, WentTo, home_name, journal_name}
use Rattle.zj_cli.specs.declared.status.Fault.{Fault}
use Rattle.zj_cli.specs.declared.status.Fault.TheVariants as faults
use Rattle.zj_cli.specs.declared.status.ImageFault.TheVariants as images
use Rattle.zj_cli.specs.declared.check.Telling.{Telling}
use Rattle.zj_cli.specs.declared.check.Telling.TheVariants as tellings
use Rattle.zj_cli.specs.Check.{AllHold, IsDeviceCause, IsDevicesCause, IsHeld, IsImageCause, IsReadingCause, IsReadTo, IsTold, JournalHolds, OfJournal, Spelling, Tells, check_text, journal_text, restored_text, size_text, tally_text, dump_text, spelling_of, telling_text, tree_text}
use Rattle.zj_cli.specs.Phases.{JournalFails}
use Rattle.zj_cli.specs.Faults.{fault_of_mounting, fault_of_opening}
use Rattle.zj_cli.specs.Mount.{HoldNothing, IsUnused, IsFirstUsed, Mounts}
use Rattle.zj_cli.proofs.PlayLemmas.{IsTreesCause}

-- ---- opening

-- why an image was not opened is why the devices were not all opened, read and closed
pub open_cause : (before now : ShelfView) (f f' : ℕ) (fault : OpenFault) → IsOpenCause before now f f' fault → IsDevicesCause before now f f' (fault_of_opening fault)
open_cause before now f f' (opens.DiskFault devices.Home) cause = inr cause
open_cause before now f f' (opens.DiskFault (devices.Journal core)) cause = absurd cause
open_cause before now f f' (opens.ShelfFault devices.Home) cause = inl cause
open_cause before now f f' (opens.ShelfFault (devices.Journal core)) cause = inl cause
open_cause before now f f' opens.NoMemory cause = tt
open_cause before now f f' (opens.Absent device) cause = inl cause
open_cause before now f f' (opens.NotAnImage at) cause = inl cause
open_cause before now f f' (opens.Version found) cause = inl cause
open_cause before now f f' (opens.Sizes device found expected) cause = inl cause

-- ---- reading

-- the areas of an image are its journals
pub are_journals : {D : Type 0} (view : D → DiskView) (super : Super) (areas : List (AreaView D)) → AreInOrder super areas → AreJournals super (map (journal_of view) areas)
are_journals view super areas is =
    let same : length (map (journal_of view) areas) ≡ length areas = length-map areas (journal_of view) in
    record {
      many = same ∙ is.many;
      few = omega (arith, same, is.few);
      each = λ core below. subst (λ (o : Option JournalView). IfSome o (IsJournalAt super core)) (sym (slice_get-map (journal_of view) areas core)) (one core (slice_get areas core) (is.journals core below));
    }
  where
    one : (core : ℕ) (o : Option (AreaView _)) → IfSome o (IsJournalOf super core) → IfSome (option_map (journal_of view) o) (IsJournalAt super core)
    one core None is = tt
    one core (Some a) is = is

-- and where their devices were only read, so were they
pub are_read : {D : Type 0} (view : D → DiskView) (old new : List (AreaView D)) → AreOnlyRead (map (journal_of view) old) (map (journal_of view) new) → AreRead view old new
are_read view old new read core = one (slice_get old core) (slice_get new core) (rw (slice_get-map (journal_of view) old core, slice_get-map (journal_of view) new core) at (read core))
  where
    one : (o o' : Option (AreaView _)) → MatchOption (option_map (journal_of view) o) (option_map (journal_of view) o' ≡ None) (λ a. IsSomeAnd (option_map (journal_of view) o') (IsOnlyRead a))
        → MatchOption o (o' ≡ None) (λ a. IsSomeAnd o' (λ b. OnlyReads (view a.device) (view b.device)))
    one None None is = refl
    one None (Some b) is = cc
    one (Some a) None is = absurd is
    one (Some a) (Some b) is = is.reads

-- ---- the text

same_lines : (f g : ℕ → List ℕ) (n : ℕ) → ((core : ℕ) → core < n → f core ≡ g core) → flat_map f (range_with_len 0 n) ≡ flat_map g (range_with_len 0 n)
same_lines f g zero same = refl
same_lines f g (suc n) same =
    let e : n + 1 ≡ suc n = omega arith in
    subst (λ (k : ℕ). flat_map f (range_with_len 0 k) ≡ flat_map g (range_with_len 0 k)) e
    (cores_next f n ∙ ap (λ (front : List ℕ). front ++ f n) (same_lines f g n (λ core below. same core (omega (arith, below)))) ∙ ap (λ (line : List ℕ). flat_map g (range_with_len 0 n) ++ line) (same n (omega arith))
    ∙ sym (cores_next g n))

-- the text of what an inspection gave is that of what is recovered
pub told_check : (super : Super) (home : DiskView) (journals : List JournalView) (r : Restored) (text : List ℕ) → Inspects super home journals r → text ≡ restored_text r → IsTold check_text super home journals text
told_check super home journals r text is same = record {
  found = is.found;
  kept = is.kept;
  base = is.base;
  tree = r.tree.tree;
  holds = is.holds;
  held = is.held;
  shows = subst (λ (blocks : State). Shows super.sizes blocks r.tree.tree) is.blocks is.shows;
  text_is = same ∙ ap (λ (sizes : Numbers). flat_map (tally_text r.journals) (range_with_len 0 sizes.cores) ++ size_text r.tree.tree) is.sizes
      ∙ ap (λ (lines : List ℕ). lines ++ size_text r.tree.tree) (same_lines (tally_text r.journals) line super.sizes.cores (λ core below. ap (by core) (is.tallies core below)));
}
  where
    line : ℕ → List ℕ
    line core = journal_text core (tail_of super.tails core) (length (records_of is.found core)) (is.kept core - tail_of super.tails core)

    by : ℕ → Option Tally → List ℕ
    by core o = journal_text core (unwrap_or (option_map (λ (t : Tally). t.from) o) 0) (unwrap_or (option_map (λ (t : Tally). t.found) o) 0) (unwrap_or (option_map (λ (t : Tally). t.kept) o) 0)

told_dump : (super : Super) (home : DiskView) (journals : List JournalView) (r : Restored) (text : List ℕ) → Inspects super home journals r → text ≡ tree_text r.tree.tree → IsTold dump_text super home journals text
told_dump super home journals r text is same = record {
  found = is.found;
  kept = is.kept;
  base = is.base;
  tree = r.tree.tree;
  holds = is.holds;
  held = is.held;
  shows = subst (λ (blocks : State). Shows super.sizes blocks r.tree.tree) is.blocks is.shows;
  text_is = same;
}

pub told : (telling : Telling) (super : Super) (home : DiskView) (journals : List JournalView) (r : Restored) (text : List ℕ) → Inspects super home journals r → text ≡ telling_text telling r → IsTold (spelling_of telling) super home journals text
told tellings.Check super home journals r text is same = told_check super home journals r text is same
told tellings.Dump super home journals r text is same = told_dump super home journals r text is same

-- ---- what was read, of what stands on the shelf

-- what holds of a lent device holds of what stood there
of_lent : (slot now : Slot) (d : DiskView) (P : List ℕ → Type 0) → IsLent slot now d → IfSome d.bytes P → OfDevice slot P
of_lent Untold now d P lent holds = tt
of_lent (Stands stood) now d P lent holds = subst (λ (o : Option (List ℕ)). IfSome o P) lent.1.bytes holds
of_lent Absent now d P lent holds = absurd lent
of_lent Out now d P lent holds = absurd lent

-- its count of faults is no smaller
lent_faults : (slot now : Slot) (d : DiskView) → IsLent slot now d → (stood : DiskView) → slot ≡ Stands stood → stood.faults ≤ d.faults
lent_faults Untold now d lent stood e = cc
lent_faults (Stands other) now d lent stood e = let same : other ≡ stood = cc in subst (λ (x : DiskView). x.faults ≤ d.faults) same lent.1.goes_on.no_fewer
lent_faults Absent now d lent stood e = absurd lent
lent_faults Out now d lent stood e = absurd lent

lent_reads : (slot now : Slot) (d d' : DiskView) → IsLent slot now d → OnlyReads d d' → IsLent slot now d'
lent_reads Untold now d d' lent reads = lent
lent_reads (Stands stood) now d d' lent reads = (lent.0, reads_trans stood d d' lent.1 reads)
lent_reads Absent now d d' lent reads = lent
lent_reads Out now d d' lent reads = lent

-- reading leaves all that is out
pub out_read : {D : Type 0} (view : D → DiskView) (before now : ShelfView) (home home' : DiskView) (old new : List (AreaView D)) → IsOut view before now home old → OnlyReads home home' → AreRead view old new → IsOut view before now home' new
out_read view before now home home' old new out reads read = record {
  home_lent = lent_reads (before home_name) (now home_name) home home' out.home_lent reads;
  journals = λ core fits. one (slice_get old core) (slice_get new core) core (out.journals core fits) (read core);
  others = out.others;
}
  where
    one : (o o' : Option (AreaView _)) (core : ℕ) → MatchOption o (IsBack (before (journal_name core)) (now (journal_name core))) (λ area. IsLent (before (journal_name core)) (now (journal_name core)) (view area.device))
        → MatchOption o (o' ≡ None) (λ a. IsSomeAnd o' (λ b. OnlyReads (view a.device) (view b.device)))
        → MatchOption o' (IsBack (before (journal_name core)) (now (journal_name core))) (λ area. IsLent (before (journal_name core)) (now (journal_name core)) (view area.device))
    one None None core back same = back
    one None (Some b) core back same = cc
    one (Some a) None core lent reads = absurd reads
    one (Some a) (Some b) core lent reads = lent_reads (before (journal_name core)) (now (journal_name core)) (view a.device) (view b.device) lent reads

-- ---- closing

-- The device that stood under a name stands there again, as this one.
abbrev pub IsAgain : Slot → Slot → DiskView → Type 0
IsAgain before now disk = WentTo (Stands disk) (λ stood. ⊤) before now

-- Home and each journal do.
pub record AreAgain {D : Type 0} (view : D → DiskView) (before now : ShelfView) (home : DiskView) (areas : List (AreaView D)) : Type 0 where
  pub home_again : IsAgain (before home_name) (now home_name) home
  pub journals : (core : ℕ) → core < 8 → MatchOption (slice_get areas core) ⊤ (λ area. IsAgain (before (journal_name core)) (now (journal_name core)) (view area.device))

again_put : (slot now : Slot) (d : DiskView) → IsPutBack slot now d → IsAgain slot now d
again_put Untold now d put = put
again_put (Stands stood) now d put = (put.0, tt)
again_put Absent now d put = put
again_put Out now d put = put

-- those that were only read do
pub read_again : {D : Type 0} (view : D → DiskView) (before now : ShelfView) (home : DiskView) (areas : List (AreaView D)) → IsClosed view before now home areas → AreAgain view before now home areas
read_again view before now home areas closed = record {
  home_again = again_put (before home_name) (now home_name) home closed.home_back;
  journals = λ core fits. one (slice_get areas core) core (closed.journals core fits);
}
  where
    one : (o : Option (AreaView _)) (core : ℕ) → MatchOption o (IsBack (before (journal_name core)) (now (journal_name core))) (λ area. IsPutBack (before (journal_name core)) (now (journal_name core)) (view area.device))
        → MatchOption o ⊤ (λ area. IsAgain (before (journal_name core)) (now (journal_name core)) (view area.device))
    one None core back = tt
    one (Some a) core put = again_put (before (journal_name core)) (now (journal_name core)) (view a.device) put

rose_again : (slot now : Slot) (from d : DiskView) → IsAgain slot now d → ((stood : DiskView) → slot ≡ Stands stood → stood.faults ≤ from.faults) → Rose from.faults d.faults → RoseUnder slot now
rose_again Untold now from d again least rose = tt
rose_again (Stands stood) now from d again least rose = subst (λ (s : Slot). RoseUnder (Stands stood) s) (sym again.0) (rose_since stood.faults from.faults d.faults (least stood refl) rose)
rose_again Absent now from d again least rose = absurd again
rose_again Out now from d again least rose = absurd again

module _ {D : Type 0} (view : D → DiskView) (before mid now : ShelfView) (home home' : DiskView) (old new : List (AreaView D)) (super : Super) (out : IsOut view before mid home old) (again : AreAgain view before now home' new) (in_order : AreInOrder super old)
    (has_home : HasHome before super) (has_journals : HasJournals before super super.sizes.cores) where
  fits_at : (core : ℕ) (a : AreaView D) → slice_get old core ≡ Some a → (core < 8) × (core < super.sizes.cores)
  fits_at core a here = let below = slice_get_within old core a here in (omega (arith, below, in_order.few), omega (arith, below, in_order.many))

  lent_at : (core : ℕ) (a : AreaView D) → slice_get old core ≡ Some a → IsLent (before (journal_name core)) (mid (journal_name core)) (view a.device)
  lent_at core a here = rw here at (out.journals core (fits_at core a here).0)

  -- what was read of an area was read of that core's journal
  of_area : (P : Numbers → ℕ → List ℕ → Tail → Type 0) (core : ℕ) (a : AreaView D) → slice_get old core ≡ Some a → IfSome (view a.device).bytes (λ image. P a.sizes a.core image a.tail) → OfJournal before super core (λ image tail. P super.sizes core image tail)
  of_area P core a here holds =
      let is : IsJournalOf super core a = rw here at (in_order.journals core (fits_at core a here).0) in
      at_tail (slice_get super.tails core) is (of_lent (before (journal_name core)) (mid (journal_name core)) (view a.device) (λ image. P a.sizes a.core image a.tail) (lent_at core a here) holds)
    where
      at_tail : (o : Option Tail) → IfSome o (λ tail. (a.sizes ≡ super.sizes) × (a.core ≡ core) × (a.tail ≡ tail)) → OfDevice (before (journal_name core)) (λ image. P a.sizes a.core image a.tail)
          → IfSome o (λ tail. OfDevice (before (journal_name core)) (λ image. P super.sizes core image tail))
      at_tail None is holds = tt
      at_tail (Some tail) is holds =
          subst (λ (n : Numbers). OfDevice (before (journal_name core)) (λ image. P n core image tail)) is.0
          (subst (λ (k : ℕ). OfDevice (before (journal_name core)) (λ image. P a.sizes k image tail)) is.1
          (subst (λ (t : Tail). OfDevice (before (journal_name core)) (λ image. P a.sizes a.core image t)) is.2 holds))

  -- the journals before one hold records
  all_hold : (counts : List ℕ) (count : ℕ) → AreCounted view old counts count → AllHold before super count
  all_hold counts count counted core below = one (slice_get old core) (slice_get counts core) refl (counted core below)
    where
      one : (o : Option (AreaView D)) (n : Option ℕ) → slice_get old core ≡ o → IsSomeAnd o (λ a. IsSomeAnd n (HoldsSome view a)) → (records : List Record) × JournalHolds before super core records
      one None n e h = absurd h
      one (Some a) None e h = absurd h
      one (Some a) (Some n) e h = (h.0, of_area (λ sizes core image tail. (end : Tail) × Holds sizes core image tail h.0 end) core a e h.2)

  read_to : (core : ℕ) (a : AreaView D) (P : Super → Type 0) → slice_get old core ≡ Some a → AllHold before super core → P super → IsReadTo before core P
  read_to core a P here hold holds = (super, has_home, has_journals, (fits_at core a here).1, hold, holds)

  -- the records that were found in the areas are those of the journals
  found_at : (found : Journals) (many core : ℕ) → AreFound (map (journal_of view) old) found many → core < many → JournalHolds before super core (records_of found core)
  found_at found many core are below = one (slice_get old core) (slice_get found core) refl refl (rw (slice_get-map (journal_of view) old core) at (are core below))
    where
      one : (o : Option (AreaView D)) (r : Option (List Record)) → slice_get old core ≡ o → slice_get found core ≡ r → IsSomeAnd (option_map (journal_of view) o) (λ j. IsSomeAnd r (ViewHolds j)) → JournalHolds before super core (records_of found core)
      one None r e e' h = absurd h
      one (Some a) None e e' h = absurd h
      one (Some a) (Some records) e e' h =
          subst (λ (rs : List Record). JournalHolds before super core rs) (sym (get_or_from_slice_get found core records [] e')) (of_area (λ sizes core image tail. (end : Tail) × Holds sizes core image tail records end) core a e h)

  all_found : (found : Journals) (many : ℕ) → AreFound (map (journal_of view) old) found many → AllHold before super many
  all_found found many are core below = (records_of found core, found_at found many core are below)

  is_held : (found : Journals) (kept : Bounds) (base : State) → HoldKept super (map (journal_of view) old) found kept → HomeHolds super.sizes home base → IsHeld before super found kept base
  is_held found kept base holds held = record {
    home = has_home;
    journals = has_journals;
    many = holds.many;
    records = λ core below. found_at found super.sizes.cores core holds.holds below;
    is_kept = holds.is_kept;
    many_blocks = held.many;
    contents = held.contents;
    blocks = of_lent (before home_name) (mid home_name) home (λ image. HoldsBlocks image base (length base)) out.home_lent held.held;
  }

  -- what is told of them is the text of what stands there
  pub tells : (spelling : Spelling) (text : List ℕ) → IsTold spelling super home (map (journal_of view) old) text → Tells spelling before text
  tells spelling text told = record {
    super = super;
    found = told.found;
    kept = told.kept;
    tree = told.tree;
    is_recovered = record { base = told.base; held = is_held told.found told.kept told.base told.holds told.held; shows = told.shows };
    text_is = told.text_is;
  }

  -- ---- why one of them was not read

  -- where the device of an area failed, the one that stands under its name did
  rose_at : (core : ℕ) (a b : AreaView D) → slice_get old core ≡ Some a → slice_get new core ≡ Some b → FailsAt view a b → RoseUnder (before (journal_name core)) (now (journal_name core))
  rose_at core a b here there rose =
      let stands : IsAgain (before (journal_name core)) (now (journal_name core)) (view b.device) = rw there at (again.journals core (fits_at core a here).0) in
      rose_again (before (journal_name core)) (now (journal_name core)) (view a.device) (view b.device) stands (lent_faults (before (journal_name core)) (mid (journal_name core)) (view a.device) (lent_at core a here)) rose

  pub rose_under : (core : ℕ) → JournalFails view old new core → (core < super.sizes.cores) × RoseUnder (before (journal_name core)) (now (journal_name core))
  rose_under core fails = by (slice_get old core) (slice_get new core) refl refl fails
    where
      by : (o o' : Option (AreaView D)) → slice_get old core ≡ o → slice_get new core ≡ o' → IsSomeAnd o (λ a. IsSomeAnd o' (λ b. FailsAt view a b)) → (core < super.sizes.cores) × RoseUnder (before (journal_name core)) (now (journal_name core))
      by None o' e e' h = absurd h
      by (Some a) None e e' h = absurd h
      by (Some a) (Some b) e e' h = ((fits_at core a e).1, rose_at core a b e e' h)

  failed_at : (f f' core : ℕ) (a b : AreaView D) → slice_get old core ≡ Some a → slice_get new core ≡ Some b → AllHold before super core → FailsAt view a b → IsDeviceCause before now f f' (devices.Journal core)
  failed_at f f' core a b here there hold rose =
      inr (read_to core a (λ super. RoseUnder (before (journal_name core)) (now (journal_name core))) here hold (rose_at core a b here there rose))

  damaged_at : (core at found expected : ℕ) (a : AreaView D) → slice_get old core ≡ Some a → AllHold before super core → IsDamagedAt view a at found expected → IsImageCause before (images.Damaged (devices.Journal core) at found expected)
  damaged_at core at found expected a here hold is =
      read_to core a (λ super. OfJournal before super core (λ image tail. IsDamaged super.sizes core image tail at found expected)) here hold
      (of_area (λ sizes core image tail. IsDamaged sizes core image tail at found expected) core a here is)

  -- why the journals were not all read is why the image is refused, or a device failed
  find_cause : (f f' : ℕ) (told : MountFault) → IsFindCause (map (journal_of view) old) (map (journal_of view) new) told → IsDevicesCause before now f f' (fault_of_mounting told)
  find_cause f f' (mounts.DiskFault devices.Home) is = absurd is
  find_cause f f' (mounts.DiskFault (devices.Journal core)) is =
      at (slice_get old core) (slice_get new core) refl refl (rw (slice_get-map (journal_of view) old core, slice_get-map (journal_of view) new core) at is.1)
    where
      at : (o o' : Option (AreaView D)) → slice_get old core ≡ o → slice_get new core ≡ o' → IsSomeAnd (option_map (journal_of view) o) (λ a. IsSomeAnd (option_map (journal_of view) o') (λ b. Rose a.disk.faults b.disk.faults)) → IsDeviceCause before now f f' (devices.Journal core)
      at None o' e e' h = absurd h
      at (Some a) None e e' h = absurd h
      at (Some a) (Some b) e e' h = failed_at f f' core a b e e' (all_found is.0.0 core is.0.1) h
  find_cause f f' (mounts.Damaged devices.Home at found expected) is = absurd is
  find_cause f f' (mounts.Damaged (devices.Journal core) at found expected) is = inl (by (slice_get old core) refl (rw (slice_get-map (journal_of view) old core) at is.1))
    where
      by : (o : Option (AreaView D)) → slice_get old core ≡ o → IsSomeAnd (option_map (journal_of view) o) (λ a. IfSome a.disk.bytes (λ image. IsDamaged a.sizes a.core image a.tail at found expected)) → IsImageCause before (images.Damaged (devices.Journal core) at found expected)
      by None e h = absurd h
      by (Some a) e h = damaged_at core at found expected a e (all_found is.0.0 core is.0.1) h
  find_cause f f' (mounts.NoTree rule block) is = absurd is
  find_cause f f' (mounts.Unbuilt device) is = absurd is
  find_cause f f' mounts.NoMemory is = tt

  -- and so is why what is kept gives no tree, or that it shows none
  recover_cause : (f f' : ℕ) (told : MountFault) (found : Journals) (kept : Bounds) → HoldKept super (map (journal_of view) old) found kept → IsRecoverCause super.sizes home home' (kept_records found kept) told → IsDevicesCause before now f f' (fault_of_mounting told)
  recover_cause f f' (mounts.DiskFault devices.Home) found kept holds rose = inr (rose_again (before home_name) (now home_name) home home' again.home_again (lent_faults (before home_name) (mid home_name) home out.home_lent) rose)
  recover_cause f f' (mounts.DiskFault (devices.Journal core)) found kept holds is = absurd is
  recover_cause f f' (mounts.Damaged device at found' expected) found kept holds is = absurd is
  recover_cause f f' (mounts.NoTree rule block) found kept holds is =
      inr (rule, block, refl, record { super = super; found = found; kept = kept; base = is.base; held = is_held found kept is.base holds is.held; fails = is.fails })
  recover_cause f f' (mounts.Unbuilt device) found kept holds is = absurd is
  recover_cause f f' mounts.NoMemory found kept holds is = tt

  pub read_cause : (f f' : ℕ) (fault : Fault) → IsReadingCause super home home' (map (journal_of view) old) (map (journal_of view) new) fault → IsDevicesCause before now f f' fault
  read_cause f f' fault (inl (told, same, inl is)) = subst (λ (x : Fault). IsDevicesCause before now f f' x) (sym same) (find_cause f f' told is)
  read_cause f f' fault (inl (told, same, inr is)) = subst (λ (x : Fault). IsDevicesCause before now f f' x) (sym same) (recover_cause f f' told is.found is.kept is.holds is.cause)
  read_cause f f' fault (inr memory) = subst (λ (x : Fault). IsDevicesCause before now f f' x) (sym memory) tt

  -- ---- the tree of an image

  -- an area without a record is a journal without one
  holds_nothing : (count : ℕ) → count ≤ length old → AreEmpty view old count → HoldNothing before super count
  holds_nothing count few empty core below = one (slice_get old core) refl (empty core below)
    where
      one : (o : Option (AreaView D)) → slice_get old core ≡ o → IsSomeAnd o (λ a. AreaHolds view a []) → JournalHolds before super core []
      one None e h = absurd h
      one (Some a) e h = of_area (λ sizes core image tail. (end : Tail) × Holds sizes core image tail [] end) core a e h

  at_rest : AreEmpty view old (length old) → IsUnused before super
  at_rest empty = record { home = has_home; journals = has_journals; empty = λ core below. holds_nothing (length old) (omega arith) empty core (omega (arith, below, in_order.many)) }

  pub mounts_tree : (d : D) (start : State) (tree : FileTree) → view d ≡ home → HasTree view super d old start tree → Mounts before super start tree
  mounts_tree d start tree same has = record {
    rests = at_rest has.empty;
    held = of_lent (before home_name) (mid home_name) home (λ image. HoldsBlocks image start (length start)) out.home_lent (subst (λ (x : DiskView). IfSome x.bytes (λ image. HoldsBlocks image start (length start))) same has.held);
    shows = has.shows;
  }

  -- why the journals are not all read and empty is why there is none
  used_cause : (f f' : ℕ) (told : MountFault) → IsUsedCause view old new told → IsTreesCause before now f f' (fault_of_mounting told)
  used_cause f f' (mounts.DiskFault devices.Home) is = absurd is
  used_cause f f' (mounts.DiskFault (devices.Journal core)) is = inl (at (slice_get old core) (slice_get new core) refl refl is.1)
    where
      at : (o o' : Option (AreaView D)) → slice_get old core ≡ o → slice_get new core ≡ o' → IsSomeAnd o (λ a. IsSomeAnd o' (λ b. FailsAt view a b)) → IsDeviceCause before now f f' (devices.Journal core)
      at None o' e e' h = absurd h
      at (Some a) None e e' h = absurd h
      at (Some a) (Some b) e e' h = failed_at f f' core a b e e' (all_hold is.0.0 core is.0.1) h
  used_cause f f' (mounts.Damaged devices.Home at found expected) is = absurd is
  used_cause f f' (mounts.Damaged (devices.Journal core) at found expected) is = inl (by (slice_get old core) refl is.1)
    where
      by : (o : Option (AreaView D)) → slice_get old core ≡ o → IsSomeAnd o (λ a. IsDamagedAt view a at found expected) → IsImageCause before (images.Damaged (devices.Journal core) at found expected)
      by None e h = absurd h
      by (Some a) e h = damaged_at core at found expected a e (all_hold is.0.0 core is.0.1) h
  used_cause f f' (mounts.Unbuilt devices.Home) is = absurd is
  used_cause f f' (mounts.Unbuilt (devices.Journal core)) is = inr (inl (core, super, refl, of_first (slice_get old core) refl is.here))
    where
      of_first : (o : Option (AreaView D)) → slice_get old core ≡ o → IsSomeAnd o (λ a. (r : Record) × (rest : List Record) × AreaHolds view a (r ∷ rest)) → IsFirstUsed before super core
      of_first None e h = absurd h
      of_first (Some a) e h = record {
        home = has_home;
        journals = has_journals;
        hold = λ k below. all_hold is.counts (length old) is.counted k (omega (arith, below, in_order.many));
        within = omega (arith, is.within, in_order.many);
        before = holds_nothing core (omega (arith, is.within)) is.before;
        first = h.0;
        rest = h.1;
        here = of_area (λ sizes core image tail. (end : Tail) × Holds sizes core image tail (h.0 ∷ h.1) end) core a e h.2;
      }
  used_cause f f' (mounts.NoTree rule block) is = absurd is
  used_cause f f' mounts.NoMemory is = tt

  -- and so is why home gives none
  home_cause : (f f' : ℕ) (d d' : D) (told : MountFault) → view d ≡ home → view d' ≡ home' → AreEmpty view old (length old) → IsHomeCause view super d d' told → IsTreesCause before now f f' (fault_of_mounting told)
  home_cause f f' d d' (mounts.DiskFault devices.Home) same same' empty rose =
      inr (rose_again (before home_name) (now home_name) home home' again.home_again (lent_faults (before home_name) (mid home_name) home out.home_lent) (rw (same, same') at rose))
  home_cause f f' d d' (mounts.DiskFault (devices.Journal core)) same same' empty is = absurd is
  home_cause f f' d d' (mounts.Damaged device at found expected) same same' empty is = absurd is
  home_cause f f' d d' (mounts.Unbuilt device) same same' empty is = absurd is
  home_cause f f' d d' (mounts.NoTree rule block) same same' empty none =
      inr (inr (rule, block, super, refl, at_rest empty, of_lent (before home_name) (mid home_name) home (λ image. FailsIn super.sizes image rule block) out.home_lent (subst (λ (x : DiskView). IfSome x.bytes (λ image. FailsIn super.sizes image rule block)) same none)))
  home_cause f f' d d' mounts.NoMemory same same' empty is = tt

  -- and so is why a device was not settled
  settle_cause : (f f' : ℕ) (d d' : D) (told : MountFault) → view d ≡ home → view d' ≡ home' → IsSettleCause view d d' old new told → IsTreesCause before now f f' (fault_of_mounting told)
  settle_cause f f' d d' (mounts.DiskFault devices.Home) same same' rose =
      inr (rose_again (before home_name) (now home_name) home home' again.home_again (lent_faults (before home_name) (mid home_name) home out.home_lent) (rw (same, same') at rose))
  settle_cause f f' d d' (mounts.DiskFault (devices.Journal core)) same same' fails = let rose = rose_under core fails in inr (super, has_home, has_journals, rose.0, rose.1)
  settle_cause f f' d d' (mounts.Damaged device at found expected) same same' is = absurd is
  settle_cause f f' d d' (mounts.Unbuilt device) same same' is = absurd is
  settle_cause f f' d d' (mounts.NoTree rule block) same same' is = absurd is
  settle_cause f f' d d' mounts.NoMemory same same' is = absurd is

  pub mount_cause : (f f' : ℕ) (d d' : D) (fault : Fault) → view d ≡ home → view d' ≡ home' → (told : MountFault) × (fault ≡ fault_of_mounting told) × IsMountCause view super d d' old new told → IsTreesCause before now f f' fault
  mount_cause f f' d d' fault same same' (told, is, inl settle) = subst (λ (x : Fault). IsTreesCause before now f f' x) (sym is) (settle_cause f f' d d' told same same' settle)
  mount_cause f f' d d' fault same same' (told, is, inr (inl used)) = subst (λ (x : Fault). IsTreesCause before now f f' x) (sym is) (used_cause f f' told used)
  mount_cause f f' d d' fault same same' (told, is, inr (inr (empty, cause))) = subst (λ (x : Fault). IsTreesCause before now f f' x) (sym is) (home_cause f f' d d' told same same' empty cause)

  -- ---- why one of them was not closed

  pub close_cause : (count f f1 f2 : ℕ) (device : Device) → count ≡ super.sizes.cores → f ≤ f1 → IsOfSet count device × Rose f1 f2 → IsDeviceCause before now f f2 device × Rose f f2
  close_cause count f f1 f2 device many le (inl is, rose) = (subst (λ (d : Device). IsDeviceCause before now f f2 d) (sym is) (inl (rose_since f f1 f2 le rose)), rose_since f f1 f2 le rose)
  close_cause count f f1 f2 device many le (inr is, rose) =
      let below : is.0 < super.sizes.cores = omega (arith, is.1, many) in
      (subst (λ (d : Device). IsDeviceCause before now f f2 d) (sym is.2) (inl (super, has_home, below, (λ core before. has_journals core (omega (arith, before, below))), rose_since f f1 f2 le rose)), rose_since f f1 f2 le rose)
