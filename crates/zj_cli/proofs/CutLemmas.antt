-- Where the phases begin, and what a round leaves of an image on the shelf.
use Rattle.std.proofs.Common.{◌≡◌, ◌∙◌, zero, suc, ℕ, ◌+◌, ◌-◌, ◌^◌, ◌<◌, ◌≤◌, true, List, [], ◌∷◌, length, map, Option, Some, None, refl, sym, ap, subst, arith, ⊎_elim}
use Rattle.std.specs.Prelude.{IsSomeAnd, MatchOption, option_map, slice_get, ⊤}
use Rattle.std.proofs.lemmas.Bool.{cases_lt}
use Rattle.std.proofs.lemmas.Option.{slice_get-map, slice_get_past, slice_get_within}
use Rattle.zj_block.specs.declared.sizes.TheConstants.{MAX_CORES}
use Rattle.zj_dev.specs.Disk.{Continues, DiskView, OnlyReads}
use Rattle.zj_dev.specs.Shelf.{ShelfView, Slot, Out, Stands}
use Rattle.zj_dev.specs.declared.span.Span.{Span}
use Rattle.zj_area.specs.Journal.{AreaView}
use Rattle.zj_home.specs.Super.{Super}
use Rattle.zj_layout.specs.Image.{State}
use Rattle.zj_mount.specs.Set.{ClosesAll, IsBack, IsLent, IsOut, WentTo, home_name, journal_name}
use Rattle.zj_mount.specs.Settling.{Settles}
use Rattle.zj_tree.specs.Tree.{FileTree}
use Rattle.zj_cli.specs.declared.phase.Phase.{Phase}
use Rattle.zj_cli.specs.Phases.{AreOf, ArePhases, AreUnder, BeginsAfter, DevicesGoOn, HasRound, PhasesBegin, spans_in}
use Rattle.zj_cli.specs.Play.{LeavesCuts, OthersAreBack}

-- ---- where there is no phase

pub none_begin : (before after : ShelfView) (phases : List Phase) → phases ≡ [] → PhasesBegin before after phases
none_begin before after phases none = subst (PhasesBegin before after) (sym none) tt

pub none_round : (phases : List Phase) (spans : List Span) → phases ≡ [] → HasRound phases spans → ⊥
none_round phases spans none has = absurd (omega (arith, ap length none, ap length has.2))

-- ---- where the first one begins

-- a device was only read, and then went on: until it was read last, a crash leaves what it might leave at first
begins_one : (old mid new : DiskView) → OnlyReads old mid → Continues mid new → (moment : ℕ) (image : List ℕ) → old.calls ≤ moment → moment ≤ mid.calls → moment < 2 ^ 64 - 1 → new.may_leave moment image ≡ new.may_leave old.calls image
begins_one old mid new reads goes_on moment image from to soon = at moment from to soon ∙ sym (at old.calls (omega arith) (omega (arith, from, to)) (omega (arith, from, soon)))
  where
    at : (m : ℕ) → old.calls ≤ m → m ≤ mid.calls → m < 2 ^ 64 - 1 → new.may_leave m image ≡ old.may_leave old.calls image
    at m low high soon = ⊎_elim
        (λ earlier. goes_on.images m image earlier ∙ reads.images m image low high)
        (λ last.
        let here : m ≡ mid.calls = omega (arith, last, high) in
        ap (λ n. new.may_leave n image) here ∙ goes_on.here image (omega (arith, here, soon)) ∙ reads.images mid.calls image (omega (arith, low, high)) (omega arith))
        (cases_lt m mid.calls)

-- a device that was lent from where it stood was only read
lent_reads : (slot now : Slot) (stood disk : DiskView) → slot ≡ Stands stood → IsLent slot now disk → OnlyReads stood disk
lent_reads slot now stood disk is lent = (subst (λ (s : Slot). IsLent s now disk) is lent).1

at_first : {X : Type 0} (xs ys : List X) (k : ℕ) (o : Option X) → xs ≡ ys → slice_get xs k ≡ o → slice_get ys k ≡ o
at_first xs ys k o same at = ap (λ (l : List _). slice_get l k) (sym same) ∙ at

some_of : {X Y : Type 0} (f : X → Y) (o : Option X) (y : Y) → option_map f o ≡ Some y → (x : X) × (o ≡ Some x) × (f x ≡ y)
some_of f None y is = cc
some_of f (Some x) y is = (x, refl, let e : Some (f x) ≡ Some y = is in cc)

module _ {D : Type 0} (view : D → DiskView) (before mid now : ShelfView) (d d' : D) (old new : List (AreaView D)) (out : IsOut view before mid (view d) old) (few : length old ≤ MAX_CORES)
    (home : Settles (view d) (view d')) (on : DevicesGoOn view old new) (first : Phase) (froms : map (λ (s : Span). s.from) (spans_in first) ≡ map (λ (x : DiskView). x.calls) (view d ∷ map (λ (a : AreaView D). view a.device) old)) where
  -- where the span of a device begins
  from_is : (place : ℕ) (span : Span) → slice_get (spans_in first) place ≡ Some span → option_map (λ (x : DiskView). x.calls) (slice_get (view d ∷ map (λ (a : AreaView D). view a.device) old) place) ≡ Some span.from
  from_is place span at =
      sym (slice_get-map (λ (x : DiskView). x.calls) (view d ∷ map (λ (a : AreaView D). view a.device) old) place) ∙ ap (λ (l : List ℕ). slice_get l place) (sym froms)
      ∙ slice_get-map (λ (s : Span). s.from) (spans_in first) place ∙ ap (option_map (λ (s : Span). s.from)) at

  module _ (cores : ℕ) (stood disks : List DiskView) (under : AreUnder cores before stood) (are : AreOf view d' new disks) where
    at_home : (moment : ℕ) (s disk : DiskView) (span : Span) (image : List ℕ) → slice_get stood 0 ≡ Some s → slice_get disks 0 ≡ Some disk → slice_get (spans_in first) 0 ≡ Some span → s.calls ≤ moment → moment ≤ span.from → moment < 2 ^ 64 - 1 → disk.may_leave moment image ≡ disk.may_leave s.calls image
    at_home moment s disk span image here there at from to soon =
        let same : view d' ≡ disk = (let e : Some (view d') ≡ Some disk = at_first disks (view d' ∷ map (λ (a : AreaView D). view a.device) new) 0 (Some disk) are there in cc) in
        let begins : (view d).calls ≡ span.from = (let e : Some (view d).calls ≡ Some span.from = from_is 0 span at in cc) in
        subst (λ (x : DiskView). x.may_leave moment image ≡ x.may_leave s.calls image) same
        (begins_one s (view d) (view d') (lent_reads (before home_name) (mid home_name) s (view d) (under.home s here) out.home_lent) home.goes_on moment image from (omega (arith, begins, to)) soon)

    at_journal : (core moment : ℕ) (s disk : DiskView) (span : Span) (image : List ℕ) → slice_get stood (core + 1) ≡ Some s → slice_get disks (suc core) ≡ Some disk → slice_get (spans_in first) (suc core) ≡ Some span → s.calls ≤ moment → moment ≤ span.from → moment < 2 ^ 64 - 1 → disk.may_leave moment image ≡ disk.may_leave s.calls image
    at_journal core moment s disk span image here there at from to soon =
        let a = some_of (λ (x : AreaView D). view x.device) (slice_get old core) _ (sym (slice_get-map (λ (x : AreaView D). view x.device) old core) ∙ was.1) in
        let b = some_of (λ (x : AreaView D). view x.device) (slice_get new core) disk (sym (slice_get-map (λ (x : AreaView D). view x.device) new core) ∙ at_first disks (view d' ∷ map (λ (x : AreaView D). view x.device) new) (suc core) (Some disk) are there) in
        let lent : IsLent (before (journal_name core)) (mid (journal_name core)) (view a.0.device) = rw a.1 at (out.journals core (omega (arith, slice_get_within old core a.0 a.1, few))) in
        let goes_on : Continues (view a.0.device) (view b.0.device) = rw (a.1, b.1) at (on core) in
        let begins : (view a.0.device).calls ≡ span.from = ap (λ (x : DiskView). x.calls) a.2 ∙ was.2 in
        subst (λ (x : DiskView). x.may_leave moment image ≡ x.may_leave s.calls image) b.2
        (begins_one s (view a.0.device) (view b.0.device) (lent_reads (before (journal_name core)) (mid (journal_name core)) s (view a.0.device) (under.journals core s here) lent) goes_on moment image from (omega (arith, begins, to)) soon)
      where
        was : (x : DiskView) × (slice_get (map (λ (a : AreaView D). view a.device) old) core ≡ Some x) × (x.calls ≡ span.from)
        was = some_of (λ (x : DiskView). x.calls) (slice_get (map (λ (a : AreaView D). view a.device) old) core) span.from (from_is (suc core) span at)

    pub begins_after : BeginsAfter first stood disks
    begins_after zero moment s disk span image here there at from to soon = at_home moment s disk span image here there at from to soon
    begins_after (suc core) moment s disk span image here there at from to soon =
        at_journal core moment s disk span image (subst (λ (k : ℕ). slice_get stood k ≡ Some s) (omega arith) here) there at from to soon

-- the first phase of a call that was told of an image so opened
pub begins_told : {D : Type 0} (view : D → DiskView) (before mid now : ShelfView) (d d' : D) (old new : List (AreaView D)) → IsOut view before mid (view d) old → length old ≤ MAX_CORES → Settles (view d) (view d') → DevicesGoOn view old new
    → (cores : ℕ) (phases : List Phase) → ArePhases cores (AreUnder cores now) phases → ((disks : List DiskView) → AreUnder cores now disks → AreOf view d' new disks)
    → ((first : Phase) (later : List Phase) → phases ≡ first ∷ later → map (λ (s : Span). s.from) (spans_in first) ≡ map (λ (x : DiskView). x.calls) (view d ∷ map (λ (a : AreaView D). view a.device) old))
    → PhasesBegin before now phases
begins_told view before mid now d d' old new out few home on cores [] are to froms = tt
begins_told view before mid now d d' old new out few home on cores (first ∷ later) are to froms = λ many stood disks devices under after.
    let same : many ≡ cores = (let told = devices_of first later are in omega (arith, devices, told)) in
    begins_after view before mid now d d' old new out few home on first (froms first later refl) many stood disks under (to disks (subst (λ n. AreUnder n now disks) same after))
  where
    devices_of : (first : Phase) (later : List Phase) → ArePhases cores (AreUnder cores now) (first ∷ later) → first.devices ≡ cores + 1
    devices_of first [] are = are.1.devices
    devices_of first (second ∷ []) are = are.2.devices
    devices_of first (second ∷ third ∷ rest) are = absurd are

-- ---- what a round leaves

unfoldable pub cuts_under : (super : Super) (start : State) (tree : FileTree) (Stand Under : List DiskView → Type 0) (left now : Option (List ℕ)) (spans : List Span) → ((disks : List DiskView) → Under disks → Stand disks) → LeavesCuts super start tree Stand left now spans → LeavesCuts super start tree Under left now spans
cuts_under super start tree Stand Under left now spans to leaves = record {
  read = leaves.read;
  lines = leaves.lines;
  rest = leaves.rest;
  input = leaves.input;
  is_schedule = leaves.is_schedule;
  built = leaves.built;
  front = leaves.front;
  played = leaves.played;
  history = leaves.history;
  fit = leaves.fit;
  fits_log = leaves.fits_log;
  run = leaves.run;
  recovers = λ disks under. leaves.recovers disks (to disks under);
}

-- ---- a journal that is none of the image's

module _ {D : Type 0} (view : D → DiskView) (before mid now : ShelfView) (home home' : DiskView) (old new : List (AreaView D)) (out : IsOut view before mid home old) (closes : ClosesAll view mid now home' new) (on : DevicesGoOn view old new) where
  -- was only read where it was not opened
  pub foreign_back : (core : ℕ) → core < MAX_CORES → length old ≤ core → IsBack (before (journal_name core)) (now (journal_name core))
  foreign_back core fits past =
      let none : slice_get old core ≡ None = slice_get_past old core past in
      let none_new : slice_get new core ≡ None = rw none at (on core) in
      subst (IsBack (before (journal_name core))) (sym (rw none_new at (closes.journals core fits))) (rw none at (out.journals core fits))

-- by the phases that were told
pub others_told : (cores : ℕ) (Stand : List DiskView → Type 0) (before now : ShelfView) (phases : List Phase) → ArePhases cores Stand phases
    → ((core : ℕ) → core < MAX_CORES → cores ≤ core → IsBack (before (journal_name core)) (now (journal_name core))) → OthersAreBack before now phases
others_told cores Stand before now [] are back = absurd are
others_told cores Stand before now (first ∷ later) are back = λ core fits past. back core fits (let devices = devices_of first later are in let above = past 0 first (omega arith) in omega (arith, devices, above))
  where
    devices_of : (first : Phase) (later : List Phase) → ArePhases cores Stand (first ∷ later) → first.devices ≡ cores + 1
    devices_of first [] are = are.1.devices
    devices_of first (second ∷ []) are = are.2.devices
    devices_of first (second ∷ third ∷ rest) are = absurd are
