-- What a status tells of the phases of a call: the moments of each device in each of them.
use Rattle.std.specs.Prelude.{◌≡◌, ◌-◌, ◌^◌, ◌≤◌, ⊤, ℕ, ◌+◌, ◌<◌, true, List, [], ◌∷◌, length, map, take, Some, None, IsSomeAnd, MatchOption, slice_get, slice_index}
use Rattle.zj_dev.specs.Crash.{FailsIn, IsQuietIn, LeavesIn}
use Rattle.zj_dev.specs.Disk.{Continues, DiskView, IsDisk}
use Rattle.zj_dev.specs.Fault.{Rose}
use Rattle.zj_dev.specs.Shelf.{ShelfView, Stands}
use Rattle.zj_dev.specs.declared.span.Span.{Span}
use Rattle.zj_area.specs.Journal.{AreaView}
use Rattle.zj_mount.specs.Set.{home_name, journal_name}
use Rattle.zj_cli.specs.declared.phase.Phase.{Phase}
use Rattle.zj_cli.specs.declared.phase.PhaseKind.TheVariants as kinds

-- the spans of a phase: home's, and then that of each journal
abbrev pub spans_in : Phase → List Span
spans_in phase = take phase.devices phase.spans

-- ---- the devices

-- The disks are those that stand under the names of an image of so many cores: home, and then each journal.
pub record AreUnder (cores : ℕ) (names : ShelfView) (disks : List DiskView) : Type 0 where
  pub many : length disks ≡ cores + 1
  pub home : (disk : DiskView) → slice_get disks 0 ≡ Some disk → names home_name ≡ Stands disk
  pub journals : (core : ℕ) (disk : DiskView) → slice_get disks (core + 1) ≡ Some disk → names (journal_name core) ≡ Stands disk

-- ---- the phases

-- A phase is of home and the journals of so many cores, and no span of it ends before it begins. Behind those the spans are 0.
pub record IsPhaseOf (cores : ℕ) (phase : Phase) : Type 0 where
  pub devices : phase.devices ≡ cores + 1
  pub places : length phase.spans ≡ 65
  pub forward : (place : ℕ) (span : Span) → slice_get phase.spans place ≡ Some span → span.from ≤ span.to
  pub behind : (place : ℕ) (span : Span) → cores < place → slice_get phase.spans place ≡ Some span → span ≡ record { from = 0; to = 0 }

-- A phase begins, on each device, where another ends.
abbrev pub GoesOnFrom : Phase → Phase → Type 0
GoesOnFrom earlier later = map (λ s. s.from) later.spans ≡ map (λ s. s.to) earlier.spans

-- It ends at the moments at which the disks were closed.
abbrev pub EndsWith : Phase → List DiskView → Type 0
EndsWith phase disks = map (λ s. s.to) (spans_in phase) ≡ map (λ d. d.calls) disks

-- Nothing is written in a mount: what a crash leaves of a device, at a moment of it, it might leave as the mount began. At the last moment that
-- a count of calls can tell the count stands still, so nothing is said of that one.
abbrev pub IsStillIn : Phase → List DiskView → Type 0
IsStillIn phase disks = (place moment : ℕ) (disk : DiskView) (span : Span) (image : List ℕ) → slice_get disks place ≡ Some disk → slice_get (spans_in phase) place ≡ Some span → LeavesIn disk span moment image → moment < 2 ^ 64 - 1 → disk.may_leave span.from image ≡ true

-- Home is not written in a round.
abbrev pub IsHomeQuietIn : Phase → List DiskView → Type 0
IsHomeQuietIn phase disks = (home : DiskView) (span : Span) → slice_get disks 0 ≡ Some home → slice_get (spans_in phase) 0 ≡ Some span → IsQuietIn home span

-- The phases of `play` on an image of so many cores, whose disks are told: a mount alone; or a mount, and then a round.
abbrev pub ArePhases : ℕ → (List DiskView → Type 0) → List Phase → Type 0
ArePhases cores Stand (mount ∷ []) = (mount.kind ≡ kinds.Mount) × IsPhaseOf cores mount
    × ((disks : List DiskView) → Stand disks → IsStillIn mount disks × EndsWith mount disks)
ArePhases cores Stand (mount ∷ round ∷ []) = (mount.kind ≡ kinds.Mount) × (round.kind ≡ kinds.Round) × IsPhaseOf cores mount × IsPhaseOf cores round × GoesOnFrom mount round
    × ((disks : List DiskView) → Stand disks → IsStillIn mount disks × IsHomeQuietIn round disks × EndsWith round disks)
ArePhases cores Stand phases = ⊥

-- From the moment at which these disks stood on the shelf, up to the first moment of a phase, nothing was written. Of the last moment that a
-- count of calls can tell nothing is said.
abbrev pub BeginsAfter : Phase → List DiskView → List DiskView → Type 0
BeginsAfter phase stood disks = (place moment : ℕ) (old disk : DiskView) (span : Span) (image : List ℕ) → slice_get stood place ≡ Some old → slice_get disks place ≡ Some disk → slice_get (spans_in phase) place ≡ Some span
    → old.calls ≤ moment → moment ≤ span.from → moment < 2 ^ 64 - 1 → disk.may_leave moment image ≡ disk.may_leave old.calls image

-- The first phase begins so, as an image of so many cores was opened.
abbrev pub PhasesBegin : ShelfView → ShelfView → List Phase → Type 0
PhasesBegin before after [] = ⊤
PhasesBegin before after (first ∷ later) = (cores : ℕ) (stood disks : List DiskView) → first.devices ≡ cores + 1 → AreUnder cores before stood → AreUnder cores after disks → BeginsAfter first stood disks

-- These are the spans of the round.
abbrev pub HasRound : List Phase → List Span → Type 0
HasRound phases spans = (mount round : Phase) × (phases ≡ mount ∷ round ∷ []) × (spans ≡ spans_in round)

-- In these spans of devices, home first, the journal of a core failed.
abbrev pub JournalFailsIn : List DiskView → List Span → ℕ → Type 0
JournalFailsIn disks spans core = (disk : DiskView) (span : Span) → slice_get disks (core + 1) ≡ Some disk → slice_get spans (core + 1) ≡ Some span → FailsIn disk span

-- ---- moments

-- the moments of home and of journals, behind them 0
pub record AreMoments {D : Type 0} (view : D → DiskView) (home : D) (journals : List D) (moments : List ℕ) : Type 0 where
  pub places : length moments ≡ 65
  pub home_is : slice_get moments 0 ≡ Some (view home).calls
  pub journals_are : (core : ℕ) (journal : D) → slice_get journals core ≡ Some journal → slice_get moments (core + 1) ≡ Some (view journal).calls
  pub behind : (place : ℕ) → length journals < place → slice_index moments place ≡ 0

-- the device of each of these journals is a disk
abbrev pub AreDisks : {D : Type 0} → (D → DiskView) → List (AreaView D) → Type 0
AreDisks {D} view areas = (core : ℕ) (area : AreaView D) → slice_get areas core ≡ Some area → IsDisk (view area.device)

-- a phase between moments
pub record IsBetween (from to : List ℕ) (phase : Phase) : Type 0 where
  pub froms : map (λ s. s.from) phase.spans ≡ from
  pub tos : map (λ s. s.to) phase.spans ≡ to

-- The disks are those of a home and of journals that are out of their shelf.
abbrev pub AreOf : {D : Type 0} → (D → DiskView) → D → List (AreaView D) → List DiskView → Type 0
AreOf view home areas disks = disks ≡ view home ∷ map (λ a. view a.device) areas

-- the device of a core's journal failed
abbrev pub JournalFails : {D : Type 0} → (D → DiskView) → List (AreaView D) → List (AreaView D) → ℕ → Type 0
JournalFails view old new core = IsSomeAnd (slice_get old core) (λ a. IsSomeAnd (slice_get new core) (λ b. Rose (view a.device).faults (view b.device).faults))

-- the journals are there still, each with its device gone on
abbrev pub DevicesGoOn : {D : Type 0} → (D → DiskView) → List (AreaView D) → List (AreaView D) → Type 0
DevicesGoOn view old new = (core : ℕ) → MatchOption (slice_get old core) (slice_get new core ≡ None) (λ a. IsSomeAnd (slice_get new core) (λ b. Continues (view a.device) (view b.device)))
