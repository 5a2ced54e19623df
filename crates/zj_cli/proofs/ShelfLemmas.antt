-- Devices that were opened, written or settled, and closed again.
use Rattle.std.proofs.Common.{◌≡◌, ◌⊎◌, ◌∙◌, inl, inr, zero, suc, ℕ, ◌+◌, ◌<◌, ◌≤◌, List, [], ◌∷◌, length, map, refl, sym, ap, subst, arith}
use Rattle.std.specs.Prelude.{Option, Some, None, IsSomeAnd, MatchOption, option_map, slice_get, ⊤}
use Rattle.std.proofs.lemmas.Bool.{cases_lt}
use Rattle.std.proofs.lemmas.List.{length-map}
use Rattle.std.proofs.lemmas.Option.{slice_get-map, slice_get_past, slice_get_within}
use Rattle.zj_dev.specs.Disk.{Continues, DiskView}
use Rattle.zj_dev.specs.Shelf.{Closes, ShelfView, Slot, Untold, Absent, Out, Stands}
use Rattle.zj_dev.specs.declared.device.Device.TheVariants as devices
use Rattle.zj_dev.specs.declared.span.Span.{Span}
use Rattle.zj_dev.proofs.DiskLaws.{continues_refl, continues_trans}
use Rattle.zj_area.specs.Journal.{AreaView}
use Rattle.zj_home.specs.Super.{Super}
use Rattle.zj_layout.specs.Image.{State}
use Rattle.zj_tree.specs.Tree.{FileTree}
use Rattle.zj_mount.specs.Set.{AllBack, AllBackAs, ClosesAll, IsBack, IsBackAs, IsLent, IsOut, home_name, journal_name}
use Rattle.zj_mount.specs.Settling.{Settles}
use Rattle.zj_mount.proofs.SettleLemmas.{settles_read, settles_refl, settles_trans}
use Rattle.zj_cli.specs.declared.phase.Phase.{Phase}
use Rattle.zj_cli.specs.declared.status.Fault.{Fault}
use Rattle.zj_cli.specs.declared.status.Fault.TheVariants as faults
use Rattle.zj_cli.specs.Outside.{Outside}
use Rattle.zj_cli.specs.Phases.{AreOf, ArePhases, AreUnder, DevicesGoOn}
use Rattle.zj_cli.specs.Play.{Plays, ScriptEnds}
use Rattle.zj_cli.proofs.CheckLemmas.{AreAgain, IsAgain}
use Rattle.zj_cli.proofs.CutLemmas.{cuts_under}
use Rattle.zj_cli.proofs.PhaseLemmas.{same_lists}
use Rattle.zj_cli.proofs.SpellLemmas.{none_there}

-- ---- one device

home_back : (slot mid now : Slot) (d d' : DiskView) → IsLent slot mid d → Settles d d' → Closes d' mid now → IsBackAs Settles slot now
home_back Untold mid now d d' lent settles closes = subst (λ (m : Slot). Closes d' m now) lent closes
home_back (Stands stood) mid now d d' lent settles closes = (d', subst (λ (m : Slot). Closes d' m now) lent.0 closes, settles_trans stood d d' (settles_read stood d lent.1) settles)
home_back Absent mid now d d' lent settles closes = absurd lent
home_back Out mid now d d' lent settles closes = absurd lent

journal_back : (slot mid now : Slot) (d d' : DiskView) → IsLent slot mid d → Continues d d' → Closes d' mid now → IsBackAs Continues slot now
journal_back Untold mid now d d' lent on closes = subst (λ (m : Slot). Closes d' m now) lent closes
journal_back (Stands stood) mid now d d' lent on closes = (d', subst (λ (m : Slot). Closes d' m now) lent.0 closes, continues_trans stood d d' lent.1.goes_on on)
journal_back Absent mid now d d' lent on closes = absurd lent
journal_back Out mid now d d' lent on closes = absurd lent

again : (slot mid now : Slot) (d d' : DiskView) → IsLent slot mid d → Closes d' mid now → IsAgain slot now d'
again Untold mid now d d' lent closes = subst (λ (m : Slot). Closes d' m now) lent closes
again (Stands stood) mid now d d' lent closes = (subst (λ (m : Slot). Closes d' m now) lent.0 closes, tt)
again Absent mid now d d' lent closes = absurd lent
again Out mid now d d' lent closes = absurd lent

-- one that was only read, or not opened
read_back : (slot now : Slot) → IsBack slot now → IsBackAs Continues slot now
read_back Untold now back = back
read_back (Stands stood) now back = (back.0, back.1, back.2.goes_on)
read_back Absent now back = back
read_back Out now back = back

read_settled : (slot now : Slot) → IsBack slot now → IsBackAs Settles slot now
read_settled Untold now back = back
read_settled (Stands stood) now back = (back.0, back.1, settles_read stood back.0 back.2)
read_settled Absent now back = back
read_settled Out now back = back

untouched : (slot : Slot) (Did : DiskView → DiskView → Type 0) → ((disk : DiskView) → Did disk disk) → IsBackAs Did slot slot
untouched Untold Did did = refl
untouched (Stands stood) Did did = (stood, refl, did stood)
untouched Absent Did did = refl
untouched Out Did did = refl

-- the device that stands there is the one that was put back
stands_as : (slot now : Slot) (d disk : DiskView) → IsAgain slot now d → now ≡ Stands disk → disk ≡ d
stands_as Untold now d disk is stands = absurd (let e = sym is ∙ stands in cc)
stands_as (Stands stood) now d disk is stands = let e : Stands d ≡ Stands disk = sym is.0 ∙ stands in cc
stands_as Absent now d disk is stands = absurd is
stands_as Out now d disk is stands = absurd is

-- ---- all of them

pub none_touched : (names : ShelfView) → AllBackAs Settles Continues names names
none_touched names = record { home = untouched (names home_name) Settles settles_refl; journals = λ core fits. untouched (names (journal_name core)) Continues continues_refl; others = λ name home journal. refl }

pub only_read : (before now : ShelfView) → AllBack before now → AllBackAs Settles Continues before now
only_read before now back = record {
  home = read_settled (before home_name) (now home_name) back.home;
  journals = λ core fits. read_back (before (journal_name core)) (now (journal_name core)) (back.journals core fits);
  others = back.others;
}

module _ {D : Type 0} (view : D → DiskView) (before mid now : ShelfView) (home home' : DiskView) (old new : List (AreaView D)) (out : IsOut view before mid home old) (closes : ClosesAll view mid now home' new) (on : DevicesGoOn view old new) where
  pub all_back : Settles home home' → AllBackAs Settles Continues before now
  all_back settles = record {
    home = home_back (before home_name) (mid home_name) (now home_name) home home' out.home_lent settles closes.home_closed;
    journals = λ core fits. one (slice_get old core) (slice_get new core) core (out.journals core fits) (on core) (closes.journals core fits);
    others = λ name is_home is_journal. closes.others name is_home is_journal ∙ out.others name is_home is_journal;
  }
    where
      one : (o o' : Option (AreaView D)) (core : ℕ) → MatchOption o (IsBack (before (journal_name core)) (mid (journal_name core))) (λ area. IsLent (before (journal_name core)) (mid (journal_name core)) (view area.device))
          → MatchOption o (o' ≡ None) (λ a. IsSomeAnd o' (λ b. Continues (view a.device) (view b.device)))
          → MatchOption o' (now (journal_name core) ≡ mid (journal_name core)) (λ area. Closes (view area.device) (mid (journal_name core)) (now (journal_name core)))
          → IsBackAs Continues (before (journal_name core)) (now (journal_name core))
      one None None core back goes closed = subst (λ (s : Slot). IsBackAs Continues (before (journal_name core)) s) (sym closed) (read_back (before (journal_name core)) (mid (journal_name core)) back)
      one None (Some b) core back goes closed = cc
      one (Some a) None core lent goes closed = absurd goes
      one (Some a) (Some b) core lent goes closed = journal_back (before (journal_name core)) (mid (journal_name core)) (now (journal_name core)) (view a.device) (view b.device) lent goes closed

  pub are_again : AreAgain view before now home' new
  are_again = record {
    home_again = again (before home_name) (mid home_name) (now home_name) home home' out.home_lent closes.home_closed;
    journals = λ core fits. one (slice_get old core) (slice_get new core) core (out.journals core fits) (on core) (closes.journals core fits);
  }
    where
      one : (o o' : Option (AreaView D)) (core : ℕ) → MatchOption o (IsBack (before (journal_name core)) (mid (journal_name core))) (λ area. IsLent (before (journal_name core)) (mid (journal_name core)) (view area.device))
          → MatchOption o (o' ≡ None) (λ a. IsSomeAnd o' (λ b. Continues (view a.device) (view b.device)))
          → MatchOption o' (now (journal_name core) ≡ mid (journal_name core)) (λ area. Closes (view area.device) (mid (journal_name core)) (now (journal_name core)))
          → MatchOption o' ⊤ (λ area. IsAgain (before (journal_name core)) (now (journal_name core)) (view area.device))
      one o None core lent goes closed = tt
      one None (Some b) core back goes closed = cc
      one (Some a) (Some b) core lent goes closed = again (before (journal_name core)) (mid (journal_name core)) (now (journal_name core)) (view a.device) (view b.device) lent closed

-- the disks that stand under the names are those that were put back
pub disks_are : {D : Type 0} (view : D → DiskView) (cores : ℕ) (before now : ShelfView) (d : D) (areas : List (AreaView D)) → AreAgain view before now (view d) areas → length areas ≡ cores → length areas ≤ 8 → (disks : List DiskView) → AreUnder cores now disks
    → AreOf view d areas disks
disks_are {D = D} view cores before now d areas again many few disks under = same_lists disks (view d ∷ map (λ (a : AreaView D). view a.device) areas) at
  where
    home : (o : Option DiskView) → slice_get disks 0 ≡ o → o ≡ Some (view d)
    home None e = absurd (none_there disks 0 (let m = under.many in omega (arith, m)) e)
    home (Some disk) e = ap Some (stands_as (before home_name) (now home_name) (view d) disk again.home_again (under.home disk e))

    journal : (core : ℕ) (o : Option (AreaView D)) (disk : Option DiskView) → slice_get areas core ≡ o → slice_get disks (core + 1) ≡ disk → MatchOption o ⊤ (λ a. IsAgain (before (journal_name core)) (now (journal_name core)) (view a.device))
        → disk ≡ option_map (λ (a : AreaView D). view a.device) o
    journal core None None e e' is = refl
    journal core None (Some disk) e e' is = absurd (past (cases_lt core (length areas)))
      where
        past : (core < length areas) ⊎ (length areas ≤ core) → ⊥
        past (inl lt) = none_there areas core lt e
        past (inr le) = omega (arith, slice_get_within disks (core + 1) disk e', under.many, le, many)
    journal core (Some a) None e e' is = absurd (none_there disks (core + 1) (let m = under.many in omega (arith, m, slice_get_within areas core a e, many)) e')
    journal core (Some a) (Some disk) e e' is = ap Some (stands_as (before (journal_name core)) (now (journal_name core)) (view a.device) disk is (under.journals core disk e'))

    fit : (core : ℕ) (o : Option (AreaView D)) → slice_get areas core ≡ o → MatchOption o ⊤ (λ a. IsAgain (before (journal_name core)) (now (journal_name core)) (view a.device))
    fit core None e = tt
    fit core (Some a) e = rw e at (again.journals core (omega (arith, slice_get_within areas core a e, few)))

    at : (k : ℕ) → slice_get disks k ≡ slice_get (view d ∷ map (λ (a : AreaView D). view a.device) areas) k
    at zero = home (slice_get disks 0) refl
    at (suc core) =
        let next : core + 1 ≡ suc core = omega arith in
        subst (λ (k : ℕ). slice_get disks k ≡ option_map (λ (a : AreaView D). view a.device) (slice_get areas core)) next
        (journal core (slice_get areas core) (slice_get disks (core + 1)) refl refl (fit core (slice_get areas core) refl)) ∙ sym (slice_get-map (λ (a : AreaView D). view a.device) areas core)

-- ---- what is said of disks, where others are told

pub phases_under : (cores : ℕ) (Stand Told : List DiskView → Type 0) (phases : List Phase) → ((disks : List DiskView) → Told disks → Stand disks) → ArePhases cores Stand phases → ArePhases cores Told phases
phases_under cores Stand Told [] to are = absurd are
phases_under cores Stand Told (mount ∷ []) to are = (are.0, are.1, λ disks told. are.2 disks (to disks told))
phases_under cores Stand Told (mount ∷ round ∷ []) to are = (are.0, are.1, are.2, are.3, are.4, λ disks told. are.5 disks (to disks told))
phases_under cores Stand Told (mount ∷ round ∷ more ∷ phases) to are = absurd are

module _ (super : Super) (start : State) (tree : FileTree) (Stand Told : List DiskView → Type 0) (Rounds : List Span → Type 0) (Fails Rise : ℕ → Type 0) (before after : Outside) (to : (disks : List DiskView) → Told disks → Stand disks) (rises : (core : ℕ) → Fails core → Rise core) where
  plays_under : (failed : Option ℕ) (rest : List ℕ) → Plays super start tree Stand Rounds Fails before after failed rest → Plays super start tree Told Rounds Rise before after failed rest
  unfolding cuts_under
  plays_under failed rest plays = record {
    spans = plays.spans;
    round = plays.round;
    cuts = cuts_under super start tree Stand Told before.left after.left plays.spans to plays.cuts;
    all_played = plays.all_played;
    fails = λ core failed. rises core (plays.fails core failed);
    fails_in_round = λ disks told. plays.fails_in_round disks (to disks told);
    lowest = plays.lowest;
    written = plays.written;
    text = plays.text;
    took = plays.took;
  }

  pub script_under : (fault : Option Fault) → ScriptEnds super start tree Stand Rounds Fails before after fault → ScriptEnds super start tree Told Rounds Rise before after fault
  script_under None ends = (plays_under None [] ends.0, ends.1, ends.2)
  script_under (Some (faults.Device (devices.Journal core))) ends = (ends.0, plays_under (Some core) ends.0 ends.1, ends.2)
  script_under (Some (faults.Device devices.Home)) ends = absurd ends
  script_under (Some faults.Memory) ends = ends
  script_under (Some faults.Input) ends = ends
  script_under (Some faults.Output) ends = ((ends.0.0, plays_under None ends.0.0 ends.0.1), ends.1)
  script_under (Some faults.Words) ends = absurd ends
  script_under (Some (faults.Script kind line column)) ends = ends
  script_under (Some (faults.Image fault)) ends = absurd ends
