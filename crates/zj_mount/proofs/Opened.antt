-- A set of devices that was opened.
use Rattle.std.proofs.Common.{◌≡◌, ◌≢◌, ℕ, ◌≤◌, List, length, sym, subst, ap, ◌∙◌}
use Rattle.std.specs.Prelude.{IfSome, None, Option, Some, slice_get}
use Rattle.zj_dev.specs.Fault.{Rose}
use Rattle.zj_dev.specs.Disk.{DiskView}
use Rattle.zj_dev.specs.Shelf.{ShelfView, OthersStay, Slot}
use Rattle.zj_dev.specs.declared.device.Device.{Device}
use Rattle.zj_dev.specs.declared.device.Device.TheVariants as devices
use Rattle.zj_home.specs.Super.{Super}
use Rattle.zj_block.specs.declared.numbers.Tail.{Tail}
use Rattle.zj_area.specs.Journal.{AreaView, opened as just_opened}
use Rattle.zj_dev.proofs.DiskLaws.{rose_since, rose_until}
use Rattle.zj_mount.specs.declared.fault.OpenFault.{OpenFault}
use Rattle.zj_mount.specs.declared.fault.OpenFault.TheVariants as faults
use Rattle.zj_mount.specs.Image.{HasHome, HasJournals, IsMissing, OfLength}
use Rattle.zj_mount.specs.Mounting.{AreInOrder, IsJournalOf}
use Rattle.zj_mount.specs.Opening.{AllOpened, AreOpened, IsJournalCause, IsJournalsCause, IsOpenCause, IsOpened}
use Rattle.zj_mount.specs.Set.{AllBack, IsBack, IsLent, IsNoJournal, IsOut, home_name, journal_name}
use Rattle.zj_mount.proofs.OpenLemmas.{match_option}
use Rattle.zj_mount.proofs.SetLemmas.{back_same, home_differs}

module _ (before mid : ShelfView) (stay : OthersStay home_name before mid) where
  -- home was taken out first, and that changed no journal's name
  same_journal : (core : ℕ) → mid (journal_name core) ≡ before (journal_name core)
  same_journal core = stay (journal_name core) (home_differs core)

  not_home : IsNoJournal home_name
  not_home core fits e = home_differs core (sym e)

  -- home alone was refused
  pub home_back : IsBack (before home_name) (mid home_name) → AllBack before mid
  home_back back = record {
    home = back;
    journals = λ core fits. back_same (before (journal_name core)) (mid (journal_name core)) (same_journal core);
    others = λ name other none. stay name other;
  }

  -- and then so many journals
  pub journals_before : (super : Super) (count : ℕ) → HasJournals mid super count → HasJournals before super count
  journals_before super count has core below = subst (λ (s : Slot). OfLength s (λ len. len ≡ super.sizes.area)) (same_journal core) (has core below)

  pub all_out : {D : Type 0} (view : D → DiskView) (now : ShelfView) (home : DiskView) (super : Super) (count : ℕ) (areas : List (AreaView D)) → IsLent (before home_name) (mid home_name) home → AreOpened view mid now super count areas → IsOut view before now home areas
  all_out view now home super count areas lent opened = record {
    home_lent = subst (λ (s : Slot). IsLent (before home_name) s home) (sym (opened.others home_name not_home)) lent;
    journals = λ core fits. match_option (slice_get areas core)
        (λ e was. back_same (before (journal_name core)) (now (journal_name core)) (was ∙ same_journal core))
        (λ area e was. subst (λ (s : Slot). IsLent s (now (journal_name core)) (view area.device)) (same_journal core) was.0) (opened.journals core fits);
    others = λ name other none. opened.others name none ∙ stay name other;
  }

  -- why the journals were not opened is why the set wasn't
  pub set_cause : (now : ShelfView) (f0 f1 f2 f3 : ℕ) (super : Super) (fault : OpenFault) → HasHome before super → f0 ≤ f1 → f2 ≤ f3 → IsJournalsCause mid f1 f2 super fault → IsOpenCause before now f0 f3 fault
  set_cause now f0 f1 f2 f3 super fault home le le' cause = by_fault fault cause.3
    where
      missing : (device : Device) → (device ≡ devices.Journal cause.0) × IsMissing (mid (journal_name cause.0)) → IsOpenCause before now f0 f3 (faults.Absent device)
      missing device is =
          subst (λ (d : Device). IsOpenCause before now f0 f3 (faults.Absent d)) (sym is.0)
          (super, home, cause.1, journals_before super cause.0 cause.2, subst IsMissing (same_journal cause.0) is.1)

      long : (device : Device) (found expected : ℕ) → (device ≡ devices.Journal cause.0) × OfLength (mid (journal_name cause.0)) (λ len. (len ≡ found) × (expected ≡ super.sizes.area) × (found ≢ expected)) → IsOpenCause before now f0 f3 (faults.Sizes device found expected)
      long device found expected is =
          subst (λ (d : Device). IsOpenCause before now f0 f3 (faults.Sizes d found expected)) (sym is.0)
          (super, home, cause.1, journals_before super cause.0 cause.2, subst (λ (s : Slot). OfLength s (λ len. (len ≡ found) × (expected ≡ super.sizes.area) × (found ≢ expected))) (same_journal cause.0) is.1)

      failed : (device : Device) → (device ≡ devices.Journal cause.0) × Rose f1 f2 → IsOpenCause before now f0 f3 (faults.ShelfFault device)
      failed device is =
          subst (λ (d : Device). IsOpenCause before now f0 f3 (faults.ShelfFault d)) (sym is.0)
          (super, home, cause.1, journals_before super cause.0 cause.2, rose_until f0 f2 f3 (rose_since f0 f1 f2 le is.1) le')

      by_fault : (fault : OpenFault) → IsJournalCause (mid (journal_name cause.0)) f1 f2 super cause.0 fault → IsOpenCause before now f0 f3 fault
      by_fault (faults.Absent device) is = missing device is
      by_fault (faults.Sizes device found expected) is = long device found expected is
      by_fault (faults.NotAnImage at) is = absurd is
      by_fault (faults.Version found) is = absurd is
      by_fault (faults.DiskFault device) is = absurd is
      by_fault (faults.ShelfFault device) is = failed device is
      by_fault faults.NoMemory is = tt

-- each was just opened
pub all_opened : {D : Type 0} (view : D → DiskView) (before now : ShelfView) (super : Super) (areas : List (AreaView D)) → length areas ≤ 8 → AreOpened view before now super super.sizes.cores areas → AllOpened super areas
all_opened view before now super areas few opened = record {
  many = opened.many;
  few = few;
  opened = λ core fits. match_option (slice_get areas core) (λ e was. tt) (λ area e was. was.1) (opened.journals core fits);
}

module _ {D : Type 0} (super : Super) where
  -- an area that was just opened is the journal of its core
  journal_of : (core : ℕ) (area : AreaView D) → IsOpened super core area → IsJournalOf super core area
  journal_of core area is = by (slice_get super.tails core) is
    where
      by : (o : Option Tail) → IfSome o (λ tail. area ≡ just_opened area.device super.sizes core tail) → IfSome o (λ tail. (area.sizes ≡ super.sizes) × (area.core ≡ core) × (area.tail ≡ tail))
      by None is = tt
      by (Some tail) is = (ap (λ (a : AreaView D). a.sizes) is, ap (λ (a : AreaView D). a.core) is, ap (λ (a : AreaView D). a.tail) is)

  journal_if : (core : ℕ) (o : Option (AreaView D)) → IfSome o (IsOpened super core) → IfSome o (IsJournalOf super core)
  journal_if core None is = tt
  journal_if core (Some area) is = journal_of core area is

  -- and so are all, in order
  pub in_order : (areas : List (AreaView D)) → AllOpened super areas → AreInOrder super areas
  in_order areas opened = record { many = opened.many; few = opened.few; journals = λ core fits. journal_if core (slice_get areas core) (opened.opened core fits) }
