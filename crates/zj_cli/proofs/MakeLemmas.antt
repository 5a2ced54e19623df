-- Devices that are made on a shelf, one after the other.
use Rattle.std.proofs.Common.{◌≡◌, inl, inr, ℕ, zero, suc, true, ◌+◌, ◌-◌, ◌<◌, ◌≤◌, List, replicate, take, drop, slice_index, Option, Some, None, refl, sym, ap, subst, ◌∙◌, arith}
use Rattle.std.specs.Prelude.{Result, Ok, Err}
use Rattle.std.specs.Result.{result_and, result_err}
use Rattle.std.specs.List.{slice_range}
use Rattle.std.proofs.lemmas.List.{drop-replicate}
use Rattle.std.proofs.lemmas.Bool.{cases_eq}
use Rattle.zj_block.specs.Sizes.{Numbers}
use Rattle.zj_dev.specs.Fault.{Rose}
use Rattle.zj_dev.specs.Disk.{DiskView, Continues}
use Rattle.zj_dev.specs.Shelf.{Closes, Creates, IsBlank, ShelfView, Slot, Untold, Absent, Out, Stands, OthersStay}
use Rattle.zj_dev.specs.declared.device.Device.{Device}
use Rattle.zj_dev.specs.declared.device.Device.TheVariants as devices
use Rattle.zj_dev.proofs.DiskLaws.{rose_since, rose_until}
use Rattle.zj_home.specs.Super.{home_length, letters}
use Rattle.zj_home.specs.Made.{HasNoLetters, IsHome, IsMade, MakesOnly, first_super}
use Rattle.zj_tree.specs.Tree.{root_alone}
use Rattle.zj_layout.specs.Shows.{Shows}
use Rattle.zj_cli.specs.declared.status.Fault.{Fault}
use Rattle.zj_cli.specs.Make.{IsBeingMade, IsClosing, IsCreateCause, IsFailedHome, IsHomeCause, IsInSet, IsMadeHome, IsNew, IsNewHome, IsNewJournal, MakeEnds, MakesJournals, MakesNext, MakesSet}
use Rattle.zj_cli.specs.Outside.{Outside}
use Rattle.zj_mount.specs.Set.{home_name, journal_name}
use Rattle.zj_mount.proofs.SetLemmas.{journals_differ}

-- ---- journals

pub journals_none : (sizes : Numbers) (before : ShelfView) → MakesJournals sizes before before 0
journals_none sizes before = record { journals = λ core below. absurd (omega (arith, below)); others = λ name none. refl }

-- one journal more was made
pub journals_more : (sizes : Numbers) (before mid now : ShelfView) (core : ℕ) → core < 8 → MakesJournals sizes before mid core → OthersStay (journal_name core) mid now → IsNew (IsNewJournal sizes core) (mid (journal_name core)) (now (journal_name core)) → MakesJournals sizes before now (core + 1)
journals_more sizes before mid now core small made stay new = record {
  journals = λ k below. at k below;
  others = λ name none. stay name (none core (omega arith)) ∙ made.others name (λ k less. none k (omega arith));
}
  where
    here : mid (journal_name core) ≡ before (journal_name core)
    here = made.others (journal_name core) (λ k less. journals_differ core k small (omega arith) (omega arith))

    at : (k : ℕ) → k < core + 1 → IsNew (IsNewJournal sizes k) (before (journal_name k)) (now (journal_name k))
    at k below =
        elim (cases_eq k core) [
          | inl e ↦ subst (λ (j : ℕ). IsNew (IsNewJournal sizes j) (before (journal_name j)) (now (journal_name j))) (sym e) (subst (λ (s : Slot). IsNew (IsNewJournal sizes core) s (now (journal_name core))) here new)
          | inr other ↦ subst (λ (s : Slot). IsNew (IsNewJournal sizes k) (before (journal_name k)) s) (sym (stay (journal_name k) (journals_differ k core (omega arith) small other))) (made.journals k (omega arith))
        ]

-- ---- counts of faults

pub cause_since : (device : Device) (slot now : Slot) (a b c : ℕ) (fault : Fault) → a ≤ b → IsCreateCause device slot now b c fault → IsCreateCause device slot now a c fault
cause_since device slot now a b c fault le (inl used) = inl used
cause_since device slot now a b c fault le (inr failed) = inr (failed.0, failed.1, rose_since a b c le failed.2)

-- what closing two of them comes to
pub both_closed : {T : Type 0} (sizes : Numbers) (a b c : ℕ) (one other : Result T Fault) → a ≤ b → b ≤ c → IsClosing sizes a b (result_err one) → IsClosing sizes b c (result_err other) → IsClosing sizes a c (result_err (result_and one other))
both_closed sizes a b c (Ok x) (Ok y) le le' first second = second ∙ first
both_closed sizes a b c (Ok x) (Err fault) le le' first second = (second.0, rose_since a b c le second.1)
both_closed sizes a b c (Err fault) other le le' first second = (first.0, rose_until a b c first.1 le')

-- ---- home

no_letter : (n m : ℕ) → slice_index (take n (replicate m 0)) 0 ≡ 0
no_letter zero m = refl
no_letter (suc n) zero = refl
no_letter (suc n) (suc m) = refl

-- a device of zeros has no letters
no_letters : (count : ℕ) (image : List ℕ) → image ≡ replicate count 0 → HasNoLetters image
no_letters count image e = record { first = λ same. at 1 8 same; second = λ same. at 4097 4104 same }
  where
    at : (from to : ℕ) → slice_range image from to ≡ letters → ⊥
    at from to same =
        let zeros : take (to - from) (drop from image) ≡ take (to - from) (replicate (count - from) 0) = ap (λ (l : List ℕ). take (to - from) (drop from l)) e ∙ ap (take (to - from)) (drop-replicate from count 0) in
        let letter : slice_index (take (to - from) (replicate (count - from) 0)) 0 ≡ 90 = ap (λ (l : List ℕ). slice_index l 0) (sym zeros ∙ same) in
        omega (arith, letter, no_letter (to - from) (count - from))

module _ (sizes : Numbers) (blocks : List (List ℕ)) (shows : Shows sizes blocks root_alone) where
  new_home : (image : List ℕ) → IsHome (first_super sizes) blocks image → IsNewHome sizes image
  new_home image home = record { opens = home.opens; shows = record { blocks = blocks; held = home.blocks_are; shows = shows } }

  begun : (blank disk : DiskView) → IsBlank (home_length sizes) blank → Continues blank disk → MakesOnly (first_super sizes) blocks blank disk → IsBeingMade sizes blank disk
  begun blank disk is goes_on only = record {
    was_blank = is;
    continues = goes_on;
    moments = λ moment image from to may.
        elim (only (λ zeros left. no_letters (home_length sizes) zeros (is.only zeros left)) moment image from to may) [
          | inl none ↦ inl none
          | inr home ↦ inr (new_home image home)
        ];
  }

  -- it was made
  pub home_made : (slot mid now : Slot) (blank disk : DiskView) → Creates (home_length sizes) slot mid (Some blank) → Closes disk mid now → Continues blank disk → MakesOnly (first_super sizes) blocks blank disk → IsMade (first_super sizes) blocks disk → IsNew (IsMadeHome sizes) slot now
  home_made Untold mid now blank disk creates closes goes_on only made = rw creates.0 at closes
  home_made Absent mid now blank disk creates closes goes_on only made =
      let same : blank ≡ creates.1 = some_disk creates.2 in
      let is : IsBlank (home_length sizes) blank = subst (λ (d : DiskView). IsBlank (home_length sizes) d) (sym same) creates.3 in
      (disk, rw creates.0 at closes, record { blank = blank; begun = begun blank disk is goes_on only; left = λ moment image from to may. new_home image (now_made moment image from to may) })
    where
      some_disk : {x y : DiskView} → ◌≡◌ {A = Option DiskView} (Some x) (Some y) → x ≡ y
      some_disk e = cc

      now_made : (moment : ℕ) (image : List ℕ) → disk.calls ≤ moment → moment ≤ disk.calls → disk.may_leave moment image ≡ true → IsHome (first_super sizes) blocks image
      now_made moment image from to may = made.left image (ap (λ (m : ℕ). disk.may_leave m image) (omega (arith, from, to)) ∙ may)
  home_made Out mid now blank disk creates closes goes_on only made = absurd (clash creates.1)
    where
      clash : ◌≡◌ {A = Option DiskView} (Some blank) None → ⊥
      clash e = cc
  home_made (Stands stood) mid now blank disk creates closes goes_on only made = absurd (clash creates.1)
    where
      clash : ◌≡◌ {A = Option DiskView} (Some blank) None → ⊥
      clash e = cc

  -- its device failed
  pub home_failed : (slot mid now : Slot) (blank disk : DiskView) → Creates (home_length sizes) slot mid (Some blank) → Closes disk mid now → Continues blank disk → MakesOnly (first_super sizes) blocks blank disk → Rose blank.faults disk.faults → IsNew (IsFailedHome sizes) slot now
  home_failed Untold mid now blank disk creates closes goes_on only rose = rw creates.0 at closes
  home_failed Absent mid now blank disk creates closes goes_on only rose =
      let same : blank ≡ creates.1 = some_disk creates.2 in
      let is : IsBlank (home_length sizes) blank = subst (λ (d : DiskView). IsBlank (home_length sizes) d) (sym same) creates.3 in
      (disk, rw creates.0 at closes, record { blank = blank; begun = begun blank disk is goes_on only; rose = rose })
    where
      some_disk : {x y : DiskView} → ◌≡◌ {A = Option DiskView} (Some x) (Some y) → x ≡ y
      some_disk e = cc
  home_failed Out mid now blank disk creates closes goes_on only rose = absurd (clash creates.1)
    where
      clash : ◌≡◌ {A = Option DiskView} (Some blank) None → ⊥
      clash e = cc
  home_failed (Stands stood) mid now blank disk creates closes goes_on only rose = absurd (clash creates.1)
    where
      clash : ◌≡◌ {A = Option DiskView} (Some blank) None → ⊥
      clash e = cc

-- ---- how it ends

module _ (sizes : Numbers) (before after : Outside) where
  -- a device was not created
  stops : (f g count : ℕ) (name : List ℕ) (device : Device) (fault : Fault) → before.shelf_faults ≤ f → g ≡ after.shelf_faults → IsInSet sizes device count name → (next : MakesNext sizes before.names after.names count name (λ slot now. IsCreateCause device slot now f g fault)) → MakeEnds sizes before after (Some fault)
  stops f g count name device fault le same is next = by next.next
    where
      by : IsCreateCause device (next.mid name) (after.names name) f g fault → MakeEnds sizes before after (Some fault)
      by (inl used) = subst (λ (x : Fault). MakeEnds sizes before after (Some x)) (sym used.0)
          (count, name, is, record { mid = next.mid; journals = next.journals; others = next.others; next = (used.1, used.2) })
      by (inr failed) = subst (λ (x : Fault). MakeEnds sizes before after (Some x)) (sym failed.0)
          (count, name, is, inl (record { mid = next.mid; journals = next.journals; others = next.others; next = inl (failed.1, rose_since before.shelf_faults f after.shelf_faults le (subst (λ (n : ℕ). Rose f n) same failed.2)) }))

  pub stops_at_journal : (g : ℕ) (fault : Fault) → g ≡ after.shelf_faults → (core : ℕ) × (core < sizes.cores) × MakesNext sizes before.names after.names core (journal_name core) (λ slot now. IsCreateCause (devices.Journal core) slot now before.shelf_faults g fault) → MakeEnds sizes before after (Some fault)
  stops_at_journal g fault same cause = stops before.shelf_faults g cause.0 (journal_name cause.0) (devices.Journal cause.0) fault (omega arith) same (cause.1, refl, refl) cause.2

  -- home was not made
  pub stops_at_home : (mid : ShelfView) (f : ℕ) (fault : Fault) → before.shelf_faults ≤ f → MakesJournals sizes before.names mid sizes.cores → OthersStay home_name mid after.names → IsHomeCause sizes (mid home_name) (after.names home_name) f after.shelf_faults fault → MakeEnds sizes before after (Some fault)
  stops_at_home mid f fault le made stay (inl cause) = stops f after.shelf_faults sizes.cores home_name devices.Home fault le refl (refl, refl) (record { mid = mid; journals = made; others = stay; next = cause })
  stops_at_home mid f fault le made stay (inr cause) = subst (λ (x : Fault). MakeEnds sizes before after (Some x)) (sym cause.0)
      (sizes.cores, home_name, (refl, refl), inl (record { mid = mid; journals = made; others = stay; next = inr (refl, cause.1) }))

  -- all were made
  pub make_ends : (mid : ShelfView) (closed : Option Fault) → MakesJournals sizes before.names mid sizes.cores → OthersStay home_name mid after.names → IsNew (IsMadeHome sizes) (mid home_name) (after.names home_name)
      → after.input_faults ≡ before.input_faults → after.output_faults ≡ before.output_faults → IsClosing sizes before.shelf_faults after.shelf_faults closed → MakeEnds sizes before after closed
  make_ends mid closed made stay home input output closing = by closed closing
    where
      set : MakesSet sizes before.names after.names
      set = record { mid = mid; journals = made; others = stay; next = home }

      by : (closed : Option Fault) → IsClosing sizes before.shelf_faults after.shelf_faults closed → MakeEnds sizes before after closed
      by None quiet = (set, record { input = input; output = output; shelf = quiet })
      by (Some fault) failed = subst (λ (x : Fault). MakeEnds sizes before after (Some x)) (sym failed.0.4) (failed.0.1, failed.0.2, failed.0.3, inr (set, failed.1))
