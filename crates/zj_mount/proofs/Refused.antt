-- An image that was not opened whole, put back.
use Rattle.std.proofs.Common.{◌≡◌, ◌≢◌, ℕ, ◌<◌, Bool, true, false, List, length, refl, sym, subst, ◌∙◌, arith, inl, inr}
use Rattle.std.specs.Prelude.{Option, Some, None, slice_get, bytes_eq}
use Rattle.std.proofs.lemmas.Bool.{cases_eq}
use Rattle.std.proofs.lemmas.Option.{slice_get_past}
use Rattle.std.proofs.lemmas.Slice.Eq.{bytes_eq-Decides}
use Rattle.zj_dev.specs.Disk.{DiskView}
use Rattle.zj_dev.specs.Shelf.{Closes, ShelfView, OthersStay, Slot, Untold, Absent, Out, Stands}
use Rattle.zj_area.specs.Journal.{AreaView}
use Rattle.zj_home.specs.Super.{Super}
use Rattle.zj_mount.specs.Opening.{StopsOpening}
use Rattle.zj_mount.specs.Set.{AllBack, IsBack, IsLent, IsOut, home_name, journal_name, with_slot}
use Rattle.zj_mount.proofs.Opened.{all_out}
use Rattle.zj_mount.proofs.OpenLemmas.{next_slot}
use Rattle.zj_mount.proofs.SetLemmas.{back_refl, home_differs, journals_differ}

-- ---- a slot in place of another

pub there : (name : List ℕ) (slot : Slot) (names : ShelfView) → with_slot name slot names name ≡ slot
there name slot names = by (bytes_eq name name) refl
  where
    by : (b : Bool) → bytes_eq name name ≡ b → with_slot name slot names name ≡ slot
    by true e = rw e
    by false e = absurd (let yes = (bytes_eq-Decides name name).1 refl in cc)

pub elsewhere : (name other : List ℕ) (slot : Slot) (names : ShelfView) → other ≢ name → with_slot name slot names other ≡ names other
elsewhere name other slot names differ = by (bytes_eq other name) refl
  where
    by : (b : Bool) → bytes_eq other name ≡ b → with_slot name slot names other ≡ names other
    by true e = absurd (differ ((bytes_eq-Decides other name).0 e))
    by false e = rw e

-- ---- one slot

-- a device that was lent, and stood out until it was put back
pub back_last : (before now new last : Slot) (d : DiskView) → IsLent before now d → IsBack now new → Closes d new last → IsBack before last
back_last Untold now new last d lent back closes =
    let untold : new ≡ Untold = subst (λ (s : Slot). IsBack s new) lent back in
    subst (λ (s : Slot). Closes d s last) untold closes
back_last (Stands stood) now new last d lent back closes =
    let out : new ≡ Out = subst (λ (s : Slot). IsBack s new) lent.0 back in
    (d, subst (λ (s : Slot). Closes d s last) out closes, lent.1)
back_last Absent now new last d lent back closes = absurd lent
back_last Out now new last d lent back closes = absurd lent

module _ {D : Type 0} (view : D → DiskView) (before mid now : ShelfView) (super : Super) (home : DiskView) (areas : List (AreaView D)) (refused : Option D)
    (stay : OthersStay home_name before mid) (lent : IsLent (before home_name) (mid home_name) home) (stops : StopsOpening view mid now super areas refused) where
  abbrev pub name : List ℕ
  name = journal_name (length areas)

  -- the journals' names told apart, and from home's
  others_differ : (core : ℕ) → core < 8 → core ≢ length areas → journal_name core ≢ name
  others_differ core small differ = journals_differ core (length areas) small stops.few differ

  -- what stood under the refused journal's name
  here : stops.mid name ≡ before name
  here = next_slot view mid stops.mid super (length areas) areas stops.few stops.opened ∙ stay name (home_differs (length areas))

  -- but for the journal that was refused, the devices of the others are out
  pub out_but_one : IsOut view (with_slot name (now name) before) now home areas
  out_but_one =
      let out = all_out before mid stay view stops.mid home super (length areas) areas lent stops.opened in
      record {
        home_lent = rw (elsewhere name home_name (now name) before (λ e. home_differs (length areas) (sym e)), stops.others home_name (λ e. home_differs (length areas) (sym e))) out.home_lent;
        journals = λ core small.
            elim (cases_eq core (length areas)) [
              | inl e ↦
                  let none : slice_get areas core ≡ None = slice_get_past areas core (omega (arith, e)) in
                  let same : IsBack (with_slot name (now name) before name) (now name) = subst (λ (s : Slot). IsBack s (now name)) (sym (there name (now name) before)) (back_refl (now name)) in
                  rw none (subst (λ (k : ℕ). IsBack (with_slot name (now name) before (journal_name k)) (now (journal_name k))) (sym e) same)
              | inr differ ↦ rw (elsewhere name (journal_name core) (now name) before (others_differ core small differ), stops.others (journal_name core) (others_differ core small differ)) (out.journals core small)
            ];
        others = λ other not_home none.
            let differ = none (length areas) stops.few in
            stops.others other differ ∙ out.others other not_home none ∙ sym (elsewhere name other (now name) before differ);
      }

  -- what is back but for that one
  back_elsewhere : (new last : ShelfView) → AllBack (with_slot name (now name) before) new → OthersStay name new last → IsBack (before name) (last name) → AllBack before last
  back_elsewhere new last back stays one = record {
    home = rw (stays home_name (λ e. home_differs (length areas) (sym e)), ← elsewhere name home_name (now name) before (λ e. home_differs (length areas) (sym e))) back.home;
    journals = λ core small.
        elim (cases_eq core (length areas)) [
          | inl e ↦ subst (λ (k : ℕ). IsBack (before (journal_name k)) (last (journal_name k))) (sym e) one
          | inr differ ↦ rw (stays (journal_name core) (others_differ core small differ), ← elsewhere name (journal_name core) (now name) before (others_differ core small differ)) (back.journals core small)
        ];
    others = λ other not_home none.
        let differ = none (length areas) stops.few in
        stays other differ ∙ back.others other not_home none ∙ elsewhere name other (now name) before differ;
  }

  -- the refused journal's slot since
  back_there : (new : ShelfView) → AllBack (with_slot name (now name) before) new → IsBack (now name) (new name)
  back_there new back = subst (λ (s : Slot). IsBack s (new name)) (there name (now name) before) (back.journals (length areas) stops.few)

  -- none is out
  pub none_out : refused ≡ None → (new : ShelfView) → AllBack (with_slot name (now name) before) new → AllBack before new
  none_out none new back = back_elsewhere new new back (λ other differ. refl)
      (let kept : now name ≡ stops.mid name = rw none at stops.next in subst (λ (s : Slot). IsBack s (new name)) (kept ∙ here) (back_there new back))

  -- that one was put back last
  pub one_back : (d : D) → refused ≡ Some d → (new last : ShelfView) → AllBack (with_slot name (now name) before) new → Closes (view d) (new name) (last name) → OthersStay name new last → AllBack before last
  one_back d some new last back closes others = back_elsewhere new last back others
      (let out : IsLent (stops.mid name) (now name) (view d) = rw some at stops.next in
      back_last (before name) (now name) (new name) (last name) (view d) (subst (λ (s : Slot). IsLent s (now name) (view d)) here out) (back_there new back) closes)
