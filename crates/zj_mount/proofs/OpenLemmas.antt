-- One journal after the other is taken out.
use Rattle.std.proofs.Common.{◌≡◌, ℕ, zero, suc, ◌+◌, ◌<◌, ◌≤◌, List, [], ◌∷◌, ◌++◌, length, refl, sym, ap, subst, ◌∙◌, arith, inl, inr}
use Rattle.std.specs.Prelude.{Option, Some, None, MatchOption, slice_get}
use Rattle.std.proofs.lemmas.Bool.{cases_eq, cases_lt}
use Rattle.std.proofs.lemmas.Option.{slice_get_past}
use Rattle.std.proofs.lemmas.List.{length_push}
use Rattle.zj_dev.specs.Disk.{DiskView}
use Rattle.zj_dev.specs.Shelf.{ShelfView, OthersStay, Slot}
use Rattle.zj_area.specs.Journal.{AreaView}
use Rattle.zj_home.specs.Super.{Super}
use Rattle.zj_mount.specs.declared.fault.OpenFault.{OpenFault}
use Rattle.zj_mount.specs.declared.fault.OpenFault.TheVariants as faults
use Rattle.zj_mount.specs.Image.{OfLength}
use Rattle.zj_mount.specs.Opening.{AreOpened, IsJournalCause, IsOpened, StopsOpening}
use Rattle.zj_mount.specs.Set.{IsLent, journal_name}
use Rattle.zj_dev.proofs.DiskLaws.{rose_since}
use Rattle.zj_mount.proofs.SetLemmas.{journals_differ}

-- ---- an element more

pub push_before : {X : Type 0} (xs : List X) (x : X) (i : ℕ) → i < length xs → slice_get (xs ++ x ∷ []) i ≡ slice_get xs i
push_before [] x i below = absurd (omega arith)
push_before (y ∷ ys) x zero below = refl
push_before (y ∷ ys) x (suc i) below = push_before ys x i (omega arith)

pub push_at : {X : Type 0} (xs : List X) (x : X) → slice_get (xs ++ x ∷ []) (length xs) ≡ Some x
push_at [] x = refl
push_at (y ∷ ys) x = push_at ys x

push_past : {X : Type 0} (xs : List X) (x : X) (i : ℕ) → length xs < i → slice_get (xs ++ x ∷ []) i ≡ None
push_past xs x i past = slice_get_past (xs ++ x ∷ []) i (omega (arith, length_push xs x))

-- what holds of a place, another way
pub match_option : {X : Type 0} {P R : Type 0} {Q S : X → Type 0} (o : Option X) → (o ≡ None → P → R) → ((x : X) → o ≡ Some x → Q x → S x) → MatchOption o P Q → MatchOption o R S
match_option None none some h = none refl h
match_option (Some x) none some h = some x refl h

module _ {D : Type 0} (view : D → DiskView) (before : ShelfView) (super : Super) where
  -- none yet
  pub opened_none : AreOpened view before before super 0 []
  opened_none = record { many = refl; lengths = λ core below. absurd (omega arith); journals = λ core small. refl; others = λ name none. refl }

  -- one more
  pub opened_more : (now new : ShelfView) (count : ℕ) (areas : List (AreaView D)) (area : AreaView D) → count < 8 → AreOpened view before now super count areas → OthersStay (journal_name count) now new
      → IsLent (now (journal_name count)) (new (journal_name count)) (view area.device) → IsOpened super count area → OfLength (now (journal_name count)) (λ len. len ≡ super.sizes.area)
      → AreOpened view before new super (count + 1) (areas ++ area ∷ [])
  opened_more now new count areas area small so_far stay lent opened long =
      let here : now (journal_name count) ≡ before (journal_name count) = rw (slice_get_past areas count (omega (arith, so_far.many))) at (so_far.journals count small) in
      record {
        many = omega (arith, length_push areas area, so_far.many);
        lengths = λ core below.
            elim (cases_eq core count) [
              | inl e ↦ subst (λ (k : ℕ). OfLength (before (journal_name k)) (λ len. len ≡ super.sizes.area)) (sym e) (subst (λ (s : Slot). OfLength s (λ len. len ≡ super.sizes.area)) here long)
              | inr other ↦ so_far.lengths core (omega arith)
            ];
        journals = λ core fits. at_core core fits here;
        others = λ name none. stay name (none count small) ∙ so_far.others name none;
      }
    where
      at_core : (core : ℕ) → core < 8 → now (journal_name count) ≡ before (journal_name count) → MatchOption (slice_get (areas ++ area ∷ []) core) (new (journal_name core) ≡ before (journal_name core))
          (λ a. IsLent (before (journal_name core)) (new (journal_name core)) (view a.device) × IsOpened super core a)
      at_core core fits here =
          elim (cases_eq core count) [
            | inl e ↦
                let at : slice_get (areas ++ area ∷ []) count ≡ Some area = ap (slice_get (areas ++ area ∷ [])) (sym so_far.many) ∙ push_at areas area in
                let there : MatchOption (slice_get (areas ++ area ∷ []) count) (new (journal_name count) ≡ before (journal_name count)) (λ a. IsLent (before (journal_name count)) (new (journal_name count)) (view a.device) × IsOpened super count a) =
                rw at (subst (λ (s : Slot). IsLent s (new (journal_name count)) (view area.device)) here lent, opened) in
                subst (λ (k : ℕ). MatchOption (slice_get (areas ++ area ∷ []) k) (new (journal_name k) ≡ before (journal_name k)) (λ a. IsLent (before (journal_name k)) (new (journal_name k)) (view a.device) × IsOpened super k a)) (sym e) there
            | inr other ↦
                let same : new (journal_name core) ≡ now (journal_name core) = stay (journal_name core) (journals_differ core count fits small other) in
                let was : MatchOption (slice_get areas core) (new (journal_name core) ≡ before (journal_name core)) (λ a. IsLent (before (journal_name core)) (new (journal_name core)) (view a.device) × IsOpened super core a) =
                subst (λ (s : Slot). MatchOption (slice_get areas core) (s ≡ before (journal_name core)) (λ a. IsLent (before (journal_name core)) s (view a.device) × IsOpened super core a)) (sym same) (so_far.journals core fits) in
                elim (cases_lt core (length areas)) [
                  | inl below ↦ rw (push_before areas area core below) was
                  | inr past ↦
                      let none : slice_get areas core ≡ None = slice_get_past areas core past in
                      let was_none = rw none at was in
                      rw (push_past areas area core (omega (arith, so_far.many))) was_none
                ]
          ]

  -- the next one was refused
  pub stops : (now new : ShelfView) (count : ℕ) (areas : List (AreaView D)) (refused : Option D) → count < 8 → AreOpened view before now super count areas → OthersStay (journal_name count) now new
      → MatchOption refused (new (journal_name count) ≡ now (journal_name count)) (λ d. IsLent (now (journal_name count)) (new (journal_name count)) (view d)) → StopsOpening view before new super areas refused
  stops now new count areas refused small so_far stay next =
      let many = so_far.many in
      record {
        mid = now;
        few = omega (arith, many);
        opened = subst (λ (k : ℕ). AreOpened view before now super k areas) (sym many) so_far;
        others = subst (λ (k : ℕ). OthersStay (journal_name k) now new) (sym many) stay;
        next = subst (λ (k : ℕ). MatchOption refused (new (journal_name k) ≡ now (journal_name k)) (λ d. IsLent (now (journal_name k)) (new (journal_name k)) (view d))) (sym many) next;
      }

-- a fault since an earlier count
pub journal_cause_since : (slot : Slot) (old mid new : ℕ) (super : Super) (core : ℕ) (fault : OpenFault) → old ≤ mid → IsJournalCause slot mid new super core fault → IsJournalCause slot old new super core fault
journal_cause_since slot old mid new super core (faults.Absent device) le cause = cause
journal_cause_since slot old mid new super core (faults.Sizes device found expected) le cause = cause
journal_cause_since slot old mid new super core (faults.NotAnImage at) le cause = cause
journal_cause_since slot old mid new super core (faults.Version found) le cause = cause
journal_cause_since slot old mid new super core (faults.DiskFault device) le cause = cause
journal_cause_since slot old mid new super core (faults.ShelfFault device) le cause = (cause.0, rose_since old mid new le cause.1)
journal_cause_since slot old mid new super core faults.NoMemory le cause = cause

-- what stands under the name that is next
pub next_slot : {D : Type 0} (view : D → DiskView) (before now : ShelfView) (super : Super) (count : ℕ) (areas : List (AreaView D)) → count < 8 → AreOpened view before now super count areas → now (journal_name count) ≡ before (journal_name count)
next_slot view before now super count areas small so_far = rw (slice_get_past areas count (omega (arith, so_far.many))) at (so_far.journals count small)
