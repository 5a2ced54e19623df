-- All cores once a line was answered on one of them.
use Rattle.std.proofs.Common.{◌≡◌, ◌⊎◌, inl, inr, ℕ, ◌+◌, List, [], ◌∷◌, ◌++◌, length, drop, set, refl, sym, ap, ◌∙◌, subst, Some, None, Result, Ok, Err, IfOk, OnErr, slice_get, slice_set}
use Rattle.std.proofs.Math.Seq.{drop-append-add, set-append_seam, take-append_seam}
use Rattle.zj_area.specs.Journal.{AreaView}
use Rattle.zj_dev.specs.Disk.{DiskView}
use Rattle.zj_script.specs.declared.line.Act.{Act}
use Rattle.zj_script.specs.declared.answer.Form.{Form}
use Rattle.zj_turns.specs.Views.{Has, Known}
use Rattle.zj_turns.specs.Passes.{CacheParameters, PassState, mine, now_knowing}
use Rattle.zj_core.specs.Core.{CoreState, IsSteady}
use Rattle.zj_core.specs.Steps.{emptied}
use Rattle.zj_core.proofs.Knowing.{knowing_same, mine_now}
use Rattle.zj_session.specs.Answering.{DeviceGoesOn, Does, IsAnswered, IsLeftOff, OnlyOwn, others_than, without_handle}
use Rattle.zj_session.specs.Gathering.{gathered, passes_of}
use Rattle.zj_session.specs.Playing.{JournalsGoOn, journals_of}
use Rattle.zj_session.specs.Service.{AreTogether}
use Rattle.zj_session.proofs.Devices.{GoesOnAs, go_on_set}

-- the cores around one
pub split_is : {D : Type 0} (old front rest back : List (CoreState D)) (core : CoreState D) → old ≡ front ++ rest → rest ≡ core ∷ back → old ≡ front ++ core ∷ back
split_is {D} old front rest back core value cases = value ∙ ap (λ (l : List (CoreState D)). front ++ l) cases

pub together_at : {D : Type 0} (cache : CacheParameters) (old front rest back : List (CoreState D)) (core : CoreState D) → old ≡ front ++ rest → rest ≡ core ∷ back → AreTogether cache old → AreTogether cache (front ++ core ∷ back)
together_at cache old front rest back core value cases together = subst (AreTogether cache) (split_is old front rest back core value cases) together

-- the core at its place
pub seam_get : {D : Type 0} (front back : List (CoreState D)) (core : CoreState D) (at : ℕ) → length front ≡ at → slice_get (front ++ core ∷ back) at ≡ Some core
seam_get {D} front back core at count = ap (slice_get (front ++ core ∷ back)) (sym count) ∙ by front
  where
    by : (xs : List (CoreState D)) → slice_get (xs ++ core ∷ back) (length xs) ≡ Some core
    by [] = refl
    by (x ∷ xs) = by xs

pub place_get : {D : Type 0} (old front rest back : List (CoreState D)) (core : CoreState D) (at : ℕ) → old ≡ front ++ rest → rest ≡ core ∷ back → length front ≡ at → slice_get old at ≡ Some core
place_get {D} old front rest back core at value cases count = ap (λ (l : List (CoreState D)). slice_get l at) (split_is old front rest back core value cases) ∙ seam_get front back core at count

pub steady_at : {D : Type 0} (front front₂ back : List (CoreState D)) (core found : CoreState D) (at : ℕ) → front₂ ≡ front → length front ≡ at → IsSteady core → slice_get (front₂ ++ core ∷ back) at ≡ Some found → IsSteady found
steady_at {D} front front₂ back core found at same count steady here =
    let both : Some core ≡ Some found = sym (seam_get front₂ back core at (ap length same ∙ count)) ∙ here in
    let is : core ≡ found = cc in
    subst IsSteady is steady

-- what holds of an answer, and where there was no memory
pub if_ok : {F E : Type 0} (P Q : F → Type 0) (r : Result F E) → ((x : F) → P x → Q x) → IfOk r P → IfOk r Q
if_ok P Q (Ok x) step holds = step x holds
if_ok P Q (Err e) step holds = tt

pub on_err : {F E : Type 0} (A B : Type 0) (r : Result F E) → (A → B) → OnErr r A → OnErr r B
on_err A B (Ok x) step holds = tt
on_err A B (Err e) step holds = step holds

module _ {D : Type 0} (cache : CacheParameters) (old front back : List (CoreState D)) (core : CoreState D) (at : ℕ) (split : old ≡ front ++ core ∷ back) (count : length front ≡ at) where
  others_is : others_than at old ≡ front ++ back
  others_is =
      ap (others_than at) split
      ∙ ap (λ (n : ℕ). others_than n (front ++ core ∷ back)) (sym count)
      ∙ ap (λ (l : List (CoreState D)). l ++ drop (length front + 1) (front ++ core ∷ back)) (take-append_seam front (core ∷ back))
      ∙ ap (λ (l : List (CoreState D)). front ++ l) (drop-append-add front (core ∷ back) 1)

  placed : (y : CoreState D) → front ++ y ∷ back ≡ slice_set old at y
  placed y = sym (ap (λ (l : List (CoreState D)). set l at y) split ∙ ap (λ (n : ℕ). set (front ++ core ∷ back) n y) (sym count) ∙ set-append_seam front core back y)

  module _ (core₂ core₃ core₅ : CoreState D) (front₂ back₂ : List (CoreState D)) (met : core₂ ≡ record core { pass = gathered core.pass (passes_of (front ++ back)) })
      (parted : core₅ ≡ record core₃ { pass = now_knowing core.pass (mine core₃.pass) }) (front_is : front₂ ≡ front) (back_is : back₂ ≡ back) where
    back_in : (y : CoreState D) → core₅ ≡ y → front₂ ++ core₅ ∷ back₂ ≡ front ++ y ∷ back
    back_in y is = λ i. front_is i ++ is i ∷ back_is i

    -- the line is answered
    pub answered : (view : D → DiskView) (act : Act) (form : Form) → Does view cache core₂ core₃ core₂.begun act form → IsAnswered view cache old (front₂ ++ core₅ ∷ back₂) at act form
    answered view act form does = record {
      core = core;
      at_place = ap (λ (l : List (CoreState D)). slice_get l at) split ∙ seam_get front back core at count;
      after = core₃;
      does = subst (λ (c : CoreState D). Does view cache c core₃ c.begun act form) (met ∙ ap (λ (l : List (CoreState D)). record core { pass = gathered core.pass (passes_of l) }) (sym others_is)) does;
      cores = back_in (record core₃ { pass = now_knowing core.pass (mine core₃.pass) }) parted ∙ placed (record core₃ { pass = now_knowing core.pass (mine core₃.pass) });
    }

    -- each journal goes on
    pub journals_on : (view : D → DiskView) → OnlyOwn core₂ core₃ → DeviceGoesOn view core₂ core₃ → JournalsGoOn view (journals_of old) (journals_of (front₂ ++ core₅ ∷ back₂))
    journals_on view only device =
        subst (λ (l : List (CoreState D)). JournalsGoOn view (journals_of old) (journals_of l)) (sym (back_in core₅ refl ∙ placed core₅))
        (go_on_set view old at core core₅ (ap (λ (l : List (CoreState D)). slice_get l at) split ∙ seam_get front back core at count)
        (subst (λ (x : AreaView D × AreaView D). GoesOnAs view x.0 x.1) (λ i. ((met i).area, (sym parted i).area)) (ap (λ (c : CoreState D). c.area) only, device)))

    -- or there was no memory for it
    pub left_off : Has core.pass.view core.pass.core → mine core₂.pass ≡ mine core.pass → (core₃ ≡ core₂) ⊎ (core₃ ≡ without_handle core₂) → IsLeftOff old (front₂ ++ core₅ ∷ back₂) at
    left_off has own (inl same) = inl (back_in core is ∙ sym split)
      where
        is : core₅ ≡ core
        is = parted ∙ ap (λ (c : CoreState D). record c { pass = now_knowing core.pass (mine c.pass) }) same
            ∙ ap (λ (c : CoreState D). record c { pass = now_knowing core.pass (mine core₂.pass) }) met
            ∙ ap (λ (k : Known). record core { pass = now_knowing core.pass k }) own
            ∙ ap (λ (p : PassState). record core { pass = p }) (knowing_same core.pass has)
    left_off has own (inr dropped) = inr (core, ap (λ (l : List (CoreState D)). slice_get l at) split ∙ seam_get front back core at count, back_in (without_handle core) is ∙ placed (without_handle core))
      where
        is : core₅ ≡ without_handle core
        is = parted ∙ ap (λ (c : CoreState D). record c { pass = now_knowing core.pass (mine c.pass) }) dropped
            ∙ ap (λ (k : Known). record core₂ { pass = now_knowing core.pass k; begun = None }) (mine_now core₂.pass (emptied (mine core₂.pass)))
            ∙ ap (λ (c : CoreState D). record c { pass = now_knowing core.pass (emptied (mine core₂.pass)); begun = None }) met
            ∙ ap (λ (k : Known). record core { pass = now_knowing core.pass (emptied k); begun = None }) own
