-- Journals that are there still, each with its device gone on.
use Rattle.std.proofs.Common.{◌≡◌, ℕ, zero, suc, List, [], ◌∷◌, Option, Some, None, MatchOption, IsSomeAnd, option_map, slice_get, slice_set, refl, sym, ap, ◌∙◌, subst}
use Rattle.std.proofs.lemmas.Option.{slice_get-map}
use Rattle.zj_dev.specs.Disk.{Continues, DiskView}
use Rattle.zj_dev.proofs.DiskLaws.{continues_refl, continues_trans}
use Rattle.zj_area.specs.Journal.{AreaView}
use Rattle.zj_layout.proofs.Follow.{none_some, some_is}
use Rattle.zj_core.specs.Core.{CoreState}
use Rattle.zj_session.specs.Answering.{area_onward}
use Rattle.zj_session.specs.Playing.{JournalsGoOn, journals_of}

module _ {D : Type 0} (view : D → DiskView) where
  -- one journal
  abbrev pub GoesOnAs : AreaView D → AreaView D → Type 0
  GoesOnAs a b = (b ≡ area_onward a b) × Continues (view a.device) (view b.device)

  pub journal_same : (a : AreaView D) → GoesOnAs a a
  journal_same a = (refl, continues_refl (view a.device))

  pub journal_then : (a b c : AreaView D) → GoesOnAs a b → GoesOnAs b c → GoesOnAs a c
  journal_then a b c one two = (two.0 ∙ ap (λ x. area_onward x c) one.0, continues_trans (view a.device) (view b.device) (view c.device) one.1 two.1)

  -- all of them
  pub go_on_same : (journals : List (AreaView D)) → JournalsGoOn view journals journals
  go_on_same journals i = by (slice_get journals i)
    where
      by : (o : Option (AreaView D)) → MatchOption o (o ≡ None) (λ a. IsSomeAnd o (GoesOnAs a))
      by None = refl
      by (Some a) = journal_same a

  pub go_on_then : (first then last : List (AreaView D)) → JournalsGoOn view first then → JournalsGoOn view then last → JournalsGoOn view first last
  go_on_then first then last one two i = by (slice_get first i) (slice_get then i) (slice_get last i) (one i) (two i)
    where
      by : (a b c : Option (AreaView D)) → MatchOption a (b ≡ None) (λ x. IsSomeAnd b (GoesOnAs x)) → MatchOption b (c ≡ None) (λ x. IsSomeAnd c (GoesOnAs x)) → MatchOption a (c ≡ None) (λ x. IsSomeAnd c (GoesOnAs x))
      by None None c one two = two
      by None (Some b) c one two = absurd (none_some (sym one))
      by (Some a) None c one two = absurd one
      by (Some a) (Some b) None one two = absurd two
      by (Some a) (Some b) (Some c) one two = journal_then a b c one two

  -- the one at a place went on
  pub go_on_set : (old : List (CoreState D)) (at : ℕ) (core new : CoreState D) → slice_get old at ≡ Some core → GoesOnAs core.area new.area → JournalsGoOn view (journals_of old) (journals_of (slice_set old at new))
  go_on_set [] at core new there on i = refl
  go_on_set (c ∷ cores) zero core new there on zero = subst (λ (x : CoreState D). GoesOnAs x.area new.area) (sym (some_is there)) on
  go_on_set (c ∷ cores) zero core new there on (suc i) = go_on_same (journals_of cores) i
  go_on_set (c ∷ cores) (suc at) core new there on zero = journal_same c.area
  go_on_set (c ∷ cores) (suc at) core new there on (suc i) = go_on_set cores at core new there on i

  -- the journal of the core at a place, then and now
  pub journal_at : (old new : List (CoreState D)) (i : ℕ) (a b : CoreState D) → JournalsGoOn view (journals_of old) (journals_of new) → slice_get old i ≡ Some a → slice_get new i ≡ Some b → GoesOnAs a.area b.area
  journal_at old new i a b goes there here =
      let was = slice_get-map (λ (c : CoreState D). c.area) old i ∙ ap (option_map (λ (c : CoreState D). c.area)) there in
      let is = slice_get-map (λ (c : CoreState D). c.area) new i ∙ ap (option_map (λ (c : CoreState D). c.area)) here in
      subst (λ (x : Option (AreaView D) × Option (AreaView D)). MatchOption x.0 (x.1 ≡ None) (λ p. IsSomeAnd x.1 (GoesOnAs p))) (λ j. (was j, is j)) (goes i)

  -- a core is there still
  pub core_then : (old new : List (CoreState D)) → JournalsGoOn view (journals_of old) (journals_of new) → (i : ℕ) (a : CoreState D) → slice_get old i ≡ Some a → (c : CoreState D) × (slice_get new i ≡ Some c)
  core_then old new goes i a there = by (slice_get new i) refl
    where
      was : slice_get (journals_of old) i ≡ Some a.area
      was = slice_get-map (λ (c : CoreState D). c.area) old i ∙ ap (option_map (λ (c : CoreState D). c.area)) there

      by : (o : Option (CoreState D)) → slice_get new i ≡ o → (c : CoreState D) × (slice_get new i ≡ Some c)
      by None is = absurd (subst (λ (x : Option (AreaView D) × Option (AreaView D)). MatchOption x.0 (x.1 ≡ None) (λ p. IsSomeAnd x.1 (GoesOnAs p)))
          (λ j. (was j, (slice_get-map (λ (c : CoreState D). c.area) new i ∙ ap (option_map (λ (c : CoreState D). c.area)) is) j)) (goes i))
      by (Some c) is = (c, is)
