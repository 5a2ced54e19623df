-- The journals of an image that was opened and mounted are what a service starts with.
use Rattle.std.proofs.Common.{◌≡◌, ⊎_elim, ℕ, zero, suc, ◌<◌, true≢false, List, [], ◌∷◌, length, Option, Some, None, IfSome, IsSomeAnd, slice_get, refl, sym, ap, ◌∙◌, subst, arith}
use Rattle.std.proofs.lemmas.Option.{slice_get_within}
use Rattle.zj_block.specs.Sizes.{Numbers}
use Rattle.zj_block.specs.declared.numbers.Tail.{Tail}
use Rattle.zj_area.specs.Cause.{IsKnown}
use Rattle.zj_area.specs.Journal.{AreaView, IsAtRest, journal_of, opened as just_opened}
use Rattle.zj_dev.specs.Disk.{DiskView}
use Rattle.zj_home.specs.Super.{Super}
use Rattle.zj_layout.specs.Shows.{Shows, ShowsSome}
use Rattle.zj_layout.proofs.Follow.{some_is}
use Rattle.zj_mount.specs.Opening.{AllOpened, IsOpened}
use Rattle.zj_mount.specs.Recovered.{Restored}
use Rattle.zj_mount.specs.Scanning.{AreReady, IsNowReady}
use Rattle.zj_core.specs.Core.{IsReadyToCommit}
use Rattle.zj_session.specs.Playing.{AreJournals}
use Rattle.zj_session.specs.Starting.{RestWithNone}
use Rattle.zj_session.proofs.Roots.{there_or_not}

module _ {X : Type 0} where
  if_some : (P : X → Type 0) (o : Option X) (x : X) → o ≡ Some x → IfSome o P → P x
  if_some P o x is all = subst (λ p. IfSome p P) is all

  inside : (xs : List X) (i : ℕ) → i < length xs → (x : X) × (slice_get xs i ≡ Some x)
  inside [] i low = absurd (omega arith)
  inside (x ∷ xs) zero low = (x, refl)
  inside (x ∷ xs) (suc i) low = inside xs i (omega arith)

  some_and : (P : X → Type 0) (o : Option X) → IsSomeAnd o P → (x : X) × (o ≡ Some x) × P x
  some_and P None all = absurd all
  some_and P (Some x) all = (x, refl, all)

-- one journal, which was opened, and then read
module _ {D : Type 0} (super : Super) (core : ℕ) (tail : Tail) (old new : AreaView D) (opened_as : old ≡ just_opened old.device super.sizes core tail) (now : IsNowReady old new) where
  is_own : (new.core ≡ core) × (new.sizes ≡ super.sizes) × IsReadyToCommit new
  is_own = (
    ap (λ (a : AreaView D). a.core) now ∙ ap (λ (a : AreaView D). a.core) opened_as,
    ap (λ (a : AreaView D). a.sizes) now ∙ ap (λ (a : AreaView D). a.sizes) opened_as,
    record {
      ready = ap (λ (a : AreaView D). a.ready) now;
      sound = ap (λ (a : AreaView D). a.failed) now ∙ ap (λ (a : AreaView D). a.failed) opened_as;
      empty = ap (λ (a : AreaView D). a.laid) now ∙ ap (λ (a : AreaView D). a.laid) opened_as;
    },
  )

pub mounted_journals : {D : Type 0} (super : Super) (old new : List (AreaView D)) → length super.tails ≡ super.sizes.cores → AllOpened super old → length new ≡ length old → AreReady old new (length old) → AreJournals super.sizes new
mounted_journals {D} super old new tails opened_all long ready core = ⊎_elim
    (λ none. subst (λ o. IfSome o P) (sym none) tt)
    (λ (r : (b : AreaView D) × (slice_get new core ≡ Some b)). subst (λ o. IfSome o P) (sym r.1) (here r.0 r.1))
    (there_or_not (slice_get new core))
  where
    P : AreaView D → Type 0
    P area = (area.core ≡ core) × (area.sizes ≡ super.sizes) × IsReadyToCommit area

    here : (b : AreaView D) → slice_get new core ≡ Some b → P b
    here b at =
        let within = slice_get_within new core b at in
        let low : core < length old = omega arith in
        let few = opened_all.few in
        let a = some_and (λ (x : AreaView D). IsSomeAnd (slice_get new core) (IsNowReady x)) (slice_get old core) (ready core low) in
        let c = some_and (IsNowReady a.0) (slice_get new core) a.2 in
        let now : IsNowReady a.0 b = subst (IsNowReady a.0) (some_is (sym c.1 ∙ at)) c.2 in
        let tail = inside super.tails core (let many = opened_all.many in omega arith) in
        let opened_as = if_some (λ (t : Tail). a.0 ≡ just_opened a.0.device super.sizes core t) (slice_get super.tails core) tail.0 tail.1 (if_some (IsOpened super core) (slice_get old core) a.0 a.1 (opened_all.opened core (omega arith))) in
        is_own super core tail.0 a.0 b opened_as now

-- Where journals of which the end was not known rest with no record once they were read, those that were just opened do.
pub mounted_rest : {D : Type 0} (view : D → DiskView) (super : Super) (old new : List (AreaView D)) → length super.tails ≡ super.sizes.cores → AllOpened super old → length new ≡ length old
    → ((core : ℕ) (a b : AreaView D) → slice_get old core ≡ Some a → slice_get new core ≡ Some b → (IsKnown (journal_of view a) → ⊥) → IsAtRest (journal_of view b) [] × (b.end ≡ b.tail)) → RestWithNone view new
mounted_rest {D} view super old new tails opened_all long rest core b at =
    let within = slice_get_within new core b at in
    let few = opened_all.few in
    let many = opened_all.many in
    let a = inside old core (omega arith) in
    let tail = inside super.tails core (omega arith) in
    let opened_as = if_some (λ (t : Tail). a.0 ≡ just_opened a.0.device super.sizes core t) (slice_get super.tails core) tail.0 tail.1 (if_some (IsOpened super core) (slice_get old core) a.0 a.1 (opened_all.opened core (omega arith))) in
    rest core a.0 b a.1 at (λ known. true≢false (sym known.0 ∙ ap (λ (x : AreaView D). x.ready) opened_as))

pub mounted_shows : (r : Restored) (sizes : Numbers) → r.sizes ≡ sizes → Shows sizes r.blocks r.tree.tree → ShowsSome r.sizes r.blocks
mounted_shows r sizes same shows = (r.tree.tree, subst (λ (n : Numbers). Shows n r.blocks r.tree.tree) (sym same) shows)
