-- Journals that were opened and mounted are ready to commit.
use Rattle.std.proofs.Common.{◌≡◌, ◌∙◌, ℕ, ◌<◌, List, length, refl, sym, ap, subst, arith}
use Rattle.std.specs.Prelude.{Option, Some, None, IfSome, IsSome, IsSomeAnd, slice_get}
use Rattle.std.specs.Option.{option_map}
use Rattle.std.proofs.lemmas.Option.{slice_get_within}
use Rattle.zj_block.specs.Sizes.{Numbers}
use Rattle.zj_block.specs.declared.numbers.Tail.{Tail}
use Rattle.zj_home.specs.Super.{Super}
use Rattle.zj_area.specs.Journal.{AreaView, opened as just_opened}
use Rattle.zj_mount.specs.declared.recovered.Tally.{Tally}
use Rattle.zj_mount.specs.Recovered.{empty_from}
use Rattle.zj_mount.specs.Opening.{AllOpened}
use Rattle.zj_mount.specs.Scanning.{AreReady, IsNowReady}
use Rattle.zj_core.specs.Core.{IsReadyToCommit}
use Rattle.zj_session.specs.Playing.{AreJournals}
use Rattle.zj_cli.proofs.SpellLemmas.{none_there}

-- a core that a mount tells of has a tail
tail_there : (super : Super) (told : List Tally) (core : ℕ) → core < length told → (tail : Option Tail) → slice_get told core ≡ option_map empty_from tail → IsSome tail
tail_there super told core below None e = absurd (none_there told core below e)
tail_there super told core below (Some tail) e = refl

pub journals_ready : {D : Type 0} (super : Super) (sizes : Numbers) (old new : List (AreaView D)) (told : List Tally) → sizes ≡ super.sizes → AllOpened super old → length new ≡ length old → AreReady old new (length old)
    → length told ≡ super.sizes.cores → ((core : ℕ) → core < super.sizes.cores → slice_get told core ≡ option_map empty_from (slice_get super.tails core)) → AreJournals sizes new
journals_ready {D = D} super sizes old new told same opened many ready count told_is core = at (slice_get new core) refl
  where
    was : (b : AreaView D) (o : Option (AreaView D)) (t : Option Tail) → IsSomeAnd o (λ a. IsNowReady a b) → IfSome o (λ a. IfSome t (λ tail. a ≡ just_opened a.device super.sizes core tail)) → IsSome t → (b.core ≡ core) × (b.sizes ≡ sizes) × IsReadyToCommit b
    was b None t now first some = absurd now
    was b (Some a) None now first some = cc
    was b (Some a) (Some tail) now first some = (
      ap (λ (x : AreaView D). x.core) now ∙ ap (λ (x : AreaView D). x.core) first,
      ap (λ (x : AreaView D). x.sizes) now ∙ ap (λ (x : AreaView D). x.sizes) first ∙ sym same,
      record {
        ready = ap (λ (x : AreaView D). x.ready) now;
        sound = ap (λ (x : AreaView D). x.failed) now ∙ ap (λ (x : AreaView D). x.failed) first;
        empty = ap (λ (x : AreaView D). x.laid) now ∙ ap (λ (x : AreaView D). x.laid) first;
      },
    )

    at : (o : Option (AreaView D)) → slice_get new core ≡ o → IfSome o (λ area. (area.core ≡ core) × (area.sizes ≡ sizes) × IsReadyToCommit area)
    at None e = tt
    at (Some b) e =
        let below : core < length old = omega (arith, slice_get_within new core b e, many) in
        let fits : core < super.sizes.cores = omega (arith, below, opened.many) in
        let counted : core < length told = omega (arith, fits, count) in
        let few : core < 8 = omega (arith, below, opened.few) in
        was b (slice_get old core) (slice_get super.tails core) (subst (λ (o : Option (AreaView D)). IsSomeAnd (slice_get old core) (λ a. IsSomeAnd o (IsNowReady a))) e (ready core below)) (opened.opened core few)
        (tail_there super told core counted (slice_get super.tails core) (told_is core fits))
