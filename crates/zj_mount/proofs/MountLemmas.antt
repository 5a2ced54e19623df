-- The blocks of home as they are read, and the image that they are part of.
use Rattle.std.proofs.Common.{◌≡◌, inl, inr, ℕ, ◌+◌, ◌<◌, List, [], ◌∷◌, ◌++◌, length, set, get_or, Option, Some, None, refl, sym, ap, subst, ◌∙◌, arith}
use Rattle.std.specs.Prelude.{◌⊎◌, IfErr, IfSome, IsSomeAnd, OnOk, Result, Ok, Err, slice_get}
use Rattle.std.proofs.lemmas.Bool.{cases_eq}
use Rattle.std.proofs.lemmas.Option.{slice_get_within}
use Rattle.std.specs.Option.{option_map}
use Rattle.std.proofs.lemmas.List.{get_or-set_same, get_or-set_other}
use Rattle.zj_block.specs.Block.{bytes_of, zero_content}
use Rattle.zj_block.specs.Sizes.{Numbers}
use Rattle.zj_dev.specs.Disk.{DiskView}
use Rattle.zj_dev.specs.Fault.{Rose}
use Rattle.zj_home.specs.Super.{Super, block_bytes_in}
use Rattle.zj_home.specs.Made.{HoldsBlocks}
use Rattle.zj_tx.specs.Record.{Record}
use Rattle.zj_area.specs.Journal.{AreaView}
use Rattle.zj_layout.specs.declared.faults.TreeFault.{TreeFault}
use Rattle.zj_layout.specs.declared.faults.TreeFault.TheVariants as trees
use Rattle.zj_layout.specs.Faults.{IsFirstFault}
use Rattle.zj_layout.specs.Image.{image_of}
use Rattle.zj_layout.specs.Rules.{FailsFirst}
use Rattle.zj_mount.specs.Mounting.{AreEmpty, FailsIn, HoldsFirst, IsHomeCause, IsUsedCause, fault_of_tree}
use Rattle.zj_mount.specs.Scanning.{AreCounted, AreaHolds, FailsAt, HoldsSome, IsAreaCause, IsDamagedAt, RestIfNone, RestIfSettled, RestsIfSettled, StopsAt}
use Rattle.zj_dev.specs.declared.device.Device.{Device}
use Rattle.zj_dev.specs.declared.device.Device.TheVariants as devices
use Rattle.zj_block.specs.declared.numbers.Tail.{Tail}
use Rattle.zj_mount.specs.Recovered.{empty_from}
use Rattle.zj_mount.specs.declared.recovered.Tally.{Tally}
use Rattle.zj_mount.specs.declared.fault.MountFault.{MountFault}
use Rattle.zj_mount.specs.declared.fault.MountFault.TheVariants as faults
use Rattle.zj_mount.proofs.OpenLemmas.{push_at, push_before}

-- nothing was read yet
pub holds_none : (o : Option (List ℕ)) (blocks : List (List ℕ)) → IfSome o (λ image. HoldsBlocks image blocks 0)
holds_none None blocks = tt
holds_none (Some image) blocks = λ b below. absurd (omega (arith, below))

-- one block more was read
pub holds_more : (o p : Option (List ℕ)) (old new : List (List ℕ)) (number : ℕ) (block : List ℕ) → p ≡ o → number < length old → new ≡ set old number block → IfSome o (λ image. HoldsBlocks image old number) → IfSome p (λ image. bytes_of block ≡ block_bytes_in image number)
    → IfSome o (λ image. HoldsBlocks image new (number + 1))
holds_more None p old new number block same within put held read = tt
holds_more (Some image) p old new number block same within put held read = λ b below.
    elim (cases_eq b number) [
      | inl e ↦
          let is : bytes_of block ≡ block_bytes_in image number = rw same at read in
          ap (block_bytes_in image) e ∙ sym is ∙ sym (ap bytes_of (ap (λ (bs : List (List ℕ)). get_or bs b zero_content) put ∙ ap (λ (k : ℕ). get_or (set old number block) k zero_content) e ∙ get_or-set_same old number block zero_content within))
      | inr other ↦ held b (omega arith) ∙ sym (ap bytes_of (ap (λ (bs : List (List ℕ)). get_or bs b zero_content) put ∙ get_or-set_other old number b block zero_content other))
    ]

-- ---- journals without a record

no_record : (records : List Record) → length records ≡ 0 → records ≡ []
no_record [] e = refl
no_record (r ∷ rs) e = absurd (omega (arith, e))

module _ {D : Type 0} (view : D → DiskView) (areas : List (AreaView D)) (counts : List ℕ) where
  -- the first areas, whose counts are 0, are empty
  pub are_empty : (count : ℕ) → AreCounted view areas counts count → ((core : ℕ) → core < count → slice_get counts core ≡ Some 0) → AreEmpty view areas count
  are_empty count counted zero core below = by (slice_get areas core) (rw (zero core below) at (counted core below))
    where
      by : (o : Option (AreaView D)) → IsSomeAnd o (λ a. HoldsSome view a 0) → IsSomeAnd o (λ a. AreaHolds view a [])
      by None h = absurd h
      by (Some a) h = subst (λ (rs : List Record). AreaHolds view a rs) (no_record h.0 h.1) h.2

  -- and at rest, where they were settled
  pub are_resting : (now : List (AreaView D)) (count : ℕ) → RestIfNone view areas now counts count → ((core : ℕ) → core < count → slice_get counts core ≡ Some 0) → RestIfSettled view areas now count
  are_resting now count resting zero core below = by (slice_get areas core) (slice_get now core) (rw (zero core below) at (resting core below))
    where
      by : (o n : Option (AreaView D)) → IsSomeAnd o (λ a. IsSomeAnd n (λ b. ◌≡◌ {A = ℕ} 0 0 → RestsIfSettled view a b)) → IsSomeAnd o (λ a. IsSomeAnd n (RestsIfSettled view a))
      by None n rests = absurd rests
      by (Some a) None rests = absurd rests
      by (Some a) (Some b) rests = rests refl

  -- and one whose count is not 0 is not
  pub holds_first : (core count : ℕ) → AreCounted view areas counts (length areas) → core < length areas → ((k : ℕ) → k < core → slice_get counts k ≡ Some 0) → slice_get counts core ≡ Some count → 0 < count → HoldsFirst view areas core
  holds_first core count counted within zero here some = record {
    within = within;
    counts = counts;
    counted = counted;
    before = are_empty core (λ k below. counted k (omega (arith, below, within))) zero;
    here = by (slice_get areas core) (rw here at (counted core within));
  }
    where
      by : (o : Option (AreaView D)) → IsSomeAnd o (λ a. HoldsSome view a count) → IsSomeAnd o (λ a. (first : Record) × (rest : List Record) × AreaHolds view a (first ∷ rest))
      by None h = absurd h
      by (Some a) h = first h.0 h.1 h.2
        where
          first : (records : List Record) → length records ≡ count → AreaHolds view a records → (first : Record) × (rest : List Record) × AreaHolds view a (first ∷ rest)
          first [] e holds = absurd (omega (arith, e, some))
          first (r ∷ rs) e holds = (r, rs, holds)

-- ---- the tree, or why there is none

pub fails_in : (o : Option (List ℕ)) (sizes : Numbers) (blocks : List (List ℕ)) (rule block : ℕ) → length blocks ≡ sizes.blocks → IfSome o (λ image. HoldsBlocks image blocks (length blocks)) → FailsFirst sizes (image_of sizes blocks) rule block → IfSome o (λ image. FailsIn sizes image rule block)
fails_in None sizes blocks rule block many held fails = tt
fails_in (Some image) sizes blocks rule block many held fails = record { blocks = blocks; many = many; held = held; fails = fails }

-- why blocks show no tree
pub tree_cause : {D : Type 0} (view : D → DiskView) (super : Super) (old new : D) (blocks : List (List ℕ)) (fault : TreeFault) → length blocks ≡ super.sizes.blocks
    → IfSome (view old).bytes (λ image. HoldsBlocks image blocks (length blocks)) → IsFirstFault super.sizes (image_of super.sizes blocks) fault → IsHomeCause view super old new (fault_of_tree fault)
tree_cause view super old new blocks (trees.NoTree rule block) many held first = fails_in (view old).bytes super.sizes blocks rule block many held first
tree_cause view super old new blocks trees.NoMemory many held first = tt

-- why the blocks were not read
pub blocks_cause : {D : Type 0} (view : D → DiskView) (super : Super) (old new : D) (fault : MountFault) → (fault ≡ faults.NoMemory) ⊎ ((fault ≡ faults.DiskFault devices.Home) × Rose (view old).faults (view new).faults) → IsHomeCause view super old new fault
blocks_cause view super old new fault (inl e) = subst (IsHomeCause view super old new) (sym e) tt
blocks_cause view super old new fault (inr (e, rose)) = subst (IsHomeCause view super old new) (sym e) rose

-- ---- why the journals are not all without a record

-- one was not read
pub scan_cause : {D : Type 0} (view : D → DiskView) (old new : List (AreaView D)) (counts : List ℕ) (fault : MountFault) → StopsAt view old new counts fault → IsUsedCause view old new fault
scan_cause view old new counts fault stops = at (slice_get old stops.core) (slice_get new stops.core) refl refl stops.here
  where
    failed : (device : Device) (a b : AreaView _) → slice_get old stops.core ≡ Some a → slice_get new stops.core ≡ Some b → device ≡ devices.Journal stops.core → FailsAt view a b → IsUsedCause view old new (faults.DiskFault device)
    failed device a b here there e rose = subst (λ (d : Device). IsUsedCause view old new (faults.DiskFault d)) (sym e) ((counts, stops.counted), rw (here, there) rose)

    damaged : (device : Device) (at found expected : ℕ) (a : AreaView _) → slice_get old stops.core ≡ Some a → device ≡ devices.Journal stops.core → IsDamagedAt view a at found expected → IsUsedCause view old new (faults.Damaged device at found expected)
    damaged device at found expected a here e is = subst (λ (d : Device). IsUsedCause view old new (faults.Damaged d at found expected)) (sym e) ((counts, stops.counted), rw here is)

    by_fault : (fault : MountFault) (a b : AreaView _) → slice_get old stops.core ≡ Some a → slice_get new stops.core ≡ Some b → IsAreaCause view stops.core a b fault → IsUsedCause view old new fault
    by_fault faults.NoMemory a b here there is = tt
    by_fault (faults.DiskFault device) a b here there is = failed device a b here there is.0 is.1
    by_fault (faults.Damaged device at found expected) a b here there is = damaged device at found expected a here is.0 is.1
    by_fault (faults.NoTree rule block) a b here there is = absurd is
    by_fault (faults.Unbuilt device) a b here there is = absurd is

    at : (o o' : Option (AreaView _)) → slice_get old stops.core ≡ o → slice_get new stops.core ≡ o' → IsSomeAnd o (λ a. IsSomeAnd o' (λ b. IsAreaCause view stops.core a b fault)) → IsUsedCause view old new fault
    at None o' e e' h = absurd h
    at (Some a) None e e' h = absurd h
    at (Some a) (Some b) e e' h = by_fault fault a b e e' h

-- all were counted, and none holds a record
pub counted_empty : {D T : Type 0} (view : D → DiskView) (areas : List (AreaView D)) (counts : List ℕ) (result : Result T MountFault) → length counts ≡ length areas → AreCounted view areas counts (length areas)
    → OnOk result ((core : ℕ) → core < length counts → slice_get counts core ≡ Some 0) → OnOk result (AreEmpty view areas (length areas))
counted_empty view areas counts (Ok x) many counted none = are_empty view areas counts (length areas) counted (λ core below. none core (omega (arith, below, many)))
counted_empty view areas counts (Err fault) many counted none = tt

-- and rests
pub counted_resting : {D T : Type 0} (view : D → DiskView) (areas now : List (AreaView D)) (counts : List ℕ) (result : Result T MountFault) → length counts ≡ length areas → RestIfNone view areas now counts (length areas)
    → OnOk result ((core : ℕ) → core < length counts → slice_get counts core ≡ Some 0) → OnOk result (RestIfSettled view areas now (length areas))
counted_resting view areas now counts (Ok x) many resting none = are_resting view areas counts now (length areas) resting (λ core below. none core (omega (arith, below, many)))
counted_resting view areas now counts (Err fault) many resting none = tt

-- or one does
pub counted_used : {D T : Type 0} (view : D → DiskView) (old new : List (AreaView D)) (counts : List ℕ) (result : Result T MountFault) → length counts ≡ length old → AreCounted view old counts (length old)
    → IfErr result (λ fault. (core count : ℕ) × (fault ≡ faults.Unbuilt (devices.Journal core)) × (slice_get counts core ≡ Some count) × (0 < count) × ((k : ℕ) → k < core → slice_get counts k ≡ Some 0)) → IfErr result (IsUsedCause view old new)
counted_used view old new counts (Ok x) many counted first = tt
counted_used view old new counts (Err fault) many counted (core, count, is, here, some, before) =
    subst (IsUsedCause view old new) (sym is) (holds_first view old counts core count counted (omega (arith, many, slice_get_within counts core count here)) before here some)

-- ---- what journals held that held no record

-- one more is told of
pub told_more : (tails : List Tail) (told : List Tally) (tail : Tail) (tally : Tally) (count : ℕ) → length told ≡ count → slice_get tails count ≡ Some tail → tally ≡ empty_from tail → ((core : ℕ) → core < count → slice_get told core ≡ option_map empty_from (slice_get tails core))
    → (core : ℕ) → core < count + 1 → slice_get (told ++ tally ∷ []) core ≡ option_map empty_from (slice_get tails core)
told_more tails told tail tally count many here is below core under =
    elim (cases_eq core count) [
      | inl e ↦
          let at : slice_get (told ++ tally ∷ []) count ≡ Some tally = ap (slice_get (told ++ tally ∷ [])) (sym many) ∙ push_at told tally in
          subst (λ (k : ℕ). slice_get (told ++ tally ∷ []) k ≡ option_map empty_from (slice_get tails k)) (sym e) (at ∙ ap Some is ∙ sym (ap (option_map empty_from) here))
      | inr other ↦ push_before told tally core (omega (arith, many)) ∙ below core (omega arith)
    ]
