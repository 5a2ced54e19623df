-- Cores of which nothing has happened.
use Rattle.std.specs.Prelude.{◌≡◌, ℕ, List, [], map, Some, None, slice_get}
use Rattle.zj_dev.specs.Disk.{DiskView}
use Rattle.zj_tx.specs.Running.{empty_transaction}
use Rattle.zj_area.specs.Journal.{AreaView, IsAtRest, journal_of}
use Rattle.zj_block.specs.Sizes.{Numbers}
use Rattle.zj_turns.specs.Passes.{CacheParameters, fresh}
use Rattle.zj_core.specs.Core.{CoreState}
use Rattle.zj_session.specs.Logging.{standing_at}
use Rattle.zj_session.specs.Playing.{Past}

-- a core of a cache of which nothing has happened, for an image of these sizes
pub record IsFresh {D : Type 0} (cache : CacheParameters) (sizes : Numbers) (core : ℕ) (c : CoreState D) : Type 0 where
  pub pass : c.pass ≡ fresh cache.table core
  pub sizes_are : c.sizes ≡ sizes
  pub idle : c.begun ≡ None
  pub running : c.running ≡ empty_transaction core sizes.cores c.area.end.number

-- Nothing has happened of the cores: core i is at place i.
abbrev pub AreFresh : {D : Type 0} → CacheParameters → Numbers → List (CoreState D) → Type 0
AreFresh {D} cache sizes cores = (i : ℕ) (c : CoreState D) → slice_get cores i ≡ Some c → IsFresh cache sizes i c

-- Each journal is at rest with no record.
abbrev pub RestWithNone : {D : Type 0} → (D → DiskView) → List (AreaView D) → Type 0
RestWithNone {D} view areas = (core : ℕ) (area : AreaView D) → slice_get areas core ≡ Some area → IsAtRest (journal_of view area) [] × (area.end ≡ area.tail)

-- what was done before the first schedule, over these journals: nothing
abbrev pub past_of : {D : Type 0} → (D → DiskView) → List (AreaView D) → Past
past_of view areas = record {
  history = [];
  sealed = map (λ area. []) areas;
  standing = standing_at (map (λ area. area.tail) areas);
  tails = map (λ area. area.tail) areas;
  from = map (λ area. (view area.device).calls) areas;
}
