-- What readings of the journals of an image gather, of which the blocks don't all stay in memory.
use Rattle.std.specs.Prelude.{◌≡◌, ℕ, List, length, map, IfSome, nat_lt, slice_get, slice_index, ⊤}
use Rattle.zj_history.specs.Transactions.{Bounds}
use Rattle.zj_home.specs.Super.{Super}
use Rattle.zj_tx.specs.declared.part.Part.{Part}
use Rattle.zj_tx.specs.Record.{Record, bare}
use Rattle.zj_area.specs.Journal.{JournalView}
use Rattle.zj_closure.specs.Found.{Journals, records_of}
use Rattle.zj_closure.specs.Newest.{HasNewest, HasNewestOf}
use Rattle.zj_closure.specs.Recovered.{kept_records, records_below}
use Rattle.zj_mount.specs.declared.gathering.Reading.{Reading}
use Rattle.zj_mount.specs.declared.gathering.Reading.TheVariants.{Kept, Missed}
use Rattle.zj_mount.specs.Inspecting.{AreFound, HoldKept, JournalHolds}

-- A journal holds records, of which these are left without their blocks; and those below a bound were added to images.
pub record GathersOne (j : JournalView) (bound : ℕ) (old new : List Part) (heads : List Record) : Type 0 where
  pub records : List Record
  pub holds : JournalHolds j records
  pub bared : heads ≡ map bare records
  pub added : HasNewestOf old new (records_below bound records)

-- All journals hold records, of which these are left without their blocks; and of each block these are the newest images that
-- the records below bounds have.
pub record GathersBelow (journals : List JournalView) (bounds : Bounds) (heads : Journals) (images : List Part) : Type 0 where
  pub found : Journals
  pub many : length found ≡ length journals
  pub holds : AreFound journals found (length journals)
  pub bared : heads ≡ map (map bare) found
  pub newest : HasNewest images (kept_records found bounds)

-- two bounds choose the same of records
abbrev pub ChooseSame : ℕ → ℕ → List Record → Type 0
ChooseSame guess kept records = (i : ℕ) → IfSome (slice_get records i) (λ r. nat_lt r.number guess ≡ nat_lt r.number kept)

-- What is kept of the journals of an image was gathered: of each journal as many records as it holds, with their blocks or
-- without; how many of them are kept; and of each block the newest image that these have.
pub record GathersKept (super : Super) (journals : List JournalView) (heads : Journals) (kept : Bounds) (images : List Part) : Type 0 where
  pub found : Journals
  pub holds : HoldKept super journals found kept
  pub many : length heads ≡ length found
  pub counts : (core : ℕ) → length (records_of heads core) ≡ length (records_of found core)
  pub newest : HasNewest images (kept_records found kept)

-- what a reading came to, which began with a guess of what is kept
abbrev pub IsReading : Super → List JournalView → Reading → Type 0
IsReading super journals (Kept gathered) = GathersKept super journals gathered.heads.items (slice_index gathered.kept) gathered.images
IsReading super journals (Missed kept) = ⊤
