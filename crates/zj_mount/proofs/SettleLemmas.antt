-- Devices that are settled, and then read.
use Rattle.std.proofs.Common.{◌≡◌, ℕ, ◌+◌, ◌<◌, ◌≤◌, List, [], ◌∷◌, length, set, true, refl, sym, ap, subst, ◌∙◌, arith, inl, inr}
use Rattle.std.specs.Prelude.{Option, Some, None, IfSome, IsSomeAnd, MatchOption, slice_get}
use Rattle.std.proofs.lemmas.Bool.{cases_eq}
use Rattle.std.proofs.lemmas.Option.{slice_get_within}
use Rattle.zj_block.specs.Sizes.{Numbers}
use Rattle.zj_block.specs.declared.numbers.Tail.{Tail}
use Rattle.zj_dev.specs.Disk.{DiskView, IsSettled, OnlyReads}
use Rattle.zj_dev.specs.declared.device.Device.TheVariants as devices
use Rattle.zj_dev.proofs.DiskLaws.{continues_refl, continues_trans, each_first, each_then, rose_since}
use Rattle.zj_home.specs.Super.{Super}
use Rattle.zj_tx.specs.Record.{Record}
use Rattle.zj_area.specs.Cause.{IsKnown}
use Rattle.zj_area.specs.Journal.{AreaView, IsAtRest, journal_of}
use Rattle.zj_area.specs.Ring.{Holds, IsDamaged}
use Rattle.zj_mount.specs.declared.fault.MountFault.{MountFault}
use Rattle.zj_mount.specs.declared.fault.MountFault.TheVariants as faults
use Rattle.zj_mount.specs.Mounting.{AreEmpty, HoldsFirst, IsHomeCause, IsUsedCause}
use Rattle.zj_mount.specs.Scanning.{AreCounted, AreRead, AreReady, AreaHolds, FailsAt, HoldsSome, IsDamagedAt, IsNowReady, RestIfSettled, RestsIfSettled}
use Rattle.zj_mount.specs.Settling.{AllSettled, AreSettled, AreSynced, FailsToSettle, IsSettleCause, IsSynced, RestEmpty, Settles}
use Rattle.zj_mount.proofs.ScanLemmas.{set_there, set_elsewhere}

-- ---- one device

pub settles_refl : (disk : DiskView) → Settles disk disk
settles_refl disk = record {
  goes_on = continues_refl disk;
  bytes = refl;
  stays = each_first disk (λ image. disk.may_leave disk.calls image ≡ true) (λ image may. may);
}

-- a device that was only read
pub settles_read : (old new : DiskView) → OnlyReads old new → Settles old new
settles_read old new reads = record { goes_on = reads.goes_on; bytes = reads.bytes; stays = λ moment image from to may. sym (reads.images moment image from to) ∙ may }

pub settles_trans : (a b c : DiskView) → Settles a b → Settles b c → Settles a c
settles_trans a b c first second = record {
  goes_on = continues_trans a b c first.goes_on second.goes_on;
  bytes = second.bytes ∙ first.bytes;
  stays = each_then a.calls b c (λ image. a.may_leave a.calls image ≡ true) second.goes_on first.stays
      (λ moment image from to may. first.stays b.calls image first.goes_on.calls (omega arith) (second.stays moment image from to may));
}

-- nothing is pending on a device that was only read, where nothing was before
pub settled_read : (old new : DiskView) → OnlyReads old new → IsSettled old → IsSettled new
settled_read old new reads settled image may = reads.bytes ∙ settled image (sym (reads.images new.calls image reads.goes_on.calls (omega arith)) ∙ may)

module _ {D : Type 0} (view : D → DiskView) where
  -- ---- one area

  synced_refl : (a : AreaView D) → IsSynced view a a
  synced_refl a = record { settles = settles_refl (view a.device); same = refl }

  -- what its bytes are after it was synced, they were before
  bytes_before : (a m : AreaView D) (P : Numbers → ℕ → Tail → List ℕ → Type 0) → IsSynced view a m → IfSome (view m.device).bytes (P m.sizes m.core m.tail) → IfSome (view a.device).bytes (P a.sizes a.core a.tail)
  bytes_before a m P synced has =
      let sizes : m.sizes ≡ a.sizes = ap (λ (x : AreaView D). x.sizes) synced.same in
      let core : m.core ≡ a.core = ap (λ (x : AreaView D). x.core) synced.same in
      let tail : m.tail ≡ a.tail = ap (λ (x : AreaView D). x.tail) synced.same in
      rw (synced.settles.bytes, sizes, core, tail) at has

  holds_before : (a m : AreaView D) (records : List Record) → IsSynced view a m → AreaHolds view m records → AreaHolds view a records
  holds_before a m records synced holds = bytes_before a m (λ n core tail image. (end : Tail) × Holds n core image tail records end) synced holds

  some_before : (a m : AreaView D) (count : ℕ) → IsSynced view a m → HoldsSome view m count → HoldsSome view a count
  some_before a m count synced holds = (holds.0, holds.1, holds_before a m holds.0 synced holds.2)

  -- and it is read, or fails, or is known, as it was to be before
  now_ready_before : (a m b : AreaView D) → IsSynced view a m → IsNowReady m b → IsNowReady a b
  now_ready_before a m b synced ready = ready ∙ ap (λ (x : AreaView D). record x { device = b.device; ready = true; end = b.end }) synced.same

  fails_before : (a m b : AreaView D) → IsSynced view a m → FailsAt view m b → FailsAt view a b
  fails_before a m b synced rose = rose_since (view a.device).faults (view m.device).faults (view b.device).faults synced.settles.goes_on.no_fewer rose

  known_before : (a m : AreaView D) → IsSynced view a m → IsKnown (journal_of view m) → IsKnown (journal_of view a)
  known_before a m synced known =
      let ready : m.ready ≡ a.ready = ap (λ (x : AreaView D). x.ready) synced.same in
      let failed : m.failed ≡ a.failed = ap (λ (x : AreaView D). x.failed) synced.same in
      (sym ready ∙ known.0, sym failed ∙ known.1)

  -- ---- all areas

  each : {T : Type 0} (o : Option T) (P Q : T → Type 0) → ((x : T) → P x → Q x) → IsSomeAnd o P → IsSomeAnd o Q
  each None P Q follows has = absurd has
  each (Some x) P Q follows has = follows x has

  pub all_synced_refl : (areas : List (AreaView D)) → AreSynced view areas areas
  all_synced_refl areas core = by (slice_get areas core)
    where
      by : (o : Option (AreaView D)) → MatchOption o (o ≡ None) (λ a. IsSomeAnd o (IsSynced view a))
      by None = refl
      by (Some a) = synced_refl a

  -- nothing is pending on areas that were only read, where nothing was before
  pub all_settled_read : (old new : List (AreaView D)) (many : ℕ) → AreRead view old new → AllSettled view old many → AllSettled view new many
  all_settled_read old new many read settled core below = by (slice_get old core) (slice_get new core) (read core) (settled core below)
    where
      by : (o n : Option (AreaView D)) → MatchOption o (n ≡ None) (λ a. IsSomeAnd n (λ b. OnlyReads (view a.device) (view b.device))) → IsSomeAnd o (λ a. IsSettled (view a.device)) → IsSomeAnd n (λ b. IsSettled (view b.device))
      by None n none has = absurd has
      by (Some a) None one has = absurd one
      by (Some a) (Some b) one has = settled_read (view a.device) (view b.device) one has

  -- areas that were synced, and no more, are settled
  pub synced_settles : (old new : List (AreaView D)) → AreSynced view old new → AreSettled view old new
  synced_settles old new synced core = by (slice_get old core) (slice_get new core) (synced core)
    where
      by : (o n : Option (AreaView D)) → MatchOption o (n ≡ None) (λ a. IsSomeAnd n (IsSynced view a)) → MatchOption o (n ≡ None) (λ a. IsSomeAnd n (λ b. Settles (view a.device) (view b.device)))
      by None n has = has
      by (Some a) n has = each n (IsSynced view a) (λ b. Settles (view a.device) (view b.device)) (λ b one. one.settles) has

  -- why they were not
  pub fails_settle_cause : (home home' : D) (old new : List (AreaView D)) (fault : MountFault) → FailsToSettle view old new fault → IsSettleCause view home home' old new fault
  fails_settle_cause home home' old new fault (core, is, here) = subst (IsSettleCause view home home' old new) (sym is) here

  module _ (old mid : List (AreaView D)) (synced : AreSynced view old mid) where
    -- what follows of the area before
    lift : (core : ℕ) (P Q : AreaView D → Type 0) → ((a m : AreaView D) → IsSynced view a m → P m → Q a) → IsSomeAnd (slice_get mid core) P → IsSomeAnd (slice_get old core) Q
    lift core P Q follows has = by (slice_get old core) (slice_get mid core) (synced core) has
      where
        by : (o m : Option (AreaView D)) → MatchOption o (m ≡ None) (λ a. IsSomeAnd m (IsSynced view a)) → IsSomeAnd m P → IsSomeAnd o Q
        by None m none has = absurd (rw none at has)
        by (Some a) None one has = absurd has
        by (Some a) (Some m) one has = follows a m one has

    -- and of the areas before and after
    lift_two : (new : List (AreaView D)) (core : ℕ) (P Q : AreaView D → AreaView D → Type 0) → ((a m b : AreaView D) → IsSynced view a m → P m b → Q a b)
        → IsSomeAnd (slice_get mid core) (λ m. IsSomeAnd (slice_get new core) (P m)) → IsSomeAnd (slice_get old core) (λ a. IsSomeAnd (slice_get new core) (Q a))
    lift_two new core P Q follows has =
        lift core (λ m. IsSomeAnd (slice_get new core) (P m)) (λ a. IsSomeAnd (slice_get new core) (Q a)) (λ a m one. each (slice_get new core) (P m) (Q a) (λ b. follows a m b one)) has

    pub empty_before : (count : ℕ) → AreEmpty view mid count → AreEmpty view old count
    empty_before count empty core below = lift core (λ m. AreaHolds view m []) (λ a. AreaHolds view a []) (λ a m. holds_before a m []) (empty core below)

    pub ready_before : (new : List (AreaView D)) (many : ℕ) → AreReady mid new many → AreReady old new many
    ready_before new many ready core below = lift_two new core IsNowReady IsNowReady now_ready_before (ready core below)

    counted_before : (counts : List ℕ) (many : ℕ) → AreCounted view mid counts many → AreCounted view old counts many
    counted_before counts many counted core below =
        lift core (λ m. IsSomeAnd (slice_get counts core) (HoldsSome view m)) (λ a. IsSomeAnd (slice_get counts core) (HoldsSome view a))
        (λ a m one. each (slice_get counts core) (HoldsSome view m) (HoldsSome view a) (λ count. some_before a m count one))
        (counted core below)

    first_before : (core : ℕ) → length mid ≡ length old → HoldsFirst view mid core → HoldsFirst view old core
    first_before core many holds = record {
      within = omega (arith, holds.within, many);
      counts = holds.counts;
      counted = counted_before holds.counts (length old) (λ k below. holds.counted k (omega (arith, below, many)));
      before = empty_before core holds.before;
      here = lift core (λ m. (first : Record) × (rest : List Record) × AreaHolds view m (first ∷ rest)) (λ a. (first : Record) × (rest : List Record) × AreaHolds view a (first ∷ rest))
          (λ a m one held. (held.0, held.1, holds_before a m (held.0 ∷ held.1) one held.2)) holds.here;
    }

    -- why they are not all without a record
    pub used_before : (new : List (AreaView D)) (fault : MountFault) → length mid ≡ length old → IsUsedCause view mid new fault → IsUsedCause view old new fault
    used_before new (faults.DiskFault (devices.Journal core)) many cause =
        ((cause.0.0, counted_before cause.0.0 core cause.0.1), lift_two new core (FailsAt view) (FailsAt view) fails_before cause.1)
    used_before new (faults.DiskFault devices.Home) many cause = cause
    used_before new (faults.Damaged (devices.Journal core) place found expected) many cause = (
      (cause.0.0, counted_before cause.0.0 core cause.0.1),
      lift core (λ m. IsDamagedAt view m place found expected) (λ a. IsDamagedAt view a place found expected)
          (λ a m. bytes_before a m (λ n k tail image. IsDamaged n k image tail place found expected)) cause.1,
    )
    used_before new (faults.Damaged devices.Home place found expected) many cause = cause
    used_before new (faults.Unbuilt (devices.Journal core)) many cause = first_before core many cause
    used_before new (faults.Unbuilt devices.Home) many cause = cause
    used_before new (faults.NoTree rule block) many cause = cause
    used_before new faults.NoMemory many cause = tt

    -- they were then read
    pub then_read : (new : List (AreaView D)) → AreRead view mid new → AreSettled view old new
    then_read new read core = by (slice_get old core) (slice_get mid core) (slice_get new core) (synced core) (read core)
      where
        by : (o m n : Option (AreaView D)) → MatchOption o (m ≡ None) (λ a. IsSomeAnd m (IsSynced view a)) → MatchOption m (n ≡ None) (λ a. IsSomeAnd n (λ b. OnlyReads (view a.device) (view b.device)))
            → MatchOption o (n ≡ None) (λ a. IsSomeAnd n (λ b. Settles (view a.device) (view b.device)))
        by None m n none reads = rw none at reads
        by (Some a) None n one reads = absurd one
        by (Some a) (Some m) n one reads =
            each n (λ b. OnlyReads (view m.device) (view b.device)) (λ b. Settles (view a.device) (view b.device))
            (λ b read. settles_trans (view a.device) (view m.device) (view b.device) one.settles (settles_read (view m.device) (view b.device) read))
            reads

    -- and those whose end was not known are at rest
    pub then_rest : (new : List (AreaView D)) → length mid ≡ length old → AllSettled view mid (length old) → RestIfSettled view mid new (length mid) → RestEmpty view old new
    then_rest new many settled rest core a b here there unknown =
        let below : core < length old = slice_get_within old core a here in
        by (slice_get mid core) (rw here at (synced core)) (settled core below) (rw there at (rest core (omega (arith, below, many))))
      where
        by : (o : Option (AreaView D)) → IsSomeAnd o (IsSynced view a) → IsSomeAnd o (λ m. IsSettled (view m.device)) → IsSomeAnd o (λ m. RestsIfSettled view m b) → IsAtRest (journal_of view b) [] × (b.end ≡ b.tail)
        by None one settles rests = absurd one
        by (Some m) one settles rests = rests (λ known. unknown (known_before a m one known)) settles

  -- why home gives no tree
  pub home_before : (super : Super) (old mid new : D) (fault : MountFault) → Settles (view old) (view mid) → IsHomeCause view super mid new fault → IsHomeCause view super old new fault
  home_before super old mid new (faults.DiskFault devices.Home) settles cause = rose_since (view old).faults (view mid).faults (view new).faults settles.goes_on.no_fewer cause
  home_before super old mid new (faults.DiskFault (devices.Journal core)) settles cause = cause
  home_before super old mid new (faults.Damaged device place found expected) settles cause = cause
  home_before super old mid new (faults.Unbuilt device) settles cause = cause
  home_before super old mid new (faults.NoTree rule block) settles cause = rw settles.bytes at cause
  home_before super old mid new faults.NoMemory settles cause = tt

  -- ---- one area after the other

  module _ (old : List (AreaView D)) where
    -- the areas before that core are settled, and those from it on are as they were
    pub record SettledTo (now : List (AreaView D)) (core : ℕ) : Type 0 where
      pub synced : AreSynced view old now
      pub settled : AllSettled view now core
      pub rest : (k : ℕ) → core ≤ k → slice_get now k ≡ slice_get old k

    pub settled_none : SettledTo old 0
    settled_none = record { synced = all_synced_refl old; settled = λ core below. absurd (omega arith); rest = λ k le. refl }

    next_is : (now : List (AreaView D)) (core : ℕ) (a : AreaView D) → slice_get now core ≡ Some a → SettledTo now core → slice_get old core ≡ Some a
    next_is now core a here so_far = sym (so_far.rest core (omega arith)) ∙ here

    -- one more was synced
    pub synced_here : (now : List (AreaView D)) (core : ℕ) (a b : AreaView D) → core < length now → slice_get now core ≡ Some a → SettledTo now core → IsSynced view a b → AreSynced view old (set now core b)
    synced_here now core a b below here so_far one k =
        elim (cases_eq k core) [
          | inl e ↦
              let there : MatchOption (slice_get old core) (slice_get (set now core b) core ≡ None) (λ x. IsSomeAnd (slice_get (set now core b) core) (IsSynced view x)) =
              rw (next_is now core a here so_far, set_there now core b below) one in
              subst (λ (i : ℕ). MatchOption (slice_get old i) (slice_get (set now core b) i ≡ None) (λ x. IsSomeAnd (slice_get (set now core b) i) (IsSynced view x))) (sym e) there
          | inr other ↦ rw (set_elsewhere now core k b other) (so_far.synced k)
        ]

    -- and is settled
    pub settled_more : (now : List (AreaView D)) (core : ℕ) (a b : AreaView D) → core < length now → slice_get now core ≡ Some a → SettledTo now core → IsSynced view a b → IsSettled (view b.device) → SettledTo (set now core b) (core + 1)
    settled_more now core a b below here so_far one settles = record {
      synced = synced_here now core a b below here so_far one;
      settled = λ k under.
          elim (cases_eq k core) [
            | inl e ↦
                let there : IsSomeAnd (slice_get (set now core b) core) (λ x. IsSettled (view x.device)) = rw (set_there now core b below) settles in
                subst (λ (i : ℕ). IsSomeAnd (slice_get (set now core b) i) (λ x. IsSettled (view x.device))) (sym e) there
            | inr other ↦ rw (set_elsewhere now core k b other) (so_far.settled k (omega arith))
          ];
      rest = λ k le. set_elsewhere now core k b (λ e. omega (arith, e)) ∙ so_far.rest k (omega arith);
    }

    -- or failed
    pub fails_here : (now : List (AreaView D)) (core : ℕ) (a b : AreaView D) (fault : MountFault) → core < length now → slice_get now core ≡ Some a → SettledTo now core → fault ≡ faults.DiskFault (devices.Journal core) → FailsAt view a b → FailsToSettle view old (set now core b) fault
    fails_here now core a b fault below here so_far is rose = (core, is, rw (next_is now core a here so_far, set_there now core b below) rose)
