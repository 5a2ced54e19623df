-- A session over an image that was opened and mounted.
use Rattle.std.proofs.Common.{◌≡◌, ◌⊎◌, ◌∙◌, inl, inr, zero, suc, ℕ, ◌+◌, ◌<◌, ◌≤◌, true, false, List, [], ◌∷◌, length, map, Option, Some, None, refl, sym, ap, subst, arith}
use Rattle.std.specs.Prelude.{IfSome, IsSomeAnd, MatchOption, option_map, slice_get, slice_index}
use Rattle.std.proofs.lemmas.Bool.{cases_lt}
use Rattle.std.proofs.lemmas.List.{length-map}
use Rattle.std.proofs.lemmas.Option.{get_or_from_slice_get, slice_get-map, slice_get_past, slice_get_within}
use Rattle.std.proofs.lemmas.Simd.{map-map}
use Rattle.zj_dev.specs.Crash.{FailsIn, LeavesIn}
use Rattle.zj_dev.specs.Disk.{Continues, DiskView, IsSettled}
use Rattle.zj_dev.specs.Fault.{Rose}
use Rattle.zj_dev.specs.declared.device.Device.TheVariants as devices
use Rattle.zj_dev.specs.declared.span.Span.{Span}
use Rattle.zj_dev.proofs.DiskLaws.{continues_trans, fails_since, rose_since}
use Rattle.zj_block.specs.declared.numbers.Tail.{Tail}
use Rattle.zj_block.specs.Sizes.{Numbers}
use Rattle.zj_home.specs.Super.{Super}
use Rattle.zj_home.specs.Made.{HoldsBlocks}
use Rattle.zj_history.specs.Operation.{Operation}
use Rattle.zj_area.specs.Cause.{IsKnown}
use Rattle.zj_area.specs.Journal.{AreaView, journal_of, opened as just_opened}
use Rattle.zj_closure.specs.Found.{Journals}
use Rattle.zj_tree.specs.declared.call.Call.{Call}
use Rattle.zj_tree.specs.declared.call.Reply.{Reply}
use Rattle.zj_tree.specs.Tree.{FileTree}
use Rattle.zj_inode.specs.Run.{IsServed}
use Rattle.zj_layout.specs.Image.{State}
use Rattle.zj_layout.specs.Shows.{Shows}
use Rattle.zj_mount.specs.Opening.{AllOpened, IsOpened}
use Rattle.zj_mount.specs.Scanning.{AreReady, IsNowReady}
use Rattle.zj_mount.specs.Settling.{AreSettled, RestEmpty, Settles}
use Rattle.zj_script.specs.declared.answer.Answer.{Answer}
use Rattle.zj_script.specs.declared.line.Line.{Line}
use Rattle.zj_script.specs.Script.{IsSchedule}
use Rattle.zj_turns.specs.Passes.{CacheParameters}
use Rattle.zj_core.specs.Core.{CoreState}
use Rattle.zj_session.specs.Answering.{area_onward}
use Rattle.zj_session.specs.Crashes.{AreLogged, CrashesRecover, StandAsTold}
use Rattle.zj_session.specs.Laws.{AreSpansOf, FitIsRun, RoundRecovers}
use Rattle.zj_session.specs.Logging.{standing_at}
use Rattle.zj_session.specs.Played.{Played}
use Rattle.zj_session.specs.Playing.{JournalsGoOn, PlaysLines, ServiceState, journals_of}
use Rattle.zj_session.specs.Service.{IsService}
use Rattle.zj_session.specs.Starting.{RestWithNone, past_of}
use Rattle.zj_cli.specs.declared.phase.Phase.{Phase}
use Rattle.zj_cli.specs.declared.status.Fault.{Fault}
use Rattle.zj_cli.specs.declared.status.Fault.TheVariants as faults
use Rattle.zj_cli.specs.Asked.{AreBuilt}
use Rattle.zj_cli.specs.Outside.{IsUnwritten, Outside}
use Rattle.zj_cli.specs.Phases.{AreDisks, AreMoments, AreOf, DevicesGoOn, EndsWith, IsBetween, JournalFails, JournalFailsIn, spans_in}
use Rattle.zj_cli.specs.Play.{IsInputCause, LeavesCuts, Plays, PlaysRound, ReadsInput, RoundEnds, ScriptEnds}
use Rattle.zj_cli.proofs.PhaseLemmas.{at_core, ends_with, from_at, of_take, same_lists, to_at}
use Rattle.zj_cli.proofs.SpellLemmas.{none_there}

-- ---- the journals, as a service starts over them

module _ {D : Type 0} (view : D → DiskView) (super : Super) (old new : List (AreaView D)) (opened : AllOpened super old) (many : length new ≡ length old) (tails : length super.tails ≡ super.sizes.cores) where
  -- each was opened with home's tail of its core
  was : (core : ℕ) (b : AreaView D) → slice_get new core ≡ Some b → (a : AreaView D) × (tail : Tail) × (slice_get old core ≡ Some a) × (slice_get super.tails core ≡ Some tail) × (a ≡ just_opened a.device super.sizes core tail)
  was core b here = by (slice_get old core) (slice_get super.tails core) refl refl (opened.opened core (omega (arith, below, opened.few)))
    where
      below : core < length old
      below = omega (arith, slice_get_within new core b here, many)

      by : (o : Option (AreaView D)) (t : Option Tail) → slice_get old core ≡ o → slice_get super.tails core ≡ t → IfSome o (λ a. IfSome t (λ tail. a ≡ just_opened a.device super.sizes core tail))
          → (a : AreaView D) × (tail : Tail) × (slice_get old core ≡ Some a) × (slice_get super.tails core ≡ Some tail) × (a ≡ just_opened a.device super.sizes core tail)
      by None t e e' is = absurd (none_there old core below e)
      by (Some a) None e e' is = absurd (none_there super.tails core (omega (arith, below, opened.many, tails)) e')
      by (Some a) (Some tail) e e' is = (a, tail, e, e', is)

  pub tails_are : AreReady old new (length old) → map (λ (a : AreaView D). a.tail) new ≡ super.tails
  tails_are ready = same_lists (map (λ (a : AreaView D). a.tail) new) super.tails (λ core. slice_get-map (λ (a : AreaView D). a.tail) new core ∙ at core (slice_get new core) refl)
    where
      at : (core : ℕ) (o : Option (AreaView D)) → slice_get new core ≡ o → option_map (λ (a : AreaView D). a.tail) o ≡ slice_get super.tails core
      at core None e = sym (slice_get_past super.tails core (by (cases_lt core (length new))))
        where
          by : (core < length new) ⊎ (length new ≤ core) → length super.tails ≤ core
          by (inl lt) = absurd (none_there new core lt e)
          by (inr le) = omega (arith, le, many, opened.many, tails)
      at core (Some b) e =
          let w = was core b e in
          let now : IsNowReady w.0 b = rw (w.2, e) at (ready core (omega (arith, slice_get_within new core b e, many))) in
          ap (λ (x : AreaView D). Some x.tail) now ∙ ap (λ (x : AreaView D). Some x.tail) w.4 ∙ sym w.3

  pub rest_with_none : RestEmpty view old new → RestWithNone view new
  rest_with_none rest core b here =
      let w = was core b here in
      let unread : w.0.ready ≡ false = ap (λ (x : AreaView D). x.ready) w.4 in
      rest core w.0 b w.2 here (λ known. dead w.0.ready unread known.0)
    where
      dead : (r : _) → r ≡ false → r ≡ true → ⊥
      dead r no_read is = cc

pub round_goes_on : {D : Type 0} (view : D → DiskView) (old new : List (AreaView D)) → JournalsGoOn view old new → DevicesGoOn view old new
round_goes_on {D = D} view old new on core = one (slice_get old core) (slice_get new core) (on core)
  where
    one : (o o' : Option (AreaView D)) → MatchOption o (o' ≡ None) (λ a. IsSomeAnd o' (λ b. (b ≡ area_onward a b) × Continues (view a.device) (view b.device))) → MatchOption o (o' ≡ None) (λ a. IsSomeAnd o' (λ b. Continues (view a.device) (view b.device)))
    one None o' is = is
    one (Some a) None is = absurd is
    one (Some a) (Some b) is = is.1

pub on_trans : {D : Type 0} (view : D → DiskView) (a b c : List (AreaView D)) → DevicesGoOn view a b → DevicesGoOn view b c → DevicesGoOn view a c
on_trans {D = D} view a b c first second core = one (slice_get a core) (slice_get b core) (slice_get c core) (first core) (second core)
  where
    one : (o o' o'' : Option (AreaView D)) → MatchOption o (o' ≡ None) (λ x. IsSomeAnd o' (λ y. Continues (view x.device) (view y.device))) → MatchOption o' (o'' ≡ None) (λ x. IsSomeAnd o'' (λ y. Continues (view x.device) (view y.device)))
        → MatchOption o (o'' ≡ None) (λ x. IsSomeAnd o'' (λ y. Continues (view x.device) (view y.device)))
    one None None o'' is is' = is'
    one None (Some y) o'' is is' = cc
    one (Some x) None o'' is is' = absurd is
    one (Some x) (Some y) None is is' = absurd is'
    one (Some x) (Some y) (Some z) is is' = continues_trans (view x.device) (view y.device) (view z.device) is is'

-- as many are there still
pub as_many : {D : Type 0} (view : D → DiskView) (old new : List (AreaView D)) → DevicesGoOn view old new → length new ≡ length old
as_many {D = D} view old new on = by (cases_lt (length new) (length old)) (cases_lt (length old) (length new))
  where
    fewer : (core : ℕ) → core < length old → slice_get new core ≡ None → ⊥
    fewer core below none = one (slice_get old core) refl (on core)
      where
        one : (o : Option (AreaView D)) → slice_get old core ≡ o → MatchOption o (slice_get new core ≡ None) (λ a. IsSomeAnd (slice_get new core) (λ b. Continues (view a.device) (view b.device))) → ⊥
        one None e goes = none_there old core below e
        one (Some a) e goes = rw none at goes

    more : (core : ℕ) → core < length new → slice_get old core ≡ None → ⊥
    more core below none = none_there new core below (rw none at (on core))

    by : (length new < length old) ⊎ (length old ≤ length new) → (length old < length new) ⊎ (length new ≤ length old) → length new ≡ length old
    by (inl lt) other = absurd (fewer (length new) lt (slice_get_past new (length new) (omega arith)))
    by (inr le) (inl lt) = absurd (more (length old) lt (slice_get_past old (length old) (omega arith)))
    by (inr le) (inr le') = omega (arith, le, le')

-- ---- why no line was played

pub input_ends : (super : Super) (start : State) (tree : FileTree) (Stand : List DiskView → Type 0) (Rounds : List Span → Type 0) (Fails : ℕ → Type 0) (before after : Outside) (fault : Fault)
    → ((spans : List Span) → Rounds spans → ⊥) → IsInputCause super.sizes.cores before.left after.left before.input_faults after.input_faults fault → IsUnwritten before after → ScriptEnds super start tree Stand Rounds Fails before after (Some fault)
input_ends super start tree Stand Rounds Fails before after (faults.Script kind line column) none cause unwritten = (record { read = cause.0; input = cause.1; place = cause.2; unwritten = unwritten }, none)
input_ends super start tree Stand Rounds Fails before after faults.Memory none cause unwritten = record { read = cause.0; reads = cause.1; unwritten = unwritten }
input_ends super start tree Stand Rounds Fails before after faults.Input none cause unwritten = (record { read = cause.0.0; reads = cause.0.1; unwritten = unwritten }, cause.1, none)
input_ends super start tree Stand Rounds Fails before after faults.Words none cause unwritten = absurd cause
input_ends super start tree Stand Rounds Fails before after (faults.Image fault) none cause unwritten = absurd cause
input_ends super start tree Stand Rounds Fails before after (faults.Device device) none cause unwritten = absurd cause
input_ends super start tree Stand Rounds Fails before after faults.Output none cause unwritten = absurd cause

-- ---- how the lines were played

-- the journal of a core of which a commit failed, failed since it was opened
pub journal_fails : {D : Type 0} (view : D → DiskView) (areas : List (AreaView D)) (old new : List (CoreState D)) (core : ℕ) → AreSettled view areas (journals_of old) → JournalsGoOn view (journals_of old) (journals_of new) → core < length old
    → ((a b : CoreState D) → slice_get old core ≡ Some a → slice_get new core ≡ Some b → Rose (view a.area.device).faults (view b.area.device).faults) → JournalFails view areas (journals_of new) core
journal_fails {D = D} view areas old new core settled on below rose =
    let old_at = slice_get-map (λ (c : CoreState D). c.area) old core in
    let new_at = slice_get-map (λ (c : CoreState D). c.area) new core in
    rw new_at (by (slice_get areas core) (slice_get old core) (slice_get new core) refl refl (rw old_at at (settled core)) (rw (old_at, new_at) at (on core)))
  where
    by : (o : Option (AreaView D)) (c c' : Option (CoreState D)) → slice_get old core ≡ c → slice_get new core ≡ c'
        → MatchOption o (option_map (λ (c : CoreState D). c.area) c ≡ None) (λ a. IsSomeAnd (option_map (λ (c : CoreState D). c.area) c) (λ b. Settles (view a.device) (view b.device)))
        → MatchOption (option_map (λ (c : CoreState D). c.area) c) (option_map (λ (c : CoreState D). c.area) c' ≡ None) (λ a. IsSomeAnd (option_map (λ (c : CoreState D). c.area) c') (λ b. (b ≡ area_onward a b) × Continues (view a.device) (view b.device)))
        → IsSomeAnd o (λ a. IsSomeAnd (option_map (λ (c : CoreState D). c.area) c') (λ b. Rose (view a.device).faults (view b.device).faults))
    by o None c' e e' settles goes = absurd (none_there old core below e)
    by None (Some c) c' e e' settles goes = cc
    by (Some a) (Some c) None e e' settles goes = absurd goes
    by (Some a) (Some c) (Some c') e e' settles goes = rose_since (view a.device).faults (view c.area.device).faults (view c'.area.device).faults settles.goes_on.no_fewer (rose c c' e e')

-- and it failed in the round
pub fails_in_round : {D : Type 0} (view : D → DiskView) (d : D) (old new : List (CoreState D)) (areas areas' : List (AreaView D)) (round : Phase) (ready ended : List ℕ) → journals_of old ≡ areas → areas' ≡ journals_of new
    → IsBetween ready ended round → AreMoments view d (map (λ (a : AreaView D). a.device) areas) ready → AreMoments view d (map (λ (a : AreaView D). a.device) (journals_of new)) ended
    → AreDisks view areas → AreDisks view (journals_of new) → JournalsGoOn view (journals_of old) (journals_of new)
    → (disks : List DiskView) → AreOf view d areas' disks → (core : ℕ) → core < length old
    → ((a b : CoreState D) → slice_get old core ≡ Some a → slice_get new core ≡ Some b → Rose (view a.area.device).faults (view b.area.device).faults) → JournalFailsIn disks (spans_in round) core
fails_in_round {D = D} view d old new areas areas' round ready ended start end between first last were are_disks on disks are core below rose disk span at here =
    let old_at = slice_get-map (λ (c : CoreState D). c.area) old core in
    let new_at = slice_get-map (λ (c : CoreState D). c.area) new core in
    by (slice_get old core) (slice_get new core) refl refl (rw (old_at, new_at) at (on core))
  where
    by : (c c' : Option (CoreState D)) → slice_get old core ≡ c → slice_get new core ≡ c'
        → MatchOption (option_map (λ (c : CoreState D). c.area) c) (option_map (λ (c : CoreState D). c.area) c' ≡ None) (λ a. IsSomeAnd (option_map (λ (c : CoreState D). c.area) c') (λ b. (b ≡ area_onward a b) × Continues (view a.device) (view b.device)))
        → FailsIn disk span
    by None c' e e' goes = absurd (none_there old core below e)
    by (Some c) None e e' goes = absurd goes
    by (Some c) (Some c') e e' goes =
        let there = of_take round.devices round.spans (core + 1) span here in
        let before : slice_get areas core ≡ Some c.area = ap (λ (l : List (AreaView D)). slice_get l core) (sym start) ∙ slice_get-map (λ (c : CoreState D). c.area) old core ∙ ap (option_map (λ (c : CoreState D). c.area)) e in
        let after : slice_get (journals_of new) core ≡ Some c'.area = slice_get-map (λ (c : CoreState D). c.area) new core ∙ ap (option_map (λ (c : CoreState D). c.area)) e' in
        let from : span.from ≡ (view c.area.device).calls = from_at round ready ended between (core + 1) span (view c.area.device).calls there (at_core view d areas ready first core c.area before) in
        let to : span.to ≡ (view c'.area.device).calls = to_at round ready ended between (core + 1) span (view c'.area.device).calls there (at_core view d (journals_of new) ended last core c'.area after) in
        let next : suc core ≡ core + 1 = omega arith in
        let placed : slice_get disks (core + 1) ≡ Some (view c'.area.device) =
        subst (λ (k : ℕ). slice_get disks k ≡ Some (view c'.area.device)) next
        (ap (λ (ds : List DiskView). slice_get ds (suc core)) are ∙ slice_get-map (λ (a : AreaView D). view a.device) areas' core
        ∙ ap (option_map (λ (a : AreaView D). view a.device)) (ap (λ (l : List (AreaView D)). slice_get l core) end ∙ after)) in
        let same : view c'.area.device ≡ disk = (let e'' : Some (view c'.area.device) ≡ Some disk = sym placed ∙ at in cc) in
        subst (λ (x : DiskView). FailsIn x span) same (fails_since (view c.area.device) (view c'.area.device) span (were core c.area before) (are_disks core c'.area after) goes.1 (rose c c' e e') from to)

-- each crash within the round recovers
pub round_recovered : {D : Type 0} (law : RoundRecovers D) (view : D → DiskView) (cache : CacheParameters) (cores : List (CoreState D)) (areas : List (AreaView D)) (tails : List Tail) (d : D) (round : Phase) (ready ended : List ℕ)
    (tree : FileTree) (history : List Operation) (sealed : Journals) (calls : List Call) (replies : List Reply) (played : List Played)
    → IsBetween ready ended round → AreMoments view d (map (λ (a : AreaView D). a.device) areas) ready → AreMoments view d (map (λ (a : AreaView D). a.device) (journals_of cores)) ended
    → length cores ≡ length areas → round.devices ≡ length areas + 1 → IsSettled (view d) → IfSome (view d).bytes (λ image. HoldsBlocks image cache.start (length cache.start))
    → IsService cache cores history → AreLogged view (map (λ (a : AreaView D). (view a.device).calls) areas) tails cores history sealed → StandAsTold (standing_at tails) played cores → Shows cache.sizes cache.start tree → IsServed cache.sizes history calls replies
    → (disks : List DiskView) → AreOf view d (journals_of cores) disks → CrashesRecover disks (spans_in round) cache.sizes tails cache.start tree calls replies played history
round_recovered {D = D} law view cache cores areas tails d round ready ended tree history sealed calls replies played between first last many devices settled held service logged stand shows served disks are =
    by (spans_in round) refl (ends_with round ready ended between view d (journals_of cores) (omega (arith, devices, many, length-map cores (λ (c : CoreState D). c.area))) last disks are)
  where
    from : List ℕ
    from = map (λ (a : AreaView D). (view a.device).calls) areas

    all : List DiskView
    all = view d ∷ map (λ (c : CoreState D). view c.area.device) cores

    same : disks ≡ all
    same = are ∙ ap (λ (ds : List DiskView). view d ∷ ds) (map-map (λ (a : AreaView D). view a.device) (λ (c : CoreState D). c.area) cores)

    holds : (span : Span) → slice_get (spans_in round) 0 ≡ Some span → (moment : ℕ) (image : List ℕ) → LeavesIn (view d) span moment image → HoldsBlocks image cache.start (length cache.start)
    holds span here moment image leaves =
        let there = of_take round.devices round.spans 0 span here in
        let begins : span.from ≡ (view d).calls = from_at round ready ended between 0 span (view d).calls there first.home_is in
        let ends : span.to ≡ (view d).calls = to_at round ready ended between 0 span (view d).calls there last.home_is in
        let now : moment ≡ (view d).calls = omega (arith, begins, ends, leaves.not_before, leaves.not_after) in
        let read : (view d).bytes ≡ Some image = settled image (subst (λ (m : ℕ). (view d).may_leave m image ≡ true) now leaves.left) in
        subst (λ (o : Option (List ℕ)). IfSome o (λ image. HoldsBlocks image cache.start (length cache.start))) read held

    -- the span of a journal begins as the service started, and ends as it ended
    one_span : (i : ℕ) (c : CoreState D) (s : Option Span) → slice_get cores i ≡ Some c → slice_get (spans_in round) (i + 1) ≡ s → option_map (λ (s : Span). s.to) s ≡ Some (view c.area.device).calls
        → IsSomeAnd s (λ s. (s.from ≡ slice_index from i) × (s.to ≡ (view c.area.device).calls))
    one_span i c None here at is = cc
    one_span i c (Some s) here at is =
        let there = of_take round.devices round.spans (i + 1) s at in
        let to_is : s.to ≡ (view c.area.device).calls = cc in
        let from_is : slice_index from i ≡ s.from = begins (slice_get areas i) refl s there in
        (sym from_is, to_is)
      where
        begins : (o : Option (AreaView D)) → slice_get areas i ≡ o → (s : Span) → slice_get round.spans (i + 1) ≡ Some s → slice_index from i ≡ s.from
        begins None e s there = absurd (none_there areas i (omega (arith, slice_get_within cores i c here, many)) e)
        begins (Some a) e s there =
            get_or_from_slice_get from i (view a.device).calls 0 (slice_get-map (λ (a : AreaView D). (view a.device).calls) areas i ∙ ap (option_map (λ (a : AreaView D). (view a.device).calls)) e)
            ∙ sym (from_at round ready ended between (i + 1) s (view a.device).calls there (at_core view d areas ready first i a e))

    by : (spans : List Span) → spans_in round ≡ spans → map (λ (s : Span). s.to) spans ≡ map (λ (x : DiskView). x.calls) disks → CrashesRecover disks spans cache.sizes tails cache.start tree calls replies played history
    by [] is ends = absurd (let e = ends ∙ ap (map (λ (x : DiskView). x.calls)) same in cc)
    by (span ∷ spans) is ends =
        let are_spans : AreSpansOf view from cores spans = (λ i c here.
        let next : suc i ≡ i + 1 = omega arith in
        let told : option_map (λ (s : Span). s.to) (slice_get spans i) ≡ Some (view c.area.device).calls =
        sym (slice_get-map (λ (s : Span). s.to) spans i) ∙ ap (λ (ms : List ℕ). slice_get ms (suc i)) (ends ∙ ap (map (λ (x : DiskView). x.calls)) same)
        ∙ slice_get-map (λ (x : DiskView). x.calls) (map (λ (c : CoreState D). view c.area.device) cores) i ∙ ap (option_map (λ (x : DiskView). x.calls)) (slice_get-map (λ (c : CoreState D). view c.area.device) cores i ∙ ap (option_map (λ (c : CoreState D). view c.area.device)) here) in
        one_span i c (slice_get spans i) here (subst (λ (k : ℕ). slice_get (spans_in round) k ≡ slice_get spans i) next (ap (λ (ss : List Span). slice_get ss (suc i)) is)) told) in
        subst (λ (ds : List DiskView). CrashesRecover ds (span ∷ spans) cache.sizes tails cache.start tree calls replies played history) (sym same)
        (law view cache from tails cores history sealed (view d) span spans tree calls replies played service logged stand are_spans shows served (holds span (ap (λ (ss : List Span). slice_get ss 0) is)))

-- in the words of the image
pub session_recovers : {D : Type 0} (law : RoundRecovers D) (view : D → DiskView) (super : Super) (start : State) (tree : FileTree) (cache : CacheParameters) (cores : List (CoreState D)) (areas areas' : List (AreaView D)) (base d : D) (round : Phase) (ready ended : List ℕ)
    → cache.sizes ≡ super.sizes → cache.start ≡ start → map (λ (a : AreaView D). a.tail) areas ≡ super.tails → areas' ≡ journals_of cores
    → IsBetween ready ended round → AreMoments view d (map (λ (a : AreaView D). a.device) areas) ready → AreMoments view d (map (λ (a : AreaView D). a.device) (journals_of cores)) ended
    → length cores ≡ length areas → round.devices ≡ length areas + 1 → IsSettled (view d) → (view d).bytes ≡ (view base).bytes → IfSome (view base).bytes (λ image. HoldsBlocks image start (length start)) → Shows super.sizes start tree
    → (history : List Operation) (sealed : Journals) (calls : List Call) (replies : List Reply) (played : List Played) → IsService cache cores history → AreLogged view (past_of view areas).from (past_of view areas).tails cores history sealed → StandAsTold (past_of view areas).standing played cores → IsServed super.sizes history calls replies
    → (disks : List DiskView) → AreOf view d areas' disks → CrashesRecover disks (spans_in round) super.sizes super.tails start tree calls replies played history
session_recovers {D = D} law view super start tree cache cores areas areas' base d round ready ended sized held tails same between first last many devices settled read holds shows history sealed calls replies played service logged stand served disks are =
    rw (sized, held, tails) at
    (round_recovered law view cache cores areas (map (λ (a : AreaView D). a.tail) areas) d round ready ended tree history sealed calls replies played between first last many devices settled (rw (held, read) holds) service logged stand (rw (sized, held) shows) (rw sized served) disks
    (subst (λ (all : List (AreaView D)). AreOf view d all disks) same are))

-- ---- what a round leaves, however it ends

module _ {D : Type 0} (view : D → DiskView) (super : Super) (start : State) (tree : FileTree) (old new : ServiceState D) (areas : List (AreaView D)) (lines : List Line) (Stand : List DiskView → Type 0)
    (sized : old.cache.sizes ≡ super.sizes) (held : old.cache.start ≡ start) (tails : map (λ (a : AreaView D). a.tail) areas ≡ super.tails) (shows : Shows super.sizes start tree) (fits : FitIsRun) (spans : List Span)
    (recover : (history : List Operation) (sealed : Journals) (calls : List Call) (replies : List Reply) (played : List Played) → IsService new.cache new.cores history → AreLogged view (past_of view areas).from (past_of view areas).tails new.cores history sealed → StandAsTold (past_of view areas).standing played new.cores → IsServed super.sizes history calls replies
    → (disks : List DiskView) → Stand disks → CrashesRecover disks spans super.sizes super.tails start tree calls replies played history) where
  pub cuts_of : (left now : Option (List ℕ)) (read : List ℕ) → ReadsInput left now read → IsSchedule super.sizes.cores read lines → AreBuilt lines
      → (rest : List Line) (answers : List Answer) → PlaysLines view old new (past_of view areas) lines rest answers → LeavesCuts super start tree Stand left now spans
  cuts_of left now read input schedule built rest answers plays =
      let fit = rw (sized, held) at plays.fit in
      let run = fits super.sizes start tree plays.played plays.later shows fit in
      record {
        read = read;
        lines = lines;
        rest = rest;
        input = input;
        is_schedule = schedule;
        built = built;
        front = plays.lines_are;
        played = plays.played;
        history = plays.later;
        fit = fit;
        fits_log = rw (sized, held, tails) at plays.fits_log;
        run = run.0;
        recovers = recover plays.later plays.sealed run.0.calls run.0.replies plays.played plays.service plays.logged plays.stand run.1;
      }

-- ---- how the script ends

module _ {D : Type 0} (view : D → DiskView) (super : Super) (start : State) (tree : FileTree) (old new : ServiceState D) (areas : List (AreaView D)) (lines : List Line) (Stand : List DiskView → Type 0) (Rounds : List Span → Type 0) (Fails : ℕ → Type 0) (before after : Outside)
    (sized : old.cache.sizes ≡ super.sizes) (held : old.cache.start ≡ start) (tails : map (λ (a : AreaView D). a.tail) areas ≡ super.tails) (shows : Shows super.sizes start tree) (fits : FitIsRun)
    (read : List ℕ) (input : ReadsInput before.left after.left read) (schedule : IsSchedule super.sizes.cores read lines) (built : AreBuilt lines) (quiet : after.input_faults ≡ before.input_faults)
    (spans : List Span) (round : Rounds spans)
    (recover : (history : List Operation) (sealed : Journals) (calls : List Call) (replies : List Reply) (played : List Played) → IsService new.cache new.cores history → AreLogged view (past_of view areas).from (past_of view areas).tails new.cores history sealed → StandAsTold (past_of view areas).standing played new.cores → IsServed super.sizes history calls replies
    → (disks : List DiskView) → Stand disks → CrashesRecover disks spans super.sizes super.tails start tree calls replies played history)
    (fails : (core : ℕ) → core < length old.cores → ((a b : CoreState D) → slice_get old.cores core ≡ Some a → slice_get new.cores core ≡ Some b → Rose (view a.area.device).faults (view b.area.device).faults) → Fails core)
    (fails_now : (disks : List DiskView) → Stand disks → (core : ℕ) → core < length old.cores → ((a b : CoreState D) → slice_get old.cores core ≡ Some a → slice_get new.cores core ≡ Some b → Rose (view a.area.device).faults (view b.area.device).faults) → JournalFailsIn disks spans core) where
  plays_of : (failed : Option ℕ) (rest : List ℕ) → PlaysRound view old new (past_of view areas) lines before.held after.held failed rest → Plays super start tree Stand Rounds Fails before after failed rest
  unfolding cuts_of
  plays_of failed rest played =
      let plays = played.plays in
      record {
        spans = spans;
        round = round;
        cuts = cuts_of view super start tree old new areas lines Stand sized held tails shows fits spans recover before.left after.left read input schedule built [] played.answers plays;
        all_played = refl;
        fails = λ core failed. fails core (played.within core failed) (λ a b here there. plays.rose core a b here there failed);
        fails_in_round = λ disks stand core failed. fails_now disks stand core (played.within core failed) (λ a b here there. plays.rose core a b here there failed);
        lowest = played.lowest;
        written = played.written;
        text = played.text;
        took = played.took;
      }

  pub script_ends : (fault : Option Fault) → RoundEnds view old new (past_of view areas) lines before.held after.held before.output_faults after.output_faults fault → ScriptEnds super start tree Stand Rounds Fails before after fault
  script_ends None ends = (plays_of None [] ends.0, quiet, ends.1)
  script_ends (Some (faults.Device (devices.Journal core))) ends = (ends.0, plays_of (Some core) ends.0 ends.1, ends.2)
  script_ends (Some (faults.Device devices.Home)) ends = absurd ends
  script_ends (Some faults.Memory) ends = record { read = read; reads = input.reads; unwritten = ends }
  script_ends (Some faults.Output) ends = ((ends.0.0, plays_of None ends.0.0 ends.0.1), ends.1)
  script_ends (Some faults.Words) ends = absurd ends
  script_ends (Some (faults.Script kind line column)) ends = absurd ends
  script_ends (Some (faults.Image fault)) ends = absurd ends
  script_ends (Some faults.Input) ends = absurd ends
