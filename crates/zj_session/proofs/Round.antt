-- The crashes within a round recover to cuts of the history that the cores have logged.
use Rattle.std.proofs.Common.{◌≡◌, ℕ, zero, suc, ◌+◌, ◌-◌, ◌<◌, ◌≤◌, ◌⊎◌, inl, inr, ⊎_elim, Bool, true, false, cond, List, [], ◌∷◌, ◌++◌, length, map, take, get_or, Option, Some, None, IsSomeAnd, slice_get, option_map, All, refl, sym, ap, ◌∙◌, subst, arith}
use Rattle.std.specs.Option.{unwrap_or}
use Rattle.std.specs.Prelude.{slice_index}
use Rattle.std.proofs.lemmas.Bool.{cases_lt}
use Rattle.std.proofs.lemmas.List.{length-map, length-take-le}
use Rattle.std.proofs.lemmas.Option.{get_or_from_slice_get, slice_get-get_or, slice_get-map, slice_get_within, unwrap_or-slice_get}
use Rattle.zj_block.specs.Sizes.{Numbers}
use Rattle.zj_block.specs.declared.numbers.Tail.{Tail}
use Rattle.zj_block.specs.declared.numbers.Writer.{Writer}
use Rattle.zj_dev.specs.Crash.{IsCrashSet, LeavesIn}
use Rattle.zj_dev.specs.Disk.{DiskView}
use Rattle.zj_dev.specs.declared.span.Span.{Span}
use Rattle.zj_history.specs.Cut.{IsConsistentCut, cut}
use Rattle.zj_history.specs.Laws.{FrontIsConsistent, NoneBelowFirst}
use Rattle.zj_history.specs.Operation.{Operation}
use Rattle.zj_history.specs.State.{BlockState, after}
use Rattle.zj_history.specs.Transactions.{Bounds}
use Rattle.zj_home.specs.Made.{HoldsBlocks}
use Rattle.zj_inode.specs.Laws.{CutIsRun}
use Rattle.zj_inode.specs.Run.{IsServed}
use Rattle.zj_tree.specs.declared.call.Call.{Call}
use Rattle.zj_tree.specs.declared.call.Reply.{Reply}
use Rattle.zj_tree.specs.Tree.{FileTree}
use Rattle.zj_layout.proofs.Follow.{none_some, some_is}
use Rattle.zj_layout.specs.Shows.{Shows}
use Rattle.zj_tx.specs.Frozen.{IsFrozen}
use Rattle.zj_tx.specs.Record.{Record}
use Rattle.zj_area.specs.Journal.{journal_of}
use Rattle.zj_area.specs.Ring.{Holds}
use Rattle.zj_closure.specs.Found.{IsFoundAs, Journals, records_of, tail_of}
use Rattle.zj_closure.specs.Kept.{AreKept}
use Rattle.zj_closure.specs.Laws.{AreJournalsOf, HoldsTails, Recovers, RecoversCut as CutRecovers}
use Rattle.zj_closure.specs.Recovered.{kept_records}
use Rattle.zj_turns.specs.Passes.{CacheParameters}
use Rattle.zj_core.specs.Core.{CoreState, IsOf, IsSteady}
use Rattle.zj_session.specs.Crashes.{AreLogged, HasCommitted, HasLogged, HoldsCommitted, HoldsFirst, IsCutFound, RecoversCut, RunsAsTold, StandAsTold}
use Rattle.zj_session.specs.Laws.{AreSpansOf, RoundRecovers}
use Rattle.zj_session.specs.Logging.{commits_in, fails_in, standing_at, tail_at}
use Rattle.zj_session.specs.Played.{Played}
use Rattle.zj_session.specs.Service.{IsService}
use Rattle.zj_session.proofs.Lists.{at_all}

-- ---- lists

-- where there is a thing for each number below a count, there is a list of such things
abbrev pub Listed : {X : Type 0} → (ℕ → X → Type 0) → ℕ → Type 0
Listed {X} P n = (xs : List X) × (length xs ≡ n) × ((i : ℕ) (x : X) → slice_get xs i ≡ Some x → P i x)

listed_more : {X : Type 0} (P : ℕ → X → Type 0) (n : ℕ) (x : X) → P 0 x → Listed (λ i. P (suc i)) n → Listed P (suc n)
listed_more {X} P n x first rest = (x ∷ rest.0, ap suc rest.1, so)
  where
    so : (i : ℕ) (y : X) → slice_get (x ∷ rest.0) i ≡ Some y → P i y
    so zero y at = subst (P 0) (some_is at) first
    so (suc i) y at = rest.2 i y at

pub listed : {X : Type 0} (P : ℕ → X → Type 0) (n : ℕ) → ((i : ℕ) → i < n → (x : X) × P i x) → Listed P n
listed P zero each = ([], refl, λ i x at. absurd (none_some at))
listed P (suc n) each = let first = each 0 (omega arith) in listed_more P n first.0 first.1 (listed (λ i. P (suc i)) n (λ i low. each (suc i) (omega (arith, low))))

-- what a front has at a place, the whole has there
whole_has : {X : Type 0} (n : ℕ) (xs : List X) (k : ℕ) (x : X) → slice_get (take n xs) k ≡ Some x → slice_get xs k ≡ Some x
whole_has zero xs k x at = absurd (none_some at)
whole_has (suc n) [] k x at = absurd (none_some at)
whole_has (suc n) (y ∷ xs) zero x at = at
whole_has (suc n) (y ∷ xs) (suc k) x at = whole_has n xs k x at

-- a thing that is there, and is so
there_and : {X : Type 0} (P : X → Type 0) (o : Option X) → IsSomeAnd o P → (x : X) × (o ≡ Some x) × P x
there_and P None so = absurd so
there_and P (Some x) so = (x, refl, so)

-- what stands at a place within a list
at_within : {X : Type 0} (xs : List X) (k : ℕ) → k < length xs → (x : X) × (slice_get xs k ≡ Some x)
at_within [] k few = absurd (omega arith)
at_within (x ∷ xs) k few = (get_or (x ∷ xs) k x, slice_get-get_or (x ∷ xs) k x few)

-- ---- what is found

module _ {D : Type 0} (view : D → DiskView) (cache : CacheParameters) (from : List ℕ) (tails : List Tail) (cores : List (CoreState D)) (history : List Operation) (sealed : Journals)
    (service : IsService cache cores history) (logged : AreLogged view from tails cores history sealed) (moments : List ℕ) (images : List (List ℕ)) where
  -- records that are found of a core: its image holds them, each is the transaction of its number, and they are some of the core's, each that was
  -- committed by its moment among them
  pub record IsFoundOf (i : ℕ) (records : List Record) : Type 0 where
    pub few : length records ≤ length (records_of sealed i)
    pub committed : (c : CoreState D) (there : slice_get cores i ≡ Some c) (moment : ℕ) → slice_get moments (suc i) ≡ Some moment → HasCommitted (slice_index from i) (logged.each i c there).keeps.commits moment (length records)
    pub holds : (image : List ℕ) → slice_get images (suc i) ≡ Some image → (end : Tail) × Holds cache.sizes i image (tail_at tails i) records end
    pub frozen : (k : ℕ) (r : Record) → slice_get records k ≡ Some r → IsFrozen history (record { core = i; number = (tail_at tails i).number + k }) r

  module _ (i : ℕ) (c : CoreState D) (there : slice_get cores i ≡ Some c) where
    steady : IsSteady c
    steady = at_all IsSteady cores service.steady i c there

    area_sizes : c.area.sizes ≡ cache.sizes
    area_sizes = steady.journal.sizes_are ∙ sym (at_all (λ (x : CoreState D). IsOf cache x) cores service.together.of i c there).sizes

    core_is : c.pass.core ≡ i
    core_is = service.numbered i c there

    area_core : c.area.core ≡ i
    area_core = steady.journal.core ∙ core_is

    abbrev log : HasLogged view (slice_index from i) tails i c history (records_of sealed i)
    log = logged.each i c there

    one_frozen : (k : ℕ) (r : Record) → slice_get (records_of sealed i) k ≡ Some r → IsFrozen history (record { core = i; number = (tail_at tails i).number + k }) r
    one_frozen k r at = subst (λ (t : Tail). IsFrozen history (record { core = i; number = t.number + k }) r) log.tail (log.sealed.each k r at).2

    -- what is found in an image that a crash left
    abbrev Holding : ℕ → List ℕ → Type 0
    Holding moment image = (count : ℕ) × HoldsFirst c.area.sizes c.area.core c.area.tail (records_of sealed i) count image × HasCommitted (slice_index from i) log.keeps.commits moment count

    found_in_image : (moment : ℕ) (image : List ℕ) → slice_get moments (suc i) ≡ Some moment → slice_get images (suc i) ≡ Some image → Holding moment image → (records : List Record) × IsFoundOf i records
    found_in_image moment image at_moment at first = (
      take first.0 (records_of sealed i),
      record {
        few = let many = length-take-le first.0 (records_of sealed i) first.1.within in let low = first.1.within in omega (arith, many, low);
        committed = committed;
        holds = λ other at_other. (
          first.1.end,
          subst (λ im. Holds cache.sizes i im (tail_at tails i) (take first.0 (records_of sealed i)) first.1.end) (some_is (sym at ∙ at_other))
              (subst (λ n. Holds n i image (tail_at tails i) (take first.0 (records_of sealed i)) first.1.end) area_sizes
              (subst (λ core. Holds c.area.sizes core image (tail_at tails i) (take first.0 (records_of sealed i)) first.1.end) area_core
              (subst (λ t. Holds c.area.sizes c.area.core image t (take first.0 (records_of sealed i)) first.1.end) log.tail first.1.holds))),
        );
        frozen = λ k r here. one_frozen k r (whole_has first.0 (records_of sealed i) k r here);
      },
    )
      where
        same_commits : (d : CoreState D) (here : slice_get cores i ≡ Some d) → log.keeps.commits ≡ (logged.each i d here).keeps.commits
        same_commits d here =
            let many = log.number in
            let a = log.keeps.sealed in
            let b = (logged.each i d here).keeps.sealed in
            let failed : cond {A = ℕ} c.area.failed 1 0 ≡ cond {A = ℕ} d.area.failed 1 0 = ap (λ (x : CoreState D). cond {A = ℕ} x.area.failed 1 0) (some_is (sym there ∙ here)) in
            omega (arith, a, b, failed)

        committed : (d : CoreState D) (here : slice_get cores i ≡ Some d) (m : ℕ) → slice_get moments (suc i) ≡ Some m → HasCommitted (slice_index from i) (logged.each i d here).keeps.commits m (length (take first.0 (records_of sealed i)))
        committed d here m at_m n most made =
            let long = length-take-le first.0 (records_of sealed i) first.1.within in
            let least = first.2 n (let same = same_commits d here in omega (arith, most, same)) (let now : moment ≡ m = some_is (sym at_moment ∙ at_m) in omega (arith, made, now)) in
            omega (arith, long, least)

  -- what is found in the images, where each core has some
  module _ (each : (i : ℕ) → i < length cores → (records : List Record) × IsFoundOf i records) where
    abbrev all_found : Listed IsFoundOf (length cores)
    all_found = listed IsFoundOf (length cores) each

    abbrev pub found : Journals
    found = all_found.0

    pub found_many : length found ≡ length cores
    found_many = all_found.1

    there_of : (i : ℕ) → i < length cores → IsFoundOf i (records_of found i)
    there_of i low = all_found.2 i (records_of found i) (slice_get-get_or found i [] (subst (λ n. i < n) (sym found_many) low))

    pub found_few : (i : ℕ) → i < length cores → length (records_of found i) ≤ length (records_of sealed i)
    found_few i low = (there_of i low).few

    pub found_committed : (i : ℕ) (c : CoreState D) (there : slice_get cores i ≡ Some c) (moment : ℕ) → slice_get moments (suc i) ≡ Some moment → HasCommitted (slice_index from i) (logged.each i c there).keeps.commits moment (length (records_of found i))
    found_committed i c there = (there_of i (slice_get_within cores i c there)).committed c there

    pub found_holds : (i : ℕ) (image : List ℕ) → i < length cores → slice_get images (suc i) ≡ Some image → (end : Tail) × Holds cache.sizes i image (tail_at tails i) (records_of found i) end
    found_holds i image low at = (there_of i low).holds image at

    pub found_frozen : (t : Writer) (r : Record) → IsFoundAs (tail_of tails) found t r → IsFrozen history t r
    found_frozen t r found_as = by (slice_get found t.core) refl
      where
        by : (o : Option (List Record)) → slice_get found t.core ≡ o → IsFrozen history t r
        by None none = absurd (none_some (ap (λ (l : List Record). slice_get l (t.number - tail_of tails t.core)) (sym (sym (unwrap_or-slice_get found t.core []) ∙ ap (λ o. unwrap_or o []) none)) ∙ found_as.at))
        by (Some records) there =
            let here : slice_get records (t.number - tail_of tails t.core) ≡ Some r = ap (λ (l : List Record). slice_get l (t.number - tail_of tails t.core)) (sym (get_or_from_slice_get found t.core records [] there)) ∙ found_as.at in
            subst (λ n. IsFrozen history (record { core = t.core; number = n }) r) (let up = found_as.from_tail in omega (arith, up)) ((all_found.2 t.core records there).frozen (t.number - tail_of tails t.core) r here)

-- ---- what recovery makes of it

module _ (cut_recovers : CutRecovers) (cut_is_run : CutIsRun) (front_is_consistent : FrontIsConsistent) (none_below : NoneBelowFirst)
    {D : Type 0} (view : D → DiskView) (cache : CacheParameters) (from : List ℕ) (tails : List Tail) (cores : List (CoreState D)) (history : List Operation) (sealed : Journals)
    (home : DiskView) (span : Span) (spans : List Span) (tree : FileTree) (calls : List Call) (replies : List Reply) (played : List Played)
    (service : IsService cache cores history) (logged : AreLogged view from tails cores history sealed) (stand : StandAsTold (standing_at tails) played cores) (are_spans : AreSpansOf view from cores spans)
    (shows : Shows cache.sizes cache.start tree) (served : IsServed cache.sizes history calls replies)
    (home_holds : (moment : ℕ) (image : List ℕ) → LeavesIn home span moment image → HoldsBlocks image cache.start (length cache.start))
    (moments : List ℕ) (images : List (List ℕ)) (crash : IsCrashSet (home ∷ map (λ (c : CoreState D). view c.area.device) cores) (span ∷ spans) moments images) where
  many_disks : length (home ∷ map (λ (c : CoreState D). view c.area.device) cores) ≡ suc (length cores)
  many_disks = ap suc (length-map cores (λ (c : CoreState D). view c.area.device))

  each : (i : ℕ) → i < length cores → (records : List Record) × IsFoundOf view cache from tails cores history sealed service logged moments images i records
  each i low = of_core (at_within cores i low)
    where
      of_core : (c : CoreState D) × (slice_get cores i ≡ Some c) → (records : List Record) × IsFoundOf view cache from tails cores history sealed service logged moments images i records
      of_core core =
          let c : CoreState D = core.0 in
          let at : slice_get cores i ≡ Some c = core.1 in
          let s = there_and (λ (x : Span). (x.from ≡ slice_index from i) × (x.to ≡ (view c.area.device).calls)) (slice_get spans i) (are_spans i c at) in
          let disk : slice_get (map (λ (x : CoreState D). view x.area.device) cores) i ≡ Some (view c.area.device) = slice_get-map (λ (x : CoreState D). view x.area.device) cores i ∙ ap (option_map (λ (x : CoreState D). view x.area.device)) at in
          let moment = at_within moments (suc i) (let all = crash.all_moments in omega (arith, all, many_disks, low)) in
          let image = at_within images (suc i) (let all = crash.all_images in omega (arith, all, many_disks, low)) in
          let leaves : LeavesIn (view c.area.device) s.0 moment.0 image.0 = crash.each (suc i) (view c.area.device) s.0 moment.0 image.0 disk s.1 moment.1 image.1 in
          let low : slice_index from i ≤ moment.0 = (let a = leaves.not_before in let b = s.2.0 in omega (arith, a, b)) in
          let high : moment.0 ≤ (view c.area.device).calls = (let a = leaves.not_after in let b = s.2.1 in omega (arith, a, b)) in
          found_in_image view cache from tails cores history sealed service logged moments images i c at moment.0 image.0 moment.1 image.1 ((logged.each i c at).keeps.images moment.0 image.0 low high leaves.left)

  abbrev journals : Journals
  journals = found view cache from tails cores history sealed service logged moments images each

  frozen : (t : Writer) (r : Record) → IsFoundAs (tail_of tails) journals t r → IsFrozen history t r
  frozen = found_frozen view cache from tails cores history sealed service logged moments images each

  -- none is below the tails
  tails_cut : IsConsistentCut history (tail_of tails) × (cut history (tail_of tails) ≡ [])
  tails_cut = front_is_consistent cache.start [] history (tail_of tails) service.has.legal.legal (λ k d low. absurd (omega (arith, low))) (none_below (tail_of tails) history logged.numbered)

  are_journals : AreJournalsOf cache.start (tail_of tails) history (tail_of tails) journals
  are_journals = record {
    legal = service.has.legal.legal;
    numbered = logged.numbered;
    tails_are_cut = tails_cut.0;
    frozen = frozen;
  }

  holds_tails : (kept : Bounds) → HoldsTails cache.start history (tail_of tails) (kept_records journals kept) cache.start
  holds_tails kept = record {
    many = refl;
    blocks = λ block none. ap (λ (l : List Operation). slice_get (after cache.start l) block) (sym tails_cut.1);
  }

  -- all is found that was answered to be committed, and had made its calls
  module _ (i : ℕ) (c : CoreState D) (at : slice_get cores i ≡ Some c) (s : Span) (begins : s.from ≡ slice_index from i) (ends : s.to ≡ (view c.area.device).calls) (moment : ℕ) (there : slice_get moments (suc i) ≡ Some moment) where
    abbrev logged_here : HasLogged view (slice_index from i) tails i c history (records_of sealed i)
    logged_here = logged.each i c at

    runs : RunsAsTold (standing_at tails) played i c
    runs = stand i c at

    abbrev count : ℕ
    count = length (records_of journals i)

    few : count ≤ logged_here.keeps.commits + cond c.area.failed 1 0
    few = let low = found_few view cache from tails cores history sealed service logged moments images each i (slice_get_within cores i c at) in let many = logged_here.keeps.sealed in omega (arith, low, many)

    -- as many commits were answered as were made
    as_many : logged_here.keeps.commits ≡ commits_in played i
    as_many = by c.area.failed refl
      where
        by : (failed : Bool) → c.area.failed ≡ failed → logged_here.keeps.commits ≡ commits_in played i
        by false is =
            let a = logged_here.number in
            let b = runs.number is in
            let t = ap (λ (t : Tail). t.number) logged_here.tail in
            let many = logged_here.keeps.sealed in
            let none : cond {A = ℕ} c.area.failed 1 0 ≡ 0 = ap (λ (x : Bool). cond {A = ℕ} x 1 0) is in
            omega (arith, a, b, t, many, none)
        by true is =
            let a = logged_here.number in
            let b = runs.behind is in
            let t = ap (λ (t : Tail). t.number) logged_here.tail in
            let many = logged_here.keeps.sealed in
            let one : cond {A = ℕ} c.area.failed 1 0 ≡ 1 = ap (λ (x : Bool). cond {A = ℕ} x 1 0) is in
            omega (arith, a, b, t, many, one)

    most : (count ≤ commits_in played i) ⊎ ((fails_in played i ≡ true) × (count ≡ commits_in played i + 1))
    most = by c.area.failed refl
      where
        by : (failed : Bool) → c.area.failed ≡ failed → (count ≤ commits_in played i) ⊎ ((fails_in played i ≡ true) × (count ≡ commits_in played i + 1))
        by false is =
            let none : cond {A = ℕ} c.area.failed 1 0 ≡ 0 = ap (λ (x : Bool). cond {A = ℕ} x 1 0) is in
            inl (let a = few in let b = as_many in omega (arith, a, b, none))
        by true is =
            let one : cond {A = ℕ} c.area.failed 1 0 ≡ 1 = ap (λ (x : Bool). cond {A = ℕ} x 1 0) is in
            let a = few in
            let b = as_many in
            ⊎_elim
            (λ low. inl (omega (arith, low)))
            (λ high. inr (sym runs.failed ∙ is, omega (arith, a, b, one, high)))
            (cases_lt count (commits_in played i + 1))

    holds_committed : HoldsCommitted played i s moment count
    holds_committed = record {
      made = let a = logged_here.keeps.made in let b = as_many in omega (arith, a, b, begins, ends);
      at_most =
          let a = logged_here.keeps.at_most in
          let b = as_many in
          let many = logged_here.keeps.sealed in
          let told : cond {A = ℕ} c.area.failed 1 0 ≡ cond {A = ℕ} (fails_in played i) 1 0 = ap (λ (x : Bool). cond {A = ℕ} x 1 0) runs.failed in
          omega (arith, a, b, many, told, begins, ends);
      least = λ n low made. found_committed view cache from tails cores history sealed service logged moments images each i c at moment there n (let b = as_many in omega (arith, low, b)) (omega (arith, made, begins));
      most = most;
    }

  -- in the words of the spans
  committed : (i moment : ℕ) (s : Span) → i < length cores → slice_get spans i ≡ Some s → slice_get moments (suc i) ≡ Some moment → HoldsCommitted played i s moment (length (records_of journals i))
  committed i moment s low here there =
      let core = at_within cores i low in
      let c : CoreState D = core.0 in
      let told = there_and (λ (x : Span). (x.from ≡ slice_index from i) × (x.to ≡ (view c.area.device).calls)) (slice_get spans i) (are_spans i c core.1) in
      let same : s ≡ told.0 = some_is (sym here ∙ told.1) in
      holds_committed i c core.1 s (ap (λ (x : Span). x.from) same ∙ told.2.0) (ap (λ (x : Span). x.to) same ∙ told.2.1) moment there

  recovers_cut : RecoversCut cache.sizes tails cache.start tree calls replies played history (span ∷ spans) moments images
  recovers_cut = record {
    found = journals;
    many = found_many view cache from tails cores history sealed service logged moments images each ∙ service.many ∙ service.as_sizes;
    holds = λ core image low at. found_holds view cache from tails cores history sealed service logged moments images each core image (subst (λ n. core < n) (sym (service.many ∙ service.as_sizes)) low) (subst (λ n. slice_get images n ≡ Some image) (omega arith) at);
    transactions = frozen;
    committed = λ core moment s low here there.
        let next : core + 1 ≡ suc core = omega arith in
        committed core moment s (subst (λ n. core < n) (sym (service.many ∙ service.as_sizes)) low) (subst (λ n. slice_get (span ∷ spans) n ≡ Some s) next here) (subst (λ n. slice_get moments n ≡ Some moment) next there);
    home = cache.start;
    many_blocks = shows.shape.many;
    blocks = λ image at. home_holds (get_or moments 0 0) image (crash.each 0 home span (get_or moments 0 0) image refl refl (slice_get-get_or moments 0 0 (subst (λ n. 0 < n) (sym crash.all_moments) (omega arith))) at);
    recovers = λ kept is_kept.
        let r : Recovers cache.start history (tail_of tails) journals cache.start kept = cut_recovers cache.start (tail_of tails) history (tail_of tails) journals cache.start kept are_journals is_kept (holds_tails kept) in
        let run = cut_is_run cache.sizes cache.start tree (tail_of tails) history kept calls replies shows service.has.legal.legal logged.numbered r.consistent served in
        record {
          consistent = r.consistent;
          greatest = r.greatest;
          state = r.state;
          shows = run.1;
          replies_are = run.0;
        };
  }

pub round_recovers : CutRecovers → CutIsRun → FrontIsConsistent → NoneBelowFirst → (D : Type 0) → RoundRecovers D
round_recovers cut_recovers cut_is_run front_is_consistent none_below D view cache from tails cores history sealed home span spans tree calls replies played service logged stand are_spans shows served home_holds moments images crash =
    recovers_cut cut_recovers cut_is_run front_is_consistent none_below view cache from tails cores history sealed home span spans tree calls replies played service logged stand are_spans shows served home_holds moments images crash
