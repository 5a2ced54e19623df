-- The moments of devices, told one after the other.
use Rattle.std.proofs.Common.{◌≡◌, ◌⊎◌, zero, suc, ◌≢◌, ◌∙◌, ◌^◌, true, inl, inr, ℕ, ◌+◌, ◌<◌, ◌≤◌, List, [], ◌∷◌, length, map, replicate, take, set, refl, sym, ap, subst, arith, ◌-◌}
use Rattle.std.specs.Prelude.{Option, Some, None, IsSomeAnd, MatchOption, option_map, slice_get, slice_index}
use Rattle.std.proofs.lemmas.Bool.{cases_eq, cases_lt}
use Rattle.std.proofs.lemmas.List.{get_or-set_other, length-set, length-map, take-map}
use Rattle.std.proofs.lemmas.Simd.{map-map}
use Rattle.std.proofs.lemmas.Option.{get_or_from_slice_get, slice_get-map, slice_get_within}
use Rattle.zj_dev.specs.Crash.{LeavesIn}
use Rattle.zj_dev.specs.Disk.{Continues, DiskView, IsDisk}
use Rattle.zj_dev.proofs.DiskLaws.{continues_refl}
use Rattle.zj_area.specs.Journal.{AreaView}
use Rattle.zj_mount.specs.Settling.{AreSettled, Settles}
use Rattle.zj_mount.proofs.ScanLemmas.{set_there, set_elsewhere}
use Rattle.zj_dev.specs.declared.span.Span.{Span}
use Rattle.zj_cli.specs.declared.phase.Phase.{Phase}
use Rattle.zj_cli.specs.declared.phase.PhaseKind.TheVariants as kinds
use Rattle.zj_cli.specs.Phases.{AreDisks, AreMoments, AreOf, ArePhases, DevicesGoOn, EndsWith, HasRound, IsBetween, IsHomeQuietIn, IsPhaseOf, IsStillIn, spans_in}
use Rattle.zj_cli.proofs.SpellLemmas.{none_there}

-- the moments of home and of the first journals, so many
pub record AreMomentsTo {D : Type 0} (view : D → DiskView) (home : D) (areas : List (AreaView D)) (moments : List ℕ) (count : ℕ) : Type 0 where
  pub places : length moments ≡ 65
  pub home_is : slice_get moments 0 ≡ Some (view home).calls
  pub journals_are : (core : ℕ) (area : AreaView D) → core < count → slice_get areas core ≡ Some area → slice_get moments (core + 1) ≡ Some (view area.device).calls
  pub behind : (place : ℕ) → count < place → slice_index moments place ≡ 0
  pub disks : (core : ℕ) (area : AreaView D) → core < count → slice_get areas core ≡ Some area → IsDisk (view area.device)
  pub fits : (place moment : ℕ) → slice_get moments place ≡ Some moment → moment < 2 ^ 64

module _ {D : Type 0} (view : D → DiskView) (home : D) (areas : List (AreaView D)) where
  pub one_told : (moments : List ℕ) (calls : ℕ) → moments ≡ set (replicate 65 0) 0 calls → calls ≡ (view home).calls → calls < 2 ^ 64 → AreMomentsTo view home areas moments 0
  one_told moments calls are same small = subst (λ (ms : List ℕ). AreMomentsTo view home areas ms 0) (sym are) record {
    places = refl;
    home_is = ap Some same;
    journals_are = λ core area below. absurd (omega (arith, below));
    behind = λ place past. get_or-set_other (replicate 65 0) 0 place calls 0 (λ e. omega (arith, e, past)) ∙ zeros 65 place;
    disks = λ core area below. absurd (omega (arith, below));
    fits = small_at;
  }
    where
      zero_at : (n k moment : ℕ) → slice_get (replicate n 0) k ≡ Some moment → moment < 2 ^ 64
      zero_at zero k moment here = cc
      zero_at (suc n) zero moment here = let e : 0 ≡ moment = cc in omega (arith, e)
      zero_at (suc n) (suc k) moment here = zero_at n k moment here

      small_at : (place moment : ℕ) → slice_get (set (replicate 65 0) 0 calls) place ≡ Some moment → moment < 2 ^ 64
      small_at zero moment here = let e : calls ≡ moment = cc in omega (arith, e, small)
      small_at (suc k) moment here = zero_at 64 k moment here

      zeros : (n k : ℕ) → slice_index (replicate n 0) k ≡ 0
      zeros zero k = refl
      zeros (suc n) zero = refl
      zeros (suc n) (suc k) = zeros n k

  pub one_more_told : (moments : List ℕ) (core calls : ℕ) (area : AreaView D) → core < 64 → slice_get areas core ≡ Some area → calls ≡ (view area.device).calls → IsDisk (view area.device) → calls < 2 ^ 64
      → AreMomentsTo view home areas moments core → AreMomentsTo view home areas (set moments (core + 1) calls) (core + 1)
  one_more_told moments core calls area few here same is_disk small told = record {
    places = length-set moments (core + 1) calls ∙ told.places;
    home_is = set_elsewhere moments (core + 1) 0 calls (λ e. omega (arith, e)) ∙ told.home_is;
    journals_are = λ k a below at. by k a below at (cases_eq k core);
    behind = λ place past. get_or-set_other moments (core + 1) place calls 0 (λ e. omega (arith, e, past)) ∙ told.behind place (omega (arith, past));
    disks = λ k a below at. disk_at k a below at (cases_eq k core);
    fits = λ place moment at. small_at place moment at (cases_eq place (core + 1));
  }
    where
      small_at : (place moment : ℕ) → slice_get (set moments (core + 1) calls) place ≡ Some moment → (place ≡ core + 1) ⊎ (place ≢ core + 1) → moment < 2 ^ 64
      small_at place moment at (inl e) =
          let there = set_there moments (core + 1) calls (let places = told.places in omega (arith, places, few)) in
          let one : calls ≡ moment = (let at' = rw e at at in let e' : Some calls ≡ Some moment = sym there ∙ at' in cc) in
          omega (arith, one, small)
      small_at place moment at (inr ne) = told.fits place moment (sym (set_elsewhere moments (core + 1) place calls ne) ∙ at)

      other : (k : ℕ) → k < core + 1 → k ≢ core → k < core
      other k below ne = omega (arith, below, ne)

      disk_at : (k : ℕ) (a : AreaView D) → k < core + 1 → slice_get areas k ≡ Some a → (k ≡ core) ⊎ (k ≢ core) → IsDisk (view a.device)
      disk_at k a below at (inl e) = let one : area ≡ a = cc (at, here, e) in subst (λ (x : AreaView D). IsDisk (view x.device)) one is_disk
      disk_at k a below at (inr ne) = told.disks k a (other k below ne) at

      by : (k : ℕ) (a : AreaView D) → k < core + 1 → slice_get areas k ≡ Some a → (k ≡ core) ⊎ (k ≢ core) → slice_get (set moments (core + 1) calls) (k + 1) ≡ Some (view a.device).calls
      by k a below at (inl e) =
          let one : a ≡ area = cc (at, here, e) in
          subst (λ (j : ℕ). slice_get (set moments (core + 1) calls) (j + 1) ≡ Some (view a.device).calls) (sym e)
          (set_there moments (core + 1) calls (let places = told.places in omega (arith, places, few)) ∙ ap Some (same ∙ ap (λ (x : AreaView D). (view x.device).calls) (sym one)))
      by k a below at (inr ne) = set_elsewhere moments (core + 1) (k + 1) calls (λ e. ne (omega (arith, e))) ∙ told.journals_are k a (other k below ne) at

  pub all_told : (moments : List ℕ) (count : ℕ) → count ≡ length areas → AreMomentsTo view home areas moments count → AreMoments view home (map (λ (a : AreaView D). a.device) areas) moments
  all_told moments count all told = record {
    places = told.places;
    home_is = told.home_is;
    journals_are = λ core d at. by core d (slice_get areas core) refl (sym (slice_get-map (λ (a : AreaView D). a.device) areas core) ∙ at);
    behind = λ place past. told.behind place (omega (arith, past, all, length-map areas (λ (a : AreaView D). a.device)));
  }
    where
      by : (core : ℕ) (d : D) (o : Option (AreaView D)) → slice_get areas core ≡ o → option_map (λ (a : AreaView D). a.device) o ≡ Some d → slice_get moments (core + 1) ≡ Some (view d).calls
      by core d None here at = cc
      by core d (Some a) here at = told.journals_are core a (omega (arith, slice_get_within areas core a here, all)) here ∙ ap (λ (o : Option D). unwrap o) at
        where
          unwrap : Option D → Option ℕ
          unwrap None = None
          unwrap (Some x) = Some (view x).calls

  pub all_disks : (moments : List ℕ) (count : ℕ) → count ≡ length areas → AreMomentsTo view home areas moments count → AreDisks view areas
  all_disks moments count all told core area here = told.disks core area (omega (arith, slice_get_within areas core area here, all)) here

-- ---- lists

pub same_lists : {X : Type 0} (xs ys : List X) → ((k : ℕ) → slice_get xs k ≡ slice_get ys k) → xs ≡ ys
same_lists [] [] same = refl
same_lists [] (y ∷ ys) same = absurd (let e = same 0 in cc)
same_lists (x ∷ xs) [] same = absurd (let e = same 0 in cc)
same_lists {X = X} (x ∷ xs) (y ∷ ys) same = let one : x ≡ y = (let e = same 0 in cc) in ap (λ (z : X). z ∷ xs) one ∙ ap (λ (zs : List X). y ∷ zs) (same_lists xs ys (λ k. same (suc k)))

in_take : {X : Type 0} (n : ℕ) (xs : List X) (k : ℕ) → k < n → slice_get (take n xs) k ≡ slice_get xs k
in_take zero xs k lt = absurd (omega (arith, lt))
in_take (suc n) [] k lt = refl
in_take (suc n) (x ∷ xs) zero lt = refl
in_take (suc n) (x ∷ xs) (suc k) lt = in_take n xs k (omega (arith, lt))

past_take : {X : Type 0} (n : ℕ) (xs : List X) (k : ℕ) → n ≤ k → slice_get (take n xs) k ≡ None
past_take zero [] k le = refl
past_take zero (x ∷ xs) k le = refl
past_take (suc n) [] k le = refl
past_take (suc n) (x ∷ xs) zero le = absurd (omega (arith, le))
past_take (suc n) (x ∷ xs) (suc k) le = past_take n xs k (omega (arith, le))

-- what stands in a front stands in the list
pub of_take : {X : Type 0} (n : ℕ) (xs : List X) (k : ℕ) (x : X) → slice_get (take n xs) k ≡ Some x → slice_get xs k ≡ Some x
of_take n xs k x here = by (cases_lt k n)
  where
    by : (k < n) ⊎ (n ≤ k) → slice_get xs k ≡ Some x
    by (inl lt) = sym (in_take n xs k lt) ∙ here
    by (inr le) = absurd (let e = past_take n xs k le in cc)

-- ---- the moments of a phase

module _ {D : Type 0} (view : D → DiskView) (d : D) (areas : List (AreaView D)) (moments : List ℕ) (told : AreMoments view d (map (λ (a : AreaView D). a.device) areas) moments) where
  pub at_core : (core : ℕ) (a : AreaView D) → slice_get areas core ≡ Some a → slice_get moments (core + 1) ≡ Some (view a.device).calls
  at_core core a here = told.journals_are core a.device (slice_get-map (λ (a : AreaView D). a.device) areas core ∙ ap (option_map (λ (a : AreaView D). a.device)) here)

  pub told_calls : (count : ℕ) → count ≡ length areas + 1 → take count moments ≡ (view d).calls ∷ map (λ (a : AreaView D). (view a.device).calls) areas
  told_calls count many = same_lists (take count moments) ((view d).calls ∷ map (λ (a : AreaView D). (view a.device).calls) areas) at
    where
      one : (k : ℕ) (o : Option (AreaView D)) → slice_get areas k ≡ o → slice_get (take count moments) (suc k) ≡ option_map (λ (a : AreaView D). (view a.device).calls) o
      one k None here = past_take count moments (suc k) (by (cases_lt k (length areas)))
        where
          by : (k < length areas) ⊎ (length areas ≤ k) → count ≤ suc k
          by (inl lt) = absurd (none_there areas k lt here)
          by (inr le) = omega (arith, le, many)
      one k (Some a) here =
          let next : k + 1 ≡ suc k = omega arith in
          in_take count moments (suc k) (omega (arith, many, slice_get_within areas k a here)) ∙ subst (λ (n : ℕ). slice_get moments n ≡ Some (view a.device).calls) next (at_core k a here)

      at : (k : ℕ) → slice_get (take count moments) k ≡ slice_get ((view d).calls ∷ map (λ (a : AreaView D). (view a.device).calls) areas) k
      at zero = in_take count moments 0 (omega (arith, many)) ∙ told.home_is
      at (suc k) = one k (slice_get areas k) refl ∙ sym (slice_get-map (λ (a : AreaView D). (view a.device).calls) areas k)

module _ (phase : Phase) (from to : List ℕ) (between : IsBetween from to phase) where
  pub from_at : (place : ℕ) (span : Span) (moment : ℕ) → slice_get phase.spans place ≡ Some span → slice_get from place ≡ Some moment → span.from ≡ moment
  from_at place span moment here is =
      let e : Some span.from ≡ Some moment = sym (slice_get-map (λ (s : Span). s.from) phase.spans place ∙ ap (option_map (λ (s : Span). s.from)) here) ∙ ap (λ (ms : List ℕ). slice_get ms place) between.froms ∙ is in
      cc

  pub to_at : (place : ℕ) (span : Span) (moment : ℕ) → slice_get phase.spans place ≡ Some span → slice_get to place ≡ Some moment → span.to ≡ moment
  to_at place span moment here is =
      let e : Some span.to ≡ Some moment = sym (slice_get-map (λ (s : Span). s.to) phase.spans place ∙ ap (option_map (λ (s : Span). s.to)) here) ∙ ap (λ (ms : List ℕ). slice_get ms place) between.tos ∙ is in
      cc

  -- it is of a home and as many journals as there were moments
  pub phase_of : {D : Type 0} (view : D → DiskView) (cores : ℕ) (d d' : D) (areas areas' : List (AreaView D)) → phase.devices ≡ length areas + 1 → length areas ≡ cores → length areas' ≡ cores → Continues (view d) (view d') → DevicesGoOn view areas areas'
      → AreMoments view d (map (λ (a : AreaView D). a.device) areas) from → AreMoments view d' (map (λ (a : AreaView D). a.device) areas') to → IsPhaseOf cores phase
  phase_of {D = D} view cores d d' areas areas' devices many many' home_on on first last = record {
    devices = omega (arith, devices, many);
    forward = forward;
    places = sym (length-map phase.spans (λ (s : Span). s.from)) ∙ ap length between.froms ∙ first.places;
    behind = λ place span past here.
        let few : length (map (λ (a : AreaView D). a.device) areas) ≡ length areas = length-map areas (λ (a : AreaView D). a.device) in
        let few' : length (map (λ (a : AreaView D). a.device) areas') ≡ length areas' = length-map areas' (λ (a : AreaView D). a.device) in
        let zero_from : span.from ≡ 0 = sym (get_or_from_slice_get from place span.from 0 (sym (ap (λ (ms : List ℕ). slice_get ms place) between.froms) ∙ slice_get-map (λ (s : Span). s.from) phase.spans place ∙ ap (option_map (λ (s : Span). s.from)) here)) ∙ first.behind place (omega (arith, past, few, many)) in
        let zero_to : span.to ≡ 0 = sym (get_or_from_slice_get to place span.to 0 (sym (ap (λ (ms : List ℕ). slice_get ms place) between.tos) ∙ slice_get-map (λ (s : Span). s.to) phase.spans place ∙ ap (option_map (λ (s : Span). s.to)) here)) ∙ last.behind place (omega (arith, past, few', many')) in
        (λ i. record { from = zero_from i; to = zero_to i });
  }
    where
      forward : (place : ℕ) (span : Span) → slice_get phase.spans place ≡ Some span → span.from ≤ span.to
      forward zero span here =
          let begins : span.from ≡ (view d).calls = from_at 0 span (view d).calls here first.home_is in
          let ends : span.to ≡ (view d').calls = to_at 0 span (view d').calls here last.home_is in
          let up = home_on.calls in
          omega (arith, begins, ends, up)
      forward (suc core) span here = by (slice_get areas core) (slice_get areas' core) refl refl (on core)
        where
          there : slice_get phase.spans (core + 1) ≡ Some span
          there = subst (λ (k : ℕ). slice_get phase.spans k ≡ Some span) (omega arith) here

          by : (o o' : Option (AreaView D)) → slice_get areas core ≡ o → slice_get areas' core ≡ o' → MatchOption o (o' ≡ None) (λ a. IsSomeAnd o' (λ b. Continues (view a.device) (view b.device))) → span.from ≤ span.to
          by None o' e e' goes =
              let few : length (map (λ (a : AreaView D). a.device) areas) ≡ length areas = length-map areas (λ (a : AreaView D). a.device) in
              let past : length areas ≤ core = none_past (cases_lt core (length areas)) in
              let zero_from : span.from ≡ 0 = sym (get_or_from_slice_get from (suc core) span.from 0 (sym (ap (λ (ms : List ℕ). slice_get ms (suc core)) between.froms) ∙ slice_get-map (λ (s : Span). s.from) phase.spans (suc core) ∙ ap (option_map (λ (s : Span). s.from)) here)) ∙ first.behind (suc core) (omega (arith, past, few)) in
              omega (arith, zero_from)
            where
              none_past : (core < length areas) ⊎ (length areas ≤ core) → length areas ≤ core
              none_past (inl lt) = absurd (none_there areas core lt e)
              none_past (inr le) = le
          by (Some a) None e e' goes = absurd goes
          by (Some a) (Some b) e e' goes =
              let begins : span.from ≡ (view a.device).calls = from_at (core + 1) span (view a.device).calls there (at_core view d areas from first core a e) in
              let ends : span.to ≡ (view b.device).calls = to_at (core + 1) span (view b.device).calls there (at_core view d' areas' to last core b e') in
              let up = goes.calls in
              omega (arith, begins, ends, up)

  -- it ends as the disks were told last
  pub ends_with : {D : Type 0} (view : D → DiskView) (d : D) (areas : List (AreaView D)) → phase.devices ≡ length areas + 1 → AreMoments view d (map (λ (a : AreaView D). a.device) areas) to
      → (disks : List DiskView) → AreOf view d areas disks → EndsWith phase disks
  ends_with {D = D} view d areas devices last disks are =
      sym (take-map (λ (s : Span). s.to) phase.devices phase.spans) ∙ ap (take phase.devices) between.tos ∙ told_calls view d areas to last phase.devices devices
      ∙ sym (ap (λ (cs : List ℕ). (view d).calls ∷ cs) (map-map (λ (x : DiskView). x.calls) (λ (a : AreaView D). view a.device) areas)) ∙ sym (ap (map (λ (x : DiskView). x.calls)) are)

  pub begins_with : {D : Type 0} (view : D → DiskView) (d : D) (areas : List (AreaView D)) → phase.devices ≡ length areas + 1 → AreMoments view d (map (λ (a : AreaView D). a.device) areas) from
      → map (λ (s : Span). s.from) (spans_in phase) ≡ map (λ (x : DiskView). x.calls) (view d ∷ map (λ (a : AreaView D). view a.device) areas)
  begins_with {D = D} view d areas devices first =
      sym (take-map (λ (s : Span). s.from) phase.devices phase.spans) ∙ ap (take phase.devices) between.froms ∙ told_calls view d areas from first phase.devices devices
      ∙ sym (ap (λ (cs : List ℕ). (view d).calls ∷ cs) (map-map (λ (x : DiskView). x.calls) (λ (a : AreaView D). view a.device) areas))

-- ---- nothing is written in a mount

-- what a crash leaves of a device in the span in which it was settled, it might leave as that began
still : (a b c : DiskView) (moment : ℕ) (image : List ℕ) → Settles a b → Continues b c → b.calls < 2 ^ 64 → a.calls ≤ moment → moment ≤ b.calls → moment < 2 ^ 64 - 1 → c.may_leave moment image ≡ true → c.may_leave a.calls image ≡ true
still a b c moment image settles goes_on counted from to soon may = by (cases_lt a.calls b.calls)
  where
    -- the image might be left as the span began, and still might
    began : a.calls < b.calls → b.may_leave moment image ≡ true → c.may_leave a.calls image ≡ true
    began less then =
        goes_on.images a.calls image less ∙ settles.goes_on.here image (omega (arith, less, counted)) ∙ settles.stays moment image from to then

    last : a.calls < b.calls → (moment < b.calls) ⊎ (b.calls ≤ moment) → c.may_leave a.calls image ≡ true
    last less (inl before) = began less (sym (goes_on.images moment image before) ∙ may)
    last less (inr le) =
        let here : moment ≡ b.calls = omega (arith, le, to) in
        let may_here : c.may_leave b.calls image ≡ true = subst (λ (m : ℕ). c.may_leave m image ≡ true) here may in
        ends less here may_here (cases_lt b.calls 18446744073709551615)
      where
        ends : a.calls < b.calls → moment ≡ b.calls → c.may_leave b.calls image ≡ true → (b.calls < 18446744073709551615) ⊎ (18446744073709551615 ≤ b.calls) → c.may_leave a.calls image ≡ true
        ends less here may_here (inl early) = began less (subst (λ (m : ℕ). b.may_leave m image ≡ true) (sym here) (sym (goes_on.here image (omega (arith, early))) ∙ may_here))
        ends less here may_here (inr late) = absurd (omega (arith, late, here, soon))

    by : (a.calls < b.calls) ⊎ (b.calls ≤ a.calls) → c.may_leave a.calls image ≡ true
    by (inl less) = last less (cases_lt moment b.calls)
    by (inr le) = let here : moment ≡ a.calls = omega (arith, le, from, to) in subst (λ (m : ℕ). c.may_leave m image ≡ true) here may

module _ {D : Type 0} (view : D → DiskView) (phase : Phase) (from to : List ℕ) (between : IsBetween from to phase) (d0 d1 d2 : D) (areas0 areas1 areas2 : List (AreaView D))
    (first : AreMoments view d0 (map (λ (a : AreaView D). a.device) areas0) from) (last : AreMoments view d1 (map (λ (a : AreaView D). a.device) areas1) to)
    (home : Settles (view d0) (view d1)) (home_on : Continues (view d1) (view d2)) (settled : AreSettled view areas0 areas1) (goes_on : DevicesGoOn view areas1 areas2)
    (counted : (place moment : ℕ) → slice_get to place ≡ Some moment → moment < 2 ^ 64) where
  still_home : (moment : ℕ) (span : Span) (image : List ℕ) → slice_get phase.spans 0 ≡ Some span → LeavesIn (view d2) span moment image → moment < 2 ^ 64 - 1 → (view d2).may_leave span.from image ≡ true
  still_home moment span image here leaves soon =
      let begins : span.from ≡ (view d0).calls = from_at phase from to between 0 span (view d0).calls here first.home_is in
      let ends : span.to ≡ (view d1).calls = to_at phase from to between 0 span (view d1).calls here last.home_is in
      subst (λ (m : ℕ). (view d2).may_leave m image ≡ true) (sym begins)
      (still (view d0) (view d1) (view d2) moment image home home_on (counted 0 (view d1).calls last.home_is) (subst (λ (m : ℕ). m ≤ moment) begins leaves.not_before) (subst (λ (m : ℕ). moment ≤ m) ends leaves.not_after) soon leaves.left)

  still_journal : (core moment : ℕ) (span : Span) (image : List ℕ) (c : AreaView D) → slice_get areas2 core ≡ Some c → slice_get phase.spans (core + 1) ≡ Some span → LeavesIn (view c.device) span moment image → moment < 2 ^ 64 - 1 → (view c.device).may_leave span.from image ≡ true
  still_journal core moment span image c there here leaves soon = by (slice_get areas0 core) (slice_get areas1 core) refl refl (settled core) (goes_on core)
    where
      by : (o o' : Option (AreaView D)) → slice_get areas0 core ≡ o → slice_get areas1 core ≡ o' → MatchOption o (o' ≡ None) (λ a. IsSomeAnd o' (λ b. Settles (view a.device) (view b.device)))
          → MatchOption o' (slice_get areas2 core ≡ None) (λ a. IsSomeAnd (slice_get areas2 core) (λ b. Continues (view a.device) (view b.device))) → (view c.device).may_leave span.from image ≡ true
      by None None e e' same on = absurd (let none : slice_get areas2 core ≡ None = on in cc)
      by None (Some b) e e' same on = cc
      by (Some a) None e e' same on = absurd same
      by (Some a) (Some b) e e' settles on =
          let on_c : Continues (view b.device) (view c.device) = rw there at on in
          let first_is = at_core view d0 areas0 from first core a e in
          let last_is = at_core view d1 areas1 to last core b e' in
          let begins : span.from ≡ (view a.device).calls = from_at phase from to between (core + 1) span (view a.device).calls here first_is in
          let ends : span.to ≡ (view b.device).calls = to_at phase from to between (core + 1) span (view b.device).calls here last_is in
          subst (λ (m : ℕ). (view c.device).may_leave m image ≡ true) (sym begins)
          (still (view a.device) (view b.device) (view c.device) moment image settles on_c (counted (core + 1) (view b.device).calls last_is) (subst (λ (m : ℕ). m ≤ moment) begins leaves.not_before)
          (subst (λ (m : ℕ). moment ≤ m) ends leaves.not_after) soon leaves.left)

  pub still_in : (disks : List DiskView) → AreOf view d2 areas2 disks → IsStillIn phase disks
  still_in disks are place moment disk span image there here leaves soon = by place (sym (ap (λ (ds : List DiskView). slice_get ds place) are) ∙ there) (of_take phase.devices phase.spans place span here)
    where
      at : (core : ℕ) (o : Option (AreaView D)) → slice_get areas2 core ≡ o → option_map (λ (a : AreaView D). view a.device) o ≡ Some disk → slice_get phase.spans (core + 1) ≡ Some span → disk.may_leave span.from image ≡ true
      at core None e is span_here = cc
      at core (Some c) e is span_here =
          let same : view c.device ≡ disk = cc in
          subst (λ (x : DiskView). x.may_leave span.from image ≡ true) same (still_journal core moment span image c e span_here (subst (λ (x : DiskView). LeavesIn x span moment image) (sym same) leaves) soon)

      by : (k : ℕ) → slice_get (view d2 ∷ map (λ (a : AreaView D). view a.device) areas2) k ≡ Some disk → slice_get phase.spans k ≡ Some span → disk.may_leave span.from image ≡ true
      by zero is span_here =
          let same : view d2 ≡ disk = (let e : Some (view d2) ≡ Some disk = is in cc) in
          subst (λ (x : DiskView). x.may_leave span.from image ≡ true) same (still_home moment span image span_here (subst (λ (x : DiskView). LeavesIn x span moment image) (sym same) leaves) soon)
      by (suc core) is span_here =
          let next : suc core ≡ core + 1 = omega arith in
          at core (slice_get areas2 core) refl (sym (slice_get-map (λ (a : AreaView D). view a.device) areas2 core) ∙ is) (subst (λ (k : ℕ). slice_get phase.spans k ≡ Some span) next span_here)

-- ---- home makes no call in a round

pub home_quiet : {D : Type 0} (view : D → DiskView) (phase : Phase) (from to : List ℕ) (d : D) (areas areas' : List (AreaView D)) → IsBetween from to phase
    → AreMoments view d (map (λ (a : AreaView D). a.device) areas) from → AreMoments view d (map (λ (a : AreaView D). a.device) areas') to → (disks : List DiskView) → IsHomeQuietIn phase disks
home_quiet view phase from to d areas areas' between first last disks home span is here moment image before after =
    let span_here = of_take phase.devices phase.spans 0 span here in
    let begins : span.from ≡ (view d).calls = from_at phase from to between 0 span (view d).calls span_here first.home_is in
    let ends : span.to ≡ (view d).calls = to_at phase from to between 0 span (view d).calls span_here last.home_is in
    let one : moment ≡ span.from = omega (arith, begins, ends, before, after) in
    ap (λ (m : ℕ). home.may_leave m image) one

-- ---- the phases of a call

-- devices that were settled go on
pub settled_on : {D : Type 0} (view : D → DiskView) (old new : List (AreaView D)) → AreSettled view old new → DevicesGoOn view old new
settled_on {D = D} view old new settled core = one (slice_get old core) (slice_get new core) (settled core)
  where
    one : (o o' : Option (AreaView D)) → MatchOption o (o' ≡ None) (λ a. IsSomeAnd o' (λ b. Settles (view a.device) (view b.device))) → MatchOption o (o' ≡ None) (λ a. IsSomeAnd o' (λ b. Continues (view a.device) (view b.device)))
    one None o' is = is
    one (Some a) None is = absurd is
    one (Some a) (Some b) is = is.goes_on

on_same : {D : Type 0} (view : D → DiskView) (areas : List (AreaView D)) → DevicesGoOn view areas areas
on_same {D = D} view areas core = one (slice_get areas core)
  where
    one : (o : Option (AreaView D)) → MatchOption o (o ≡ None) (λ a. IsSomeAnd o (λ b. Continues (view a.device) (view b.device)))
    one None = refl
    one (Some a) = continues_refl (view a.device)

module _ {D : Type 0} (view : D → DiskView) (cores : ℕ) (phases : List Phase) (mount : Phase) (opened ready : List ℕ) (d0 d1 : D) (areas0 areas1 : List (AreaView D)) (kind : mount.kind ≡ kinds.Mount) (devices : mount.devices ≡ length areas0 + 1)
    (between : IsBetween opened ready mount) (first : AreMoments view d0 (map (λ (a : AreaView D). a.device) areas0) opened) (last : AreMoments view d1 (map (λ (a : AreaView D). a.device) areas1) ready)
    (home : Settles (view d0) (view d1)) (settled : AreSettled view areas0 areas1) (counted : (place moment : ℕ) → slice_get ready place ≡ Some moment → moment < 2 ^ 64) (many : length areas0 ≡ cores) (many' : length areas1 ≡ cores) where
  mount_is : IsPhaseOf cores mount
  mount_is = phase_of mount opened ready between view cores d0 d1 areas0 areas1 devices many many' home.goes_on (settled_on view areas0 areas1 settled) first last

  pub one_phase : phases ≡ mount ∷ [] → ArePhases cores (AreOf view d1 areas1) phases
  one_phase is = subst (ArePhases cores (AreOf view d1 areas1)) (sym is) (
    kind,
    mount_is,
    λ disks are. (
      still_in view mount opened ready between d0 d1 d1 areas0 areas1 areas1 first last home (continues_refl (view d1)) settled (on_same view areas1) counted disks are,
      ends_with mount opened ready between view d1 areas1 (omega (arith, devices, many, many')) last disks are,
    ),
  )

  pub two_phases : (round : Phase) (ended : List ℕ) (areas2 : List (AreaView D)) → phases ≡ mount ∷ round ∷ [] → round.kind ≡ kinds.Round → round.devices ≡ length areas0 + 1 → IsBetween ready ended round
      → AreMoments view d1 (map (λ (a : AreaView D). a.device) areas2) ended → DevicesGoOn view areas1 areas2 → length areas2 ≡ cores → ArePhases cores (AreOf view d1 areas2) phases
  two_phases round ended areas2 is round_kind round_devices behind final on many2 = subst (ArePhases cores (AreOf view d1 areas2)) (sym is) (
    kind,
    round_kind,
    mount_is,
    phase_of round ready ended behind view cores d1 d1 areas1 areas2 (omega (arith, round_devices, many, many')) many' many2 (continues_refl (view d1)) on last final,
    behind.froms ∙ sym between.tos,
    λ disks are. (
      still_in view mount opened ready between d0 d1 d1 areas0 areas1 areas2 first last home (continues_refl (view d1)) settled on counted disks are,
      home_quiet view round ready ended d1 areas1 areas2 behind last final disks,
      ends_with round ready ended behind view d1 areas2 (omega (arith, round_devices, many, many2)) final disks are,
    ),
  )

-- ---- which the phases are

pub first_is : (items : List Phase) (p first : Phase) (rest later : List Phase) → items ≡ p ∷ rest → items ≡ first ∷ later → p ≡ first
first_is items p first rest later is told = let same : p ∷ rest ≡ first ∷ later = sym is ∙ told in cc

pub no_round : (items : List Phase) (p : Phase) (spans : List Span) → items ≡ p ∷ [] → HasRound items spans → ⊥
no_round items p spans is has = absurd (omega (arith, ap length is, ap length has.2))

pub round_is : (items : List Phase) (p q : Phase) (spans : List Span) → items ≡ p ∷ q ∷ [] → HasRound items spans → spans_in q ≡ spans
round_is items p q spans is has =
    let same : p ∷ q ∷ [] ≡ has.0 ∷ has.1 ∷ [] = sym is ∙ has.2 in
    let second : q ≡ has.1 = cc in
    ap spans_in second ∙ sym has.3
