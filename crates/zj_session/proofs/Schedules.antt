-- Lines that are played one after the other: the cores and the answers behind some of them.
use Rattle.std.proofs.Common.{◌≡◌, ℕ, ◌+◌, ◌-◌, ◌<◌, is_some, true≢false, List, [], ◌∷◌, ◌++◌, length, map, get_or, take, Some, None, slice_get, append-nil, append_assoc, refl, sym, ap, ◌∙◌, subst, arith}
use Rattle.std.specs.FinMap as finmap
use Rattle.std.specs.Ordering.{nat_cmp}
use Rattle.std.specs.List.{All}
use Rattle.std.proofs.lemmas.List.{map-append, take_more}
use Rattle.zj_closure.specs.Found.{Journals}
use Rattle.zj_dev.specs.Disk.{DiskView}
use Rattle.zj_history.specs.Operation.{Operation}
use Rattle.zj_layout.proofs.Follow.{none_some}
use Rattle.zj_script.specs.declared.answer.Answer.{Answer}
use Rattle.zj_script.specs.declared.answer.Form.{Form}
use Rattle.zj_script.specs.declared.line.Line.{Line}
use Rattle.zj_turns.specs.Views.{Hold}
use Rattle.zj_turns.specs.Passes.{CacheParameters, mine}
use Rattle.zj_core.specs.Core.{CoreState, IsSteady}
use Rattle.zj_core.specs.Handle.{entries_held}
use Rattle.zj_session.specs.Answering.{IsAnswered}
use Rattle.zj_session.specs.Crashes.{AreLogged, StandAsTold}
use Rattle.zj_session.specs.Laws.{LogFitsFurther, LogsAreRight}
use Rattle.zj_session.specs.Logging.{FitsLog}
use Rattle.zj_session.specs.Played.{Fit, Played}
use Rattle.zj_session.specs.Playing.{AreIdle, FaultsRose, HasPast, JournalsGoOn, Past, PlaysLines, ServiceState, answer_of, journals_of, resting}
use Rattle.zj_session.specs.Service.{AreTogether, IsService, IsServing}
use Rattle.zj_session.proofs.Contents.{none_its}
use Rattle.zj_session.proofs.Devices.{go_on_same, go_on_then}
use Rattle.zj_session.proofs.Handles.{fits_further, fits_none}
use Rattle.zj_session.proofs.Lists.{at_all, set_here}
use Rattle.zj_session.proofs.Logged.{logged_rest, rose_line, rose_rest, stand_rest}
use Rattle.zj_session.proofs.Onward.{HaveLeft, answered_left, answered_together}
use Rattle.zj_session.proofs.Resting.{rest_serves}
use Rattle.zj_session.proofs.Right.{answers_are_right}

-- a service of these cores
abbrev pub service_of : {D : Type 0} → CacheParameters → List (CoreState D) → ServiceState D
service_of cache cores = record { cache = cache; cores = cores }

-- Lines were played from a past on, and answered so: the cores serve calls then, and one history fits them and what the cores have logged.
pub record HasPlayed {D : Type 0} (view : D → DiskView) (cache : CacheParameters) (first cores : List (CoreState D)) (past : Past) (done : List Line) (old new : List Answer) : Type 0 where
  pub played : List Played
  pub later : List Operation
  pub sealed : Journals
  pub lines_are : map (λ p. p.0) played ≡ done
  pub answers_are : new ≡ old ++ map answer_of played
  pub serving : IsServing cache cores played later
  pub fit : Fit cache.sizes cache.start past.history played later
  pub fits_log : FitsLog cache.sizes past.tails cache.start past.history past.standing played later
  pub logged : AreLogged view past.from past.tails cores later sealed
  pub stand : StandAsTold past.standing played cores
  pub rose : FaultsRose view first cores played

-- Behind some lines, where so many are left: the cores are together, with their journals, and have a draw for each line that is left;
-- and whatever the past was, the lines were played from there on.
pub record IsPlaying {D : Type 0} (view : D → DiskView) (cache : CacheParameters) (first cores : List (CoreState D)) (lines : ℕ) (done : List Line) (old new : List Answer) : Type 0 where
  pub together : AreTogether cache cores
  pub journals : JournalsGoOn view (journals_of first) (journals_of cores)
  pub left : HaveLeft lines cores
  pub plays : (past : Past) → HasPast view (service_of cache first) past → HasPlayed view cache first cores past done old new

-- ---- before the first line

-- a service that rests has no handle that lines tell
pub serves_first : {D : Type 0} (cache : CacheParameters) (cores : List (CoreState D)) (history : List Operation) → AreIdle cores → IsService cache cores history → IsServing cache cores [] history
serves_first {D} cache cores history idle service = record {
  service = service;
  told = λ i c there.
      let none : c.begun ≡ None = at_all (λ (x : CoreState D). x.begun ≡ None) cores idle i c there in
      let steady : IsSteady c = at_all IsSteady cores service.steady i c there in
      record {
        begun = none;
        blocks = [];
        its = none_its c.sizes (entries_held (mine c.pass)) None refl refl;
        held = λ b. ap is_some (ap (λ (m : finmap.FinMap nat_cmp Hold). finmap.get m b) (steady.idle none) ∙ finmap.get-empty {X = Hold} nat_cmp b);
      };
  absent = λ i none. refl;
}

pub plays_first : {D : Type 0} (view : D → DiskView) (cache : CacheParameters) (cores : List (CoreState D)) (lines : ℕ) (old : List Answer) → AreTogether cache cores → AreIdle cores → HaveLeft lines cores → IsPlaying view cache cores cores lines [] old old
plays_first view cache cores lines old together idle left = record {
  together = together;
  journals = go_on_same view (journals_of cores);
  left = left;
  plays = λ past before. record {
    played = [];
    later = past.history;
    sealed = past.sealed;
    lines_are = refl;
    answers_are = sym (append-nil old);
    serving = serves_first cache cores past.history idle before.serves;
    fit = fits_none cache.sizes cache.start past.history before.serves.has.legal.legal;
    fits_log = record { each = λ k p none. absurd (none_some none) };
    logged = before.logged;
    stand = before.stand;
    rose = λ i a b at here none. absurd (true≢false (sym none));
  };
}

-- ---- one line more

pub plays_line : {D : Type 0} → LogsAreRight D → LogFitsFurther → (view : D → DiskView) (cache : CacheParameters) (first cores after : List (CoreState D)) (lines : ℕ) (done : List Line) (old new : List Answer) (at : ℕ) (line : Line) (form : Form)
    → line.core ≡ Some at → IsPlaying view cache first cores (lines + 1) done old new → IsAnswered view cache cores after at line.act form → ((core : CoreState D) → slice_get after at ≡ Some core → IsSteady core)
    → JournalsGoOn view (journals_of cores) (journals_of after) → IsPlaying view cache first after lines (done ++ line ∷ []) old (new ++ answer_of (line, form) ∷ [])
plays_line {D} logs log_fits view cache first cores after lines done old new at line form on so_far answered steady onward = record {
  together = answered_together view cache cores after at line.act form so_far.together answered;
  journals = go_on_then view (journals_of first) (journals_of cores) (journals_of after) so_far.journals onward;
  left = answered_left view cache cores after at line.act form so_far.together answered lines so_far.left;
  plays = λ past before. more past (so_far.plays past before);
}
  where
    there : (core : CoreState D) × (slice_get after at ≡ Some core)
    there = (_, ap (λ l. slice_get l at) answered.cores ∙ set_here cores at answered.core _ answered.at_place)

    more : (past : Past) → HasPlayed view cache first cores past done old new → HasPlayed view cache first after past (done ++ line ∷ []) old (new ++ answer_of (line, form) ∷ [])
    more past was =
        let step = answers_are_right D view cache cores after was.played was.later at line form there.0 was.serving on there.1 (steady there.0 there.1) answered in
        let log = logs view cache past.from past.tails past.standing cores after was.played was.later step.0 was.sealed at line form there.0 was.serving was.logged was.stand on there.1 (steady there.0 there.1) answered step.1 step.2 in
        record {
          played = was.played ++ (line, form) ∷ [];
          later = step.0;
          sealed = log.0;
          lines_are = map-append (λ (p : Played). p.0) was.played ((line, form) ∷ []) ∙ ap (λ l. l ++ line ∷ []) was.lines_are;
          answers_are = ap (λ l. l ++ answer_of (line, form) ∷ []) was.answers_are
              ∙ append_assoc old (map answer_of was.played) (answer_of (line, form) ∷ [])
              ∙ ap (λ l. old ++ l) (sym (map-append answer_of was.played ((line, form) ∷ [])));
          serving = step.1;
          fit = fits_further cache.sizes cache.start past.history was.played was.later step.0 at line form was.fit on step.1.service.has.legal.legal step.2 step.3;
          fits_log = log_fits cache.sizes past.tails cache.start past.history past.standing was.played was.later step.0 at line form was.fits_log was.fit.tickets on step.2 log.3;
          logged = log.1;
          stand = log.2;
          rose = rose_line view cache first cores after at line form on answered was.played so_far.journals onward was.rose;
        }

-- and so the whole step
pub plays_step : {D : Type 0} → LogsAreRight D → LogFitsFurther → (view : D → DiskView) (cache : CacheParameters) (first cores after : List (CoreState D)) (lines : List Line) (index : ℕ) (old new next : List Answer) (at : ℕ) (line : Line) (form : Form)
    → index < length lines → line ≡ get_or lines index line → line.core ≡ Some at → IsPlaying view cache first cores (length lines - index) (take index lines) old new → IsAnswered view cache cores after at line.act form
    → ((core : CoreState D) → slice_get after at ≡ Some core → IsSteady core) → JournalsGoOn view (journals_of cores) (journals_of after) → next ≡ new ++ answer_of (line, form) ∷ []
    → IsPlaying view cache first after (length lines - (index + 1)) (take (index + 1) lines) old next
plays_step {D} logs log_fits view cache first cores after lines index old new next at line form low is on so_far answered steady onward next_is =
    subst (λ l. IsPlaying view cache first after (length lines - (index + 1)) l old next) (sym (take_more lines index line low ∙ ap (λ (x : Line). take index lines ++ x ∷ []) (sym is)))
    (subst (λ l. IsPlaying view cache first after (length lines - (index + 1)) (take index lines ++ line ∷ []) old l) (sym next_is)
    (plays_line logs log_fits view cache first cores after (length lines - (index + 1)) (take index lines) old new at line form on
    (let counts : length lines - index ≡ (length lines - (index + 1)) + 1 = omega arith in subst (λ n. IsPlaying view cache first cores n (take index lines) old new) counts so_far)
    answered steady onward))

-- ---- behind the last one

-- the cores that rest then serve calls, and the answers are those of the lines that were played
pub plays_end : {D : Type 0} (view : D → DiskView) (cache : CacheParameters) (first cores last : List (CoreState D)) (many : ℕ) (lines done rest : List Line) (old new : List Answer)
    → done ++ rest ≡ lines → (All IsSteady cores → map resting last ≡ map resting cores) → IsPlaying view cache first cores many done old new → (past : Past) → HasPast view (service_of cache first) past
    → (answers : List Answer) × (new ≡ old ++ answers) × PlaysLines view (service_of cache first) (service_of cache (map resting last)) past lines rest answers
plays_end {D} view cache first cores last many lines done rest old new parts same so_far past before =
    let was = so_far.plays past before in
    let rested : map resting last ≡ map resting cores = same was.serving.service.steady in (
      map answer_of was.played,
      was.answers_are,
      record {
        played = was.played;
        later = was.later;
        sealed = was.sealed;
        lines_are = ap (λ l. l ++ rest) was.lines_are ∙ parts;
        answers_are = refl;
        fit = was.fit;
        fits_log = was.fits_log;
        service = subst (λ l. IsService cache l was.later) (sym rested) (rest_serves cache cores was.later was.serving.service);
        logged = subst (λ l. AreLogged view past.from past.tails l was.later was.sealed) (sym rested) (logged_rest view cores past.from past.tails was.later was.sealed was.logged);
        stand = subst (λ l. StandAsTold past.standing was.played l) (sym rested) (stand_rest view cores past.standing was.played was.stand);
        rose = subst (λ l. FaultsRose view first l was.played) (sym rested) (rose_rest view cores first was.played was.rose);
      },
    )

-- the same of services and lines that are equal
module _ {D : Type 0} (view : D → DiskView) (first first' last last' : ServiceState D) (lines lines' : List Line) (same_first : first ≡ first') (same_last : last ≡ last') (same_lines : lines ≡ lines') (old new : List Answer) (past : Past) where
  moved : (rest : List Line) (answers : List Answer) → PlaysLines view first last past lines rest answers → PlaysLines view first' last' past lines' rest answers
  moved rest answers plays =
      subst (λ (s : ServiceState D). PlaysLines view s last' past lines' rest answers) same_first
      (subst (λ (s : ServiceState D). PlaysLines view first s past lines' rest answers) same_last
      (subst (λ (l : List Line). PlaysLines view first last past l rest answers) same_lines plays))

  served : HasPast view first' past → HasPast view first past
  served before = subst (λ (s : ServiceState D). HasPast view s past) (sym same_first) before

  pub plays_so : (rest : List Line) → (HasPast view first past → (answers : List Answer) × (new ≡ old ++ answers) × PlaysLines view first last past lines rest answers)
      → HasPast view first' past → (answers : List Answer) × (new ≡ old ++ answers) × PlaysLines view first' last' past lines' rest answers
  plays_so rest plays before = let e = plays (served before) in (e.0, e.1, moved rest e.0 e.2)

  pub stops_so : (HasPast view first past → (rest : List Line) × (answers : List Answer) × (new ≡ old ++ answers) × PlaysLines view first last past lines rest answers)
      → HasPast view first' past → (rest : List Line) × (answers : List Answer) × (new ≡ old ++ answers) × PlaysLines view first' last' past lines' rest answers
  stops_so plays before = let e = plays (served before) in (e.0, e.1, e.2, moved e.0 e.1 e.3)
