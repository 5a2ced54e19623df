-- How a round ends, by what a service played and how its answers were written.
use Rattle.std.proofs.Common.{◌≡◌, ◌⊎◌, ◌∙◌, inl, inr, ℕ, ◌<◌, suc, Bool, true, false, ◌&&◌, ◌||◌, List, [], ◌∷◌, ◌++◌, length, map, drop, Option, Some, None, refl, sym, ap, subst, arith, append-nil}
use Rattle.std.specs.Prelude.{IfErr, IsSomeAnd, OnErr, OnOk, Result, Ok, Err}
use Rattle.std.specs.List.{All, flat_map}
use Rattle.std.specs.Result.{result_err}
use Rattle.zj_dev.specs.Disk.{DiskView}
use Rattle.zj_dev.specs.Fault.{Rose}
use Rattle.zj_dev.specs.Stream.{Took}
use Rattle.zj_dev.specs.declared.device.Device.TheVariants as devices
use Rattle.zj_script.specs.declared.answer.Answer.{Answer}
use Rattle.zj_script.specs.declared.line.Line.{Line}
use Rattle.zj_script.specs.Answers.{answer_text}
use Rattle.zj_session.specs.declared.playing.Stopped.{Stopped}
use Rattle.zj_session.specs.declared.playing.Stopped.TheVariants as stops
use Rattle.zj_session.specs.Logging.{fails_in, is_fault}
use Rattle.zj_session.specs.Played.{Played, is_on}
use Rattle.zj_session.specs.Playing.{IsLowestFault, IsPlayable, Past, PlaysLines, ServiceState, answer_of, fault_told}
use Rattle.zj_cli.specs.declared.status.Fault.{Fault}
use Rattle.zj_cli.specs.declared.status.Fault.TheVariants as faults
use Rattle.zj_cli.specs.Faults.{fault_of_stopping}
use Rattle.zj_cli.specs.Play.{IsLowestFailed, PlaysRound, RoundEnds}

-- ---- the core whose commit failed

-- answers tell what the lines do with which they stand
told_fails : (played : List Played) (core : ℕ) → fault_told (map answer_of played) core ≡ fails_in played core
told_fails [] core = refl
told_fails (p ∷ ps) core = ap (λ (later : Bool). (is_on core p.0.core && is_fault p.1) || later) (told_fails ps core)

-- a core of which a commit failed is one of those that the lines can be played on
on_it : (o : Option ℕ) (core many : ℕ) (fault : Bool) → (is_on core o && fault) ≡ true → IsSomeAnd o (λ c. c < many) → core < many
on_it None core many fault on within = cc
on_it (Some c) core many true on within = grind arith
on_it (Some c) core many false on within = grind arith

below : (many core : ℕ) (played : List Played) → All (IsPlayable many) (map (λ (p : Played). p.0) played) → fails_in played core ≡ true → core < many
below many core [] playable fails = cc
below many core (p ∷ ps) playable fails = by (is_on core p.0.core && is_fault p.1) refl fails (below many core ps (λ k d lt. playable (suc k) d (omega (arith, lt))))
  where
    by : (b : Bool) → (is_on core p.0.core && is_fault p.1) ≡ b → (b || fails_in ps core) ≡ true → (fails_in ps core ≡ true → core < many) → core < many
    by true on fails later = on_it p.0.core core many (is_fault p.1) on (playable 0 p.0 (omega arith)).core
    by false on fails later = later fails

-- ---- how the round ends

module _ {D : Type 0} (view : D → DiskView) (old new : ServiceState D) (past : Past) (lines : List Line) (held now : Option (List ℕ)) (f f' : ℕ) (before after answers : List Answer) (none : before ≡ []) (adds : after ≡ before ++ answers)
    (plays : PlaysLines view old new past lines [] answers) (playable : All (IsPlayable (length old.cores)) lines) (text : List ℕ) (spelled : text ≡ flat_map answer_text after) where
  all_answers : after ≡ map answer_of plays.played
  all_answers = adds ∙ ap (λ (front : List Answer). front ++ answers) none ∙ plays.answers_are

  -- the answers behind those from before are all of them
  told_is : (core : ℕ) → fault_told (drop (length before) after) core ≡ fails_in plays.played core
  told_is core = ap (λ (n : ℕ). fault_told (drop n after) core) (ap length none) ∙ ap (λ (all : List Answer). fault_told all core) (whole after ∙ all_answers) ∙ told_fails plays.played core
    where
      whole : (all : List Answer) → drop 0 all ≡ all
      whole [] = refl
      whole (a ∷ rest) = refl

  part : (failed : Option ℕ) (written rest : List ℕ) → IsLowestFailed plays.played failed → written ++ rest ≡ text → Took held now written → PlaysRound view old new past lines held now failed rest
  part failed written rest lowest all took = record {
    answers = answers;
    plays = plays;
    within = λ core. below (length old.cores) core plays.played (subst (All (IsPlayable (length old.cores))) (sym plays.lines_are ∙ append-nil (map (λ (p : Played). p.0) plays.played)) playable);
    lowest = lowest;
    written = written;
    text = all ∙ spelled ∙ ap (flat_map answer_text) all_answers;
    took = took;
  }

  -- no commit failed
  pub round_quiet : {T : Type 0} (wrote : Result T Fault) (stopped : Option Stopped) → stopped ≡ None → IsLowestFault (drop (length before) after) stopped → OnOk wrote (Took held now text) → OnOk wrote (f' ≡ f)
      → OnErr wrote ((front rest : List ℕ) × (front ++ rest ≡ text) × Took held now front) → IfErr wrote (λ fault. (fault ≡ faults.Output) × Rose f f') → RoundEnds view old new past lines held now f f' (result_err wrote)
  round_quiet wrote stopped nothing lowest took quiet front cause = by wrote took quiet front cause (subst (IsLowestFault (drop (length before) after)) nothing lowest)
    where
      by : {T : Type 0} (wrote : Result T Fault) → OnOk wrote (Took held now text) → OnOk wrote (f' ≡ f) → OnErr wrote ((front rest : List ℕ) × (front ++ rest ≡ text) × Took held now front)
          → IfErr wrote (λ fault. (fault ≡ faults.Output) × Rose f f') → IsLowestFault (drop (length before) after) None → RoundEnds view old new past lines held now f f' (result_err wrote)
      by (Ok x) took quiet front cause lowest = (part None text [] (λ core. sym (told_is core) ∙ lowest core) (append-nil text) took, quiet)
      by (Err fault) took quiet front cause lowest =
          subst (λ (e : Fault). RoundEnds view old new past lines held now f f' (Some e)) (sym cause.0) ((front.1, part None front.0 front.1 (λ core. sym (told_is core) ∙ lowest core) front.2 front.3), cause.1)

  -- one did
  pub round_failed : {T : Type 0} (wrote : Result T Fault) (stopped : Stopped) (fault : Fault) (told : Option Stopped) → told ≡ Some stopped → fault ≡ fault_of_stopping stopped
      → IsLowestFault (drop (length before) after) told → OnOk wrote (Took held now text) → OnErr wrote ((front rest : List ℕ) × (front ++ rest ≡ text) × Took held now front)
      → IfErr wrote (λ fault. (fault ≡ faults.Output) × Rose f f') → RoundEnds view old new past lines held now f f' (Some fault)
  round_failed wrote stopped fault told some is lowest took front cause =
      subst (λ (e : Fault). RoundEnds view old new past lines held now f f' (Some e)) (sym is) (by stopped wrote (subst (IsLowestFault (drop (length before) after)) some lowest) took front cause)
    where
      wrote_some : {T : Type 0} (core : ℕ) (wrote : Result T Fault) → IsLowestFailed plays.played (Some core) → OnOk wrote (Took held now text) → OnErr wrote ((front rest : List ℕ) × (front ++ rest ≡ text) × Took held now front)
          → IfErr wrote (λ fault. (fault ≡ faults.Output) × Rose f f') → (rest : List ℕ) × PlaysRound view old new past lines held now (Some core) rest × ((rest ≡ []) ⊎ Rose f f')
      wrote_some core (Ok x) low took front cause = ([], part (Some core) text [] low (append-nil text) took, inl refl)
      wrote_some core (Err e) low took front cause = (front.1, part (Some core) front.0 front.1 low front.2 front.3, inr cause.1)

      by : {T : Type 0} (stopped : Stopped) (wrote : Result T Fault) → IsLowestFault (drop (length before) after) (Some stopped) → OnOk wrote (Took held now text) → OnErr wrote ((front rest : List ℕ) × (front ++ rest ≡ text) × Took held now front)
          → IfErr wrote (λ fault. (fault ≡ faults.Output) × Rose f f') → RoundEnds view old new past lines held now f f' (Some (fault_of_stopping stopped))
      by (stops.Device (devices.Journal core)) wrote lowest took front cause = wrote_some core wrote (sym (told_is core) ∙ lowest.0, λ lower lt. sym (told_is lower) ∙ lowest.1 lower lt) took front cause
      by (stops.Device devices.Home) wrote lowest took front cause = absurd lowest
      by (stops.Damaged device at found expected) wrote lowest took front cause = absurd lowest
