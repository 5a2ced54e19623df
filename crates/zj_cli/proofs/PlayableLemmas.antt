-- A schedule whose acts are built can be played, by a service that was just started.
use Rattle.std.proofs.Common.{◌≡◌, ◌∙◌, ℕ, ◌<◌, ◌≤◌, Bool, List, [], length, filter, get_or, sym, ap, subst, arith}
use Rattle.std.specs.Prelude.{Option, Some, None, IsSomeAnd, IsTrue}
use Rattle.std.specs.List.{All, enumerate_from}
use Rattle.std.proofs.lemmas.Option.{slice_get-get_or}
use Rattle.std.proofs.lemmas.List.Sums.{count_by-le-length, length-filter}
use Rattle.std.proofs.lemmas.List.{length-map}
use Rattle.std.proofs.lemmas.List.FromFn.{length-enumerate_from}
use Rattle.zj_tree.specs.declared.call.Call.TheVariants as calls
use Rattle.zj_script.specs.declared.line.Act.{Act}
use Rattle.zj_script.specs.declared.line.Act.TheVariants as acts
use Rattle.zj_script.specs.declared.line.Line.{Line}
use Rattle.zj_script.specs.Grammar.{has_core}
use Rattle.zj_script.specs.Script.{IsSchedule, has_act, lines_of, numbered_text}
use Rattle.zj_turns.specs.Passes.{CacheParameters, left_of, mine}
use Rattle.zj_core.specs.Core.{CoreState}
use Rattle.zj_session.specs.Answering.{IsHandled}
use Rattle.zj_session.specs.Playing.{IsPlayable}
use Rattle.zj_session.specs.Service.{IsService}
use Rattle.zj_cli.specs.Asked.{AreBuilt, is_built}

-- an act that is built is one of a handle's
handled : (act : Act) → IsTrue (is_built act) → IsHandled act
handled (acts.Call (calls.Mkdir path)) is = tt
handled (acts.Call (calls.Create path)) is = tt
handled (acts.Call (calls.Write path at bytes)) is = tt
handled (acts.Call (calls.Read path at count)) is = tt
handled (acts.Call (calls.Truncate path size)) is = tt
handled (acts.Call (calls.Unlink path)) is = tt
handled (acts.Call (calls.Rmdir path)) is = tt
handled (acts.Call (calls.Rename from to)) is = tt
handled (acts.Call (calls.List path)) is = tt
handled (acts.Call (calls.Stat path)) is = tt
handled (acts.Call (calls.Fsync path)) is = cc
handled (acts.Begin (calls.Mkdir path)) is = tt
handled (acts.Begin (calls.Create path)) is = tt
handled (acts.Begin (calls.Write path at bytes)) is = tt
handled (acts.Begin (calls.Read path at count)) is = tt
handled (acts.Begin (calls.Truncate path size)) is = tt
handled (acts.Begin (calls.Unlink path)) is = tt
handled (acts.Begin (calls.Rmdir path)) is = tt
handled (acts.Begin (calls.Rename from to)) is = tt
handled (acts.Begin (calls.List path)) is = tt
handled (acts.Begin (calls.Stat path)) is = tt
handled (acts.Begin (calls.Fsync path)) is = cc
handled acts.Take is = tt
handled acts.Stop is = tt
handled acts.Drop is = tt
handled acts.Look is = cc
handled acts.Commit is = tt
handled acts.Sync is = cc
handled acts.Checkpoint is = cc

-- and has a core
on_core : (cores : ℕ) (core : Option ℕ) (act : Act) → IsTrue (has_core cores core act) → IsTrue (is_built act) → IsSomeAnd core (λ c. c < cores)
on_core cores None (acts.Call call) has is = cc
on_core cores None (acts.Begin call) has is = cc
on_core cores None acts.Take has is = cc
on_core cores None acts.Stop has is = cc
on_core cores None acts.Drop has is = cc
on_core cores None acts.Look has is = cc
on_core cores None acts.Commit has is = cc
on_core cores None acts.Sync has is = cc
on_core cores None acts.Checkpoint has is = cc
on_core cores (Some c) (acts.Call call) has is = grind arith
on_core cores (Some c) (acts.Begin call) has is = grind arith
on_core cores (Some c) acts.Take has is = grind arith
on_core cores (Some c) acts.Stop has is = grind arith
on_core cores (Some c) acts.Drop has is = grind arith
on_core cores (Some c) acts.Look has is = cc
on_core cores (Some c) acts.Commit has is = grind arith
on_core cores (Some c) acts.Sync has is = cc
on_core cores (Some c) acts.Checkpoint has is = cc

pub playable : (cores many : ℕ) (input : List ℕ) (lines : List Line) → many ≡ cores → IsSchedule cores input lines → AreBuilt lines → All (IsPlayable many) lines
playable cores many input lines same schedule built =
    subst (λ (n : ℕ). All (IsPlayable n) lines) (sym same)
    (λ k d below. record { core = on_core cores (get_or lines k d).core (get_or lines k d).act (schedule.can_stand k d below).core (built k d below); act = handled (get_or lines k d).act (built k d below) })

-- ---- how many lines there are

few_lines : (cores : ℕ) (input : List ℕ) (lines : List Line) → IsSchedule cores input lines → length lines ≤ 65536
few_lines cores input lines schedule =
    let test : ℕ × List ℕ → Bool = λ numbered. has_act numbered.1 in
    let all = enumerate_from 1 (lines_of input) in
    let as_many : length lines ≡ length (filter test all) = sym (length-map lines numbered_text) ∙ ap length schedule.texts in
    let most : length (filter test all) ≤ length (lines_of input) = rw (length-filter test all, sym (length-enumerate_from 1 (lines_of input))) (count_by-le-length test all) in
    omega (arith, as_many, most, schedule.lines_at_most)

pub left : {D : Type 0} (cache : CacheParameters) (cores : List (CoreState D)) (many : ℕ) (input : List ℕ) (lines : List Line) → IsService cache cores [] → IsSchedule many input lines → All (λ (c : CoreState D). length lines ≤ left_of c.pass) cores
left cache cores many input lines service schedule k d below =
    let c = get_or cores k d in
    let none : length (mine c.pass).operations ≡ 0 = sym (ap length (service.has.operations k c (slice_get-get_or cores k d below))) in
    omega (arith, none, few_lines many input lines schedule)
