use Rattle.std.proofs.Common.{◌≤◌, [], List, length, map, sym, ap, ◌∙◌, subst, arith}
use Rattle.std.specs.List.{All}
use Rattle.std.proofs.lemmas.List.{with_items_is}
use Rattle.std.proofs.lemmas.Result.{err_from_is_err_and}
use Rattle.zj_area.specs.Journal.{AreaView}
use Rattle.zj_script.specs.declared.line.Line.{Line}
use Rattle.zj_turns.specs.Passes.{left_of}
use Rattle.zj_core.specs.Core.{CoreState}
use Rattle.zj_session.specs.Playing.{AreIdle, JournalsGoOn, ServiceState, journals_of, resting}
use Rattle.zj_session.proofs.Resting.{at_rest, same_journals}
use Rattle.zj_session.proofs.Schedules.{plays_so, stops_so}
use Rattle.zj_session.proofs.playing.play.Goals as goal

pub play_lines-played-requires-clause-left : goal.play_lines-played-requires-clause-left
play_lines-played-requires-clause-left g c =
    subst (λ (cores : List (CoreState g.row.D.Denot)). All (λ x. length c.as_slice.result.now ≤ left_of x.pass) cores) (sym (c.as_mut_slice-cores.ensures.value ∙ ap (λ (s : ServiceState g.row.D.Denot). s.cores) c.service.view_is))
    (subst (λ (lines : List Line). All (λ x. length lines ≤ left_of x.pass) c.args.service.now.cores) (sym c.as_slice.ensures) c.requires.left)

pub play_lines-played-requires-clause-idle : goal.play_lines-played-requires-clause-idle
play_lines-played-requires-clause-idle g c = subst (λ (cores : List (CoreState g.row.D.Denot)). AreIdle cores) (sym c.as_mut_slice-cores.ensures.value) c.service.invariant.0.idle

pub invariant_of-service : goal.invariant_of-service
invariant_of-service g c =
    let whole = with_items_is c.service.inside.cores c.drop_all.new.cores (c.drop_all.auto.cores ∙ c.play_lines-played.auto.cores ∙ c.as_mut_slice-cores.ensures.len) ∙ c.drop_all.ensures in
    let count = ap (length {A = CoreState g.row.D.Denot}) (with_items_is c.service.inside.cores c.drop_all.new.cores (c.drop_all.auto.cores ∙ c.play_lines-played.auto.cores ∙ c.as_mut_slice-cores.ensures.len)) in
    let same = c.drop_all.auto.cores ∙ c.play_lines-played.auto.cores ∙ ap (length {A = CoreState g.row.D.Denot}) c.as_mut_slice-cores.ensures.value in
    let room = c.service.invariant.2 in
    (at_rest c.service.inside.cache c.play_lines-played.new.cores _ whole c.play_lines-played.ensures.together, c.service.invariant.1, omega arith)

pub returns-in_err-played-clause-stops : goal.returns-in_err-played-clause-stops
returns-in_err-played-clause-stops g c =
    let p = err_from_is_err_and c.from_residual.result c.from_residual.ensures.1 in
    rw p.1 (λ past before.
    stops_so g.D.Disk.view (record { cache = c.service.inside.cache; cores = c.as_mut_slice-cores.result.now }) c.args.service.now
    (record { cache = c.service.inside.cache; cores = map resting c.play_lines-played.new.cores }) _ c.as_slice.result.now c.args.schedule.now
    (ap (λ (cores : List (CoreState g.row.D.Denot)). record { cache = c.service.inside.cache; cores = cores }) c.as_mut_slice-cores.ensures.value ∙ c.service.view_is)
    (ap (λ (cores : List (CoreState g.row.D.Denot)). record { cache = c.service.inside.cache; cores = cores }) (sym (with_items_is c.service.inside.cores c.drop_all.new.cores (c.drop_all.auto.cores ∙ c.play_lines-played.auto.cores ∙ c.as_mut_slice-cores.ensures.len) ∙ c.drop_all.ensures)))
    c.as_slice.ensures c.args.out.now.answers c.play_lines-played.new.out.answers past (c.in_err-played.ensures.stops past) before)

pub returns-in_err-played-clause-journals : goal.returns-in_err-played-clause-journals
returns-in_err-played-clause-journals g c =
    subst (λ (x : List (AreaView g.row.D.Denot) × List (AreaView g.row.D.Denot)). JournalsGoOn g.D.Disk.view x.0 x.1)
    (λ i. (
      ap journals_of (c.as_mut_slice-cores.ensures.value ∙ ap (λ (s : ServiceState g.row.D.Denot). s.cores) c.service.view_is) i,
      sym (ap journals_of (with_items_is c.service.inside.cores c.drop_all.new.cores (c.drop_all.auto.cores ∙ c.play_lines-played.auto.cores ∙ c.as_mut_slice-cores.ensures.len) ∙ c.drop_all.ensures) ∙ same_journals c.play_lines-played.new.cores) i,
    ))
    c.play_lines-played.ensures.journals

pub invariant_of-service-2 : goal.invariant_of-service-2
invariant_of-service-2 g c =
    let whole = with_items_is c.service.inside.cores c.drop_all.new.cores (c.drop_all.auto.cores ∙ c.play_lines-played.auto.cores ∙ c.as_mut_slice-cores.ensures.len) ∙ c.drop_all.ensures in
    let count = ap (length {A = CoreState g.row.D.Denot}) (with_items_is c.service.inside.cores c.drop_all.new.cores (c.drop_all.auto.cores ∙ c.play_lines-played.auto.cores ∙ c.as_mut_slice-cores.ensures.len)) in
    let same = c.drop_all.auto.cores ∙ c.play_lines-played.auto.cores ∙ ap (length {A = CoreState g.row.D.Denot}) c.as_mut_slice-cores.ensures.value in
    let room = c.service.invariant.2 in
    (at_rest c.service.inside.cache c.play_lines-played.new.cores _ whole c.play_lines-played.ensures.together, c.service.invariant.1, omega arith)

pub returns-clause-plays : goal.returns-clause-plays
returns-clause-plays g c = λ past before.
    plays_so g.D.Disk.view (record { cache = c.service.inside.cache; cores = c.as_mut_slice-cores.result.now }) c.args.service.now
    (record { cache = c.service.inside.cache; cores = map resting c.play_lines-played.new.cores }) _ c.as_slice.result.now c.args.schedule.now
    (ap (λ (cores : List (CoreState g.row.D.Denot)). record { cache = c.service.inside.cache; cores = cores }) c.as_mut_slice-cores.ensures.value ∙ c.service.view_is)
    (ap (λ (cores : List (CoreState g.row.D.Denot)). record { cache = c.service.inside.cache; cores = cores }) (sym (with_items_is c.service.inside.cores c.drop_all.new.cores (c.drop_all.auto.cores ∙ c.play_lines-played.auto.cores ∙ c.as_mut_slice-cores.ensures.len) ∙ c.drop_all.ensures)))
    c.as_slice.ensures c.args.out.now.answers c.play_lines-played.new.out.answers past [] (c.in_ok-played.ensures.plays past) before

pub returns-clause-journals : goal.returns-clause-journals
returns-clause-journals g c =
    subst (λ (x : List (AreaView g.row.D.Denot) × List (AreaView g.row.D.Denot)). JournalsGoOn g.D.Disk.view x.0 x.1)
    (λ i. (
      ap journals_of (c.as_mut_slice-cores.ensures.value ∙ ap (λ (s : ServiceState g.row.D.Denot). s.cores) c.service.view_is) i,
      sym (ap journals_of (with_items_is c.service.inside.cores c.drop_all.new.cores (c.drop_all.auto.cores ∙ c.play_lines-played.auto.cores ∙ c.as_mut_slice-cores.ensures.len) ∙ c.drop_all.ensures) ∙ same_journals c.play_lines-played.new.cores) i,
    ))
    c.play_lines-played.ensures.journals
