use Rattle.std.proofs.Common.{[]}
use Rattle.zj_cli.proofs.RoundLemmas.{round_failed, round_quiet}
use Rattle.zj_cli.proofs.play.play_round.Goals as goal

pub returns-in-Some-clause-ends : goal.returns-in-Some-clause-ends
returns-in-Some-clause-ends g c past has =
    let lines = c.in_ok-ended.ensures.plays past has in
    round_failed g.D.Disk.view c.args.service.now c.play.new.service past c.args.schedule.now _ _ _ _ _ _ lines.0 c.new-transcript.ensures lines.1 lines.2 c.requires.playable c.in_ok-answers.answers c.in_ok-answers.ensures
    c.write_whole-written.result c.in-Some.stopped c.into.result c.in_ok-ended.ended.fault c.in-Some.is c.into.ensures c.in_ok-ended.ensures.ended
    (rw c.as_slice.ensures at c.write_whole-written.ensures.ok) (rw c.as_slice.ensures at c.write_whole-written.ensures.err) c.write_whole-written.ensures.cause

pub returns-clause-ends : goal.returns-clause-ends
returns-clause-ends g c past has =
    let lines = c.in_ok-ended.ensures.plays past has in
    round_quiet g.D.Disk.view c.args.service.now c.play.new.service past c.args.schedule.now _ _ _ _ _ _ lines.0 c.new-transcript.ensures lines.1 lines.2 c.requires.playable c.in_ok-answers.answers c.in_ok-answers.ensures
    c.write_whole-written.result c.in_ok-ended.ended.fault c.in-None.is c.in_ok-ended.ensures.ended
    (rw c.as_slice.ensures at c.write_whole-written.ensures.ok) c.write_whole-written.ensures.quiet (rw c.as_slice.ensures at c.write_whole-written.ensures.err) c.write_whole-written.ensures.cause

pub returns-in-Some-clause-cuts : goal.returns-in-Some-clause-cuts
returns-in-Some-clause-cuts g c past has = let lines = c.in_ok-ended.ensures.plays past has in ([], lines.0, lines.2)

pub returns-clause-cuts : goal.returns-clause-cuts
returns-clause-cuts g c past has = let lines = c.in_ok-ended.ensures.plays past has in ([], lines.0, lines.2)
