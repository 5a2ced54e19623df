use Rattle.std.proofs.Common.{◌≤◌, ◌<◌, ◌∙◌, length, sym, ap, arith}
use Rattle.std.specs.Option.{option_copied}
use Rattle.zj_cli.proofs.SpellLemmas.{all_spelled, none_spelled, none_there, one_more_spelled}
use Rattle.zj_cli.proofs.play.spell_answers.Goals as goal
use Rattle.zj_cli.proofs.play.spell_answers.Goals.{in-Some+in_ok-write_answer, in_default}

pub loop-i-init : goal.loop-i-init
loop-i-init c = none_spelled c.args.transcript.now.answers c.new-text.result c.new-text.ensures

pub loop-i-preserved : goal.loop-i-preserved
loop-i-preserved c =
    let answers = c.args.transcript.now.answers in
    let i = c.loop-i.i in
    elim c.match-at.branch [
      | in-Some+in_ok-write_answer w ↦
          one_more_spelled answers i w.in-Some.answer.now c.loop-i.text c.match-at.text c.loop-i.invariant (sym c.at.ensures ∙ ap option_copied w.in-Some.is) (w.text-is ∙ w.in_ok-write_answer.ensures.added)
      | in_default w ↦
          let below : i < length answers = omega (arith, c.loop-i-test.true, c.len-i-end.ensures) in
          absurd (none_there answers i below (sym c.at.ensures ∙ ap option_copied w.in_default.is))
    ]

pub returns : goal.returns
returns c =
    let past : length c.args.transcript.now.answers ≤ c.loop-i.i = omega (arith, c.len-i-end.ensures, c.loop-i-test.false) in
    all_spelled c.args.transcript.now.answers c.loop-i.i c.loop-i.text c.loop-i.invariant past
