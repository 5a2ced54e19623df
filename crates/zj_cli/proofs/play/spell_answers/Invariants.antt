use Rattle.std.proofs.Common.{◌≡◌, take}
use Rattle.std.specs.List.{flat_map}
use Rattle.zj_script.specs.Answers.{answer_text}
use Rattle.zj_cli.proofs.play.spell_answers.Given as goal

abbrev pub invariant-loop-i : goal.invariant-loop-i
invariant-loop-i l = l.text ≡ flat_map answer_text (take l.i l.transcript.answers)
