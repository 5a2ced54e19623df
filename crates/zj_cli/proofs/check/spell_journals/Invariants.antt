use Rattle.std.proofs.Common.{◌≡◌}
use Rattle.std.specs.List.{flat_map, range_with_len}
use Rattle.zj_cli.specs.Check.{tally_text}
use Rattle.zj_cli.proofs.check.spell_journals.Given as goal

abbrev pub invariant-loop-core : goal.invariant-loop-core
invariant-loop-core l = l.text ≡ flat_map (tally_text l.recovered.journals) (range_with_len 0 l.core)
