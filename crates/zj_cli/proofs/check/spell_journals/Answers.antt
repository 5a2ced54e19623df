use Rattle.std.proofs.Common.{◌∙◌, List, ℕ, ◌++◌, ap, sym}
use Rattle.zj_closure.proofs.NewestLemmas.{cores_next}
use Rattle.zj_cli.specs.Check.{tally_text}
use Rattle.zj_cli.proofs.check.spell_journals.Goals as goal

pub loop-core-preserved : goal.loop-core-preserved
loop-core-preserved c =
    let line = tally_text c.args.recovered.now.journals in
    c.in_ok-put_journal.ensures ∙ ap (λ (text : List ℕ). text ++ line c.loop-core.core) c.loop-core.invariant ∙ sym (cores_next line c.loop-core.core)
