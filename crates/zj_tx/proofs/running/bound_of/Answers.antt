use Rattle.std.proofs.Common.{◌∙◌, sym, ap, cond, ne_eqb}
use Rattle.std.specs.Prelude.{slice_index}
use Rattle.std.specs.Option.{unwrap_or}
use Rattle.std.proofs.lemmas.Option.{unwrap_or-slice_get}
use Rattle.zj_tx.proofs.running.bound_of.Goals as goal

pub returns-clause-bound : goal.returns-clause-bound
returns-clause-bound c = c.unwrap_or-bound.ensures ∙ ap (λ o. unwrap_or o 0) c.at.ensures.bound ∙ unwrap_or-slice_get c.args.follows.now c.args.core 0
    ∙ sym (ap (λ b. cond b 0 (slice_index c.args.follows.now c.args.core)) (ne_eqb c.args.core c.args.own c.if-core-own.false))
