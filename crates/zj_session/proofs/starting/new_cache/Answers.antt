use Rattle.std.proofs.Common.{subst, sym}
use Rattle.zj_layout.specs.Shows.{ShowsSome}
use Rattle.zj_session.proofs.starting.new_cache.Goals as goal

pub new-requires-clause-passes : goal.new-requires-clause-passes
new-requires-clause-passes c =
    subst (λ s. ShowsSome s c.blocks-2.result.now) (sym c.sizes-sizes.ensures)
    (subst (λ b. ShowsSome c.args.recovered.now.sizes b) (sym c.blocks-2.ensures) c.requires.shows)
