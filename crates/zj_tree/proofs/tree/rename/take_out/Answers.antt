use Rattle.std.proofs.Common.{subst, ◌∙◌}
use Rattle.zj_tree.specs.Search.{IsFoundAt, GoesTo}
use Rattle.zj_tree.proofs.SortLemmas.{taken_out, nothing_out}
use Rattle.zj_tree.proofs.tree.rename.take_out.Goals as goal

pub returns-in-Ok : goal.returns-in-Ok
returns-in-Ok c = c.remove.ensures.items ∙ taken_out c.args.entries.now.items c.args.path.now c.in-Ok.at c.requires (subst (λ es. IsFoundAt es c.args.path.now c.in-Ok.at) c.deref.ensures.value c.in-Ok.ensures.found)

pub returns-in_default : goal.returns-in_default
returns-in_default c = nothing_out c.args.entries.now.items c.args.path.now c.in_default.field-0 c.requires (subst (λ es. GoesTo es c.args.path.now c.in_default.field-0) c.deref.ensures.value c.in_default.ensures.absent)
