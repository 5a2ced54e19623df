use Rattle.std.proofs.Common.{ap, ◌∙◌}
use Rattle.core_cases.proofs.core_of.Goals as goal

pub new-requires-2-clause-core : goal.new-requires-2-clause-core
new-requires-2-clause-core c = ap (λ area. area.core) c.scan.ensures.same ∙ ap (λ area. area.core) c.in-Ok.ensures.ok ∙ c.core-core.ensures
