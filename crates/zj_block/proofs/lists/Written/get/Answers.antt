use Rattle.std.proofs.Common.{◌≡◌, sym, ap, ◌∙◌}
use Rattle.std.specs.FinMap as map
use Rattle.zj_block.specs.Lists.{content_under}
use Rattle.zj_block.proofs.SortedEntries.{get_is}
use Rattle.zj_block.proofs.lists.Written.get.Goals as goal

pub returns-clause-new : goal.returns-clause-new
returns-clause-new c =
    let found : map.get c.args.self.now c.args.b.0 ≡ content_under c.self.inside.entries.items c.args.b.0 = ap (λ m. map.get m c.args.b.0) (sym c.self.view_is) ∙ get_is c.self.inside.entries.items c.self.invariant.sorted c.args.b.0 in
    c.content_in.ensures.content ∙ ap (λ es. content_under es c.args.b.0) c.deref.ensures.value ∙ sym found
