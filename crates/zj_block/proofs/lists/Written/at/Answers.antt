use Rattle.std.proofs.Common.{◌≡◌, sym, ap, ◌∙◌}
use Rattle.std.specs.FinMap as map
use Rattle.std.specs.List.{slice_get}
use Rattle.zj_block.proofs.SortedEntries.{entries_is}
use Rattle.zj_block.proofs.lists.Written.at.Goals as goal

pub returns-clause-entry : goal.returns-clause-entry
returns-clause-entry c =
    let all : map.entries c.args.self.now ≡ c.self.inside.entries.items = ap map.entries (sym c.self.view_is) ∙ entries_is c.self.inside.entries.items c.self.invariant.sorted in
    c.entry_at.ensures.entry ∙ ap (λ es. slice_get es c.args.i) (c.deref.ensures.value ∙ sym all)
