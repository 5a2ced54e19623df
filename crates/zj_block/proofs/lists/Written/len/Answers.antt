use Rattle.std.proofs.Common.{◌≡◌, length, sym, ap, ◌∙◌, arith}
use Rattle.std.specs.FinMap as map
use Rattle.std.proofs.lemmas.Grind.{common_steps}
use Rattle.zj_block.proofs.SortedEntries.{entries_is, len_is}
use Rattle.zj_block.proofs.lists.Written.len.Goals as goal

pub returns-clause-len : goal.returns-clause-len
returns-clause-len c =
    let all : map.len c.args.self.now ≡ length c.self.inside.entries.items = ap map.len (sym c.self.view_is) ∙ len_is c.self.inside.entries.items c.self.invariant.sorted in
    grind (arith, common_steps, all)

pub returns-clause-contents : goal.returns-clause-contents
returns-clause-contents c =
    let all : map.entries c.args.self.now ≡ c.self.inside.entries.items = ap map.entries (sym c.self.view_is) ∙ entries_is c.self.inside.entries.items c.self.invariant.sorted in
    rw all c.self.invariant.contents
