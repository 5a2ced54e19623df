use Rattle.std.proofs.Common.{◌≡◌, ℕ, List, length, sym, ap, ◌∙◌, arith}
use Rattle.std.specs.FinMap as map
use Rattle.std.specs.Ordering.{nat_cmp}
use Rattle.std.proofs.lemmas.Bool.Decides.{nat_tests}
use Rattle.std.proofs.lemmas.Grind.{common_steps}
use Rattle.std.proofs.lemmas.List.{nil_from_length}
use Rattle.zj_block.proofs.SortedEntries.{empty_is, len_is}
use Rattle.zj_block.proofs.lists.Written.is_empty.Goals as goal

pub returns : goal.returns
returns c =
    let entries = c.self.inside.entries.items in
    let many : map.len c.args.self.now ≡ length entries = ap map.len (sym c.self.view_is) ∙ len_is entries c.self.invariant.sorted in (
      λ yes. sym c.self.view_is ∙ empty_is entries (nil_from_length entries (grind (arith, common_steps, nat_tests))),
      λ none.
          let zero : length entries ≡ 0 = sym many ∙ ap map.len none ∙ map.len-empty nat_cmp (List ℕ) in
          grind (arith, common_steps, nat_tests),
    )
