use Rattle.std.proofs.Common.{◌≡◌, [], Some, None, sym, subst, ◌∙◌, T}
use Rattle.std.specs.FinMap as map_of
use Rattle.zj_tree.specs.declared.content.Content.{Content}
use Rattle.zj_tree.specs.declared.content.Content.TheVariants.{Dir}
use Rattle.zj_tree.specs.Tree.{path_cmp}
use Rattle.zj_tree.proofs.OrderLemmas.{found_content}
use Rattle.zj_tree.proofs.tree.Tree.place_of.Goals as goal

pub search-requires : goal.search-requires
search-requires c = subst (λ es. T (map_of.is_sorted path_cmp es)) (sym c.entries.ensures.entries) (map_of.entries_sorted c.args.self.now.tree)

pub returns-in-Ok : goal.returns-in-Ok
returns-in-Ok c = absurd (clash _ (sym (found_content c.args.self.now.tree c.entries.result.now c.args.path.now c.in-Ok.at ([], Dir) c.entries.ensures.entries c.in-Ok.ensures.found) ∙ c.requires))
  where
    clash : (x : Content) → Some x ≡ None → ⊥
    clash x e = cc
