use Rattle.std.proofs.Common.{None, IsSome, sym, subst, ap, ◌∙◌, T}
use Rattle.std.specs.FinMap as map_of
use Rattle.zj_tree.specs.declared.content.Content.{Content}
use Rattle.zj_tree.specs.Tree.{path_cmp}
use Rattle.zj_tree.proofs.OrderLemmas.{content_found}
use Rattle.zj_tree.proofs.tree.Tree.place_at.Goals as goal

pub search-requires : goal.search-requires
search-requires c = subst (λ es. T (map_of.is_sorted path_cmp es)) (sym c.entries.ensures.entries) (map_of.entries_sorted c.args.self.now.tree)

pub returns-in-Ok-2 : goal.returns-in-Ok-2
returns-in-Ok-2 c =
    let none = content_found c.args.self.now.tree c.args.path.now ∙ ap (map_of.find path_cmp c.args.path.now) (sym c.entries.ensures.entries) ∙ c.in-Ok.ensures.absent.absent in
    absurd (nothing (subst IsSome none c.requires))
  where
    nothing : IsSome {T = Content} None → ⊥
    nothing x = cc
