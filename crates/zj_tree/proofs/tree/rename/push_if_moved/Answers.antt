use Rattle.std.proofs.Common.{length, take, drop, IsTrue, sym, subst, ap, ◌∙◌}
use Rattle.std.proofs.lemmas.List.{take-append-drop}
use Rattle.zj_tree.specs.Path.{has_names}
use Rattle.zj_tree.proofs.MovedLemmas.{names_behind}
use Rattle.zj_tree.proofs.tree.rename.push_if_moved.Goals as goal

pub joined-requires : goal.joined-requires
joined-requires c =
    let path = c.args.path.now in
    let n = length c.args.from.now in
    let back = c.split_at.ensures.back ∙ ap (drop n) c.as_slice-names.ensures.value in
    subst (λ x. IsTrue (has_names x)) (sym back) (names_behind (take n path) (drop n path) (subst (λ x. IsTrue (has_names x)) (sym (take-append-drop n path)) c.as_slice-names.ensures.names))
