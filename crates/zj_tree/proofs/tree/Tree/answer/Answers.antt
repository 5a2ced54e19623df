use Rattle.std.proofs.Common.{ap, sym, ◌∙◌}
use Rattle.zj_tree.specs.Tree.{content_at, entry_count}
use Rattle.zj_tree.specs.Apply.{size_of, answer}
use Rattle.zj_tree.proofs.tree.Tree.answer.Goals as goal

pub returns-in-Stat : goal.returns-in-Stat
returns-in-Stat c =
    let tree = c.args.self.now.tree in
    c.size_of.ensures ∙ ap (λ p. size_of (content_at tree p) (entry_count tree p)) c.as_slice-in-Stat.ensures.value ∙ sym (ap (λ call. answer call tree) c.in-Stat.is)
