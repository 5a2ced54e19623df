use Rattle.std.proofs.Common.{sym, ap, ◌∙◌}
use Rattle.zj_tree.specs.declared.call.Call.TheVariants as calls
use Rattle.zj_tree.specs.Apply.{first_refusal, reasons}
use Rattle.zj_tree.proofs.tree.Tree.check.Goals as goal

pub returns-in-Rmdir-clause-reason : goal.returns-in-Rmdir-clause-reason
returns-in-Rmdir-clause-reason c =
    let t = c.args.self.now in
    c.check_rmdir.ensures.reason
    ∙ ap (λ p. first_refusal (reasons t.limits (calls.Rmdir p) t.tree)) c.as_slice-in-Rmdir.ensures.value
    ∙ sym (ap (λ call. first_refusal (reasons t.limits call t.tree)) c.in-Rmdir.is)

pub returns-in-Rename-clause-reason : goal.returns-in-Rename-clause-reason
returns-in-Rename-clause-reason c =
    let t = c.args.self.now in
    c.check_rename.ensures.reason
    ∙ (λ i. first_refusal (reasons t.limits (calls.Rename (c.as_slice-in-Rename.ensures.value i) (c.as_slice-in-Rename-2.ensures.value i)) t.tree))
    ∙ sym (ap (λ call. first_refusal (reasons t.limits call t.tree)) c.in-Rename.is)
