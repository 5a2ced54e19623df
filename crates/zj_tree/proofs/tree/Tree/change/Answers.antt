use Rattle.std.proofs.Common.{◌≡◌, ℕ, List, ◌⊎◌, inl, inr, None, sym, ap, subst, ◌∙◌}
use Rattle.zj_tree.specs.declared.call.Call.TheVariants as calls
use Rattle.zj_tree.specs.declared.call.Call.{Call}
use Rattle.zj_tree.specs.Tree.{FileTree, IsTree, entry_count}
use Rattle.zj_tree.specs.Apply.{Limits, first_refusal, reasons}
use Rattle.zj_tree.proofs.RefusalLemmas.{can_rename, can_unlink, can_rmdir}
use Rattle.zj_tree.proofs.tree.Tree.change.Goals as goal

pub rename-requires-clause-movable : goal.rename-requires-clause-movable
rename-requires-clause-movable c =
    let t = c.args.self.now in
    let accepted = subst (λ call. first_refusal (reasons t.limits call t.tree) ≡ None) c.in-Rename.is c.requires.accepted in
    (can_rename t.limits t.tree c.in-Rename.from c.in-Rename.to (sym c.eq.ensures ∙ c.if-eq.false) accepted).0 c.requires.tree

-- what a call that removes is given has no entries
empty : (limits : Limits) (call : Call) (path : List (List ℕ)) (tree : FileTree) → (call ≡ calls.Unlink path) ⊎ (call ≡ calls.Rmdir path) → IsTree tree → first_refusal (reasons limits call tree) ≡ None → entry_count tree path ≡ 0
empty limits call path tree (inl e) t h = (can_unlink limits tree path t (subst (λ call. first_refusal (reasons limits call tree) ≡ None) e h)).empty
empty limits call path tree (inr e) t h = (can_rmdir limits tree path (subst (λ call. first_refusal (reasons limits call tree) ≡ None) e h)).empty

pub remove-requires-clause-empty : goal.remove-requires-clause-empty
remove-requires-clause-empty c =
    let t = c.args.self.now in
    ap (entry_count t.tree) c.as_slice-in-Unlink.ensures.value ∙ empty t.limits c.args.call.now c.in-Unlink.path t.tree c.in-Unlink.is c.requires.tree c.requires.accepted
