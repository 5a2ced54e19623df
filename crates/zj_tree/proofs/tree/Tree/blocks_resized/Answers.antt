use Rattle.std.proofs.Common.{ℕ, List, ◌+◌, ◌-◌, ◌≤◌, ◌≡◌, length, ap, sym, ◌∙◌, arith}
use Rattle.zj_tree.specs.declared.content.Content.TheVariants.{File}
use Rattle.zj_tree.specs.Changed.{bytes_at}
use Rattle.zj_tree.specs.Tree.{blocks_for}
use Rattle.zj_tree.proofs.RemoveLemmas.{used_replaced, used_at_least, replaced_is_tree}
use Rattle.zj_tree.proofs.tree.Tree.blocks_resized.Goals as goal

pub overflow_sub-result : goal.overflow_sub-result
overflow_sub-result c =
    let tree = c.args.self.now.tree in
    let least = used_at_least tree c.args.path.now (File (bytes_at tree c.args.path.now)) c.requires in
    let before : c.file_blocks-before.result ≡ blocks_for (length (bytes_at tree c.args.path.now)) 512 = c.file_blocks-before.ensures.value ∙ ap (λ (x : List ℕ). blocks_for (length x) 512) c.bytes_at.ensures.value in
    fits _ _ _ _ least before c.used.ensures
  where
    fits : (u b x y : ℕ) → b ≤ u → x ≡ b → y ≡ u → x ≤ y
    fits u b x y least is_b is_u = omega arith

pub returns-clause-used : goal.returns-clause-used
returns-clause-used c bytes long =
    let tree = c.args.self.now.tree in
    let old = bytes_at tree c.args.path.now in
    let law = used_replaced tree c.args.path.now (File bytes) (File old) c.requires in
    let least = used_at_least tree c.args.path.now (File old) c.requires in
    let before : c.file_blocks-before.result ≡ blocks_for (length old) 512 = c.file_blocks-before.ensures.value ∙ ap (λ (x : List ℕ). blocks_for (length x) 512) c.bytes_at.ensures.value in
    let after : c.file_blocks.result ≡ blocks_for (length bytes) 512 = c.file_blocks.ensures.value ∙ ap (λ (n : ℕ). blocks_for n 512) (sym long) in
    regroup _ _ _ _ _ _ _ law least before after c.used.ensures
  where
    regroup : (u v b n x y w : ℕ) → u + b ≡ v + n → b ≤ v → x ≡ b → y ≡ n → w ≡ v → w - x + y ≡ u
    regroup u v b n x y w law least is_b is_n is_v = omega arith

pub returns-clause-is_tree : goal.returns-clause-is_tree
returns-clause-is_tree c bytes = replaced_is_tree c.args.self.now.tree c.args.path.now (bytes_at c.args.self.now.tree c.args.path.now) bytes c.bytes_at.ensures.tree c.requires
