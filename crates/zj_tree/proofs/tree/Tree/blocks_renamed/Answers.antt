use Rattle.std.proofs.Common.{◌≡◌, ℕ, ◌+◌, ◌-◌, ◌≤◌, Option, Some, None, MatchOption, refl, arith}
use Rattle.zj_tree.specs.declared.content.Content.{Content}
use Rattle.zj_tree.specs.Tree.{content_at, content_blocks}
use Rattle.zj_tree.proofs.tree.Tree.blocks_renamed.Goals as goal

law : (u' less freed u more used : ℕ) → u' + less + freed ≡ u + more → used ≡ u → (less ≤ used + more) × (freed ≤ used + more - less) × (used + more - less - freed ≡ u')
law u' less freed u more used e is = (omega arith, omega arith, omega arith)

-- what stands at a path takes up some blocks
some_blocks : (o : Option Content) → (freed : ℕ) × MatchOption o (freed ≡ 0) (λ content. freed ≡ content_blocks content)
some_blocks None = (0, refl)
some_blocks (Some content) = (content_blocks content, refl)

pub overflow_sub-result : goal.overflow_sub-result
overflow_sub-result c =
    let freed = some_blocks (content_at c.args.self.now.tree c.args.to.now) in
    (law _ _ _ _ _ _ (c.directories_renamed-less.ensures.sum freed.0 freed.1) c.used.ensures).0

pub overflow_sub-result-2 : goal.overflow_sub-result-2
overflow_sub-result-2 c = (law _ _ _ _ _ _ (c.directories_renamed-less.ensures.sum c.blocks_at.result c.blocks_at.ensures) c.used.ensures).1

pub returns : goal.returns
returns c = (law _ _ _ _ _ _ (c.directories_renamed-less.ensures.sum c.blocks_at.result c.blocks_at.ensures) c.used.ensures).2
