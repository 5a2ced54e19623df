-- A block that is needed is one of the image, or no state is possible.
use Rattle.std.proofs.Common.{◌≡◌, ◌<◌, ◌≤◌, refl, sym, subst, arith}
use native.Mathlib.Decide.{dec_lt}
use Rattle.zj_block.specs.Lists.{Entries}
use Rattle.zj_block.specs.Sizes.{Numbers}
use Rattle.zj_block.specs.declared.numbers.BlockNo.{BlockNo}
use Rattle.zj_tree.specs.declared.call.Call.{Call}
use Rattle.zj_inode.specs.declared.outcome.Outcome.{Outcome}
use Rattle.zj_inode.specs.declared.outcome.Outcome.TheVariants as outcomes
use Rattle.zj_inode.specs.declared.stopped.Stopped.TheVariants as stopped
use Rattle.zj_inode.specs.Answering.{CallStops, count_written}
use Rattle.zj_inode.specs.Files.{IsUndone}
use Rattle.zj_inode.specs.Performs.{NeedsWithin, OutcomeSays}
use Rattle.zj_inode.proofs.Within.{footprint_is_within}

module _ (sizes : Numbers) (block : BlockNo) (o : Outcome) (inside : block.0 < sizes.blocks → o ≡ outcomes.Need block) (outside : sizes.blocks ≤ block.0 → o ≡ outcomes.Odd) where
  -- what holds of either holds of the outcome
  either : (P : Outcome → Type 0) → (block.0 < sizes.blocks → P (outcomes.Need block)) → (sizes.blocks ≤ block.0 → P outcomes.Odd) → P o
  either P need odd = by (dec_lt block.0 sizes.blocks)
    where
      by : Dec (block.0 < sizes.blocks) → P o
      by (yes lt) = subst P (sym (inside lt)) (need lt)
      by (no past) = let le : sizes.blocks ≤ block.0 = omega arith in subst P (sym (outside le)) (odd le)

  pub need_says : (found : Entries) (call : Call) → CallStops sizes found call (stopped.Need block) → OutcomeSays sizes found call o
  need_says found call h = either (OutcomeSays sizes found call) (λ lt. h) (λ le state tree p. let lt = footprint_is_within sizes state tree call block.0 p.shows (h.1 state tree p) in absurd (omega arith))

  pub need_within : NeedsWithin sizes o
  need_within = either (NeedsWithin sizes) (λ lt b e. subst (λ n. n < sizes.blocks) e lt) (λ le b no_. absurd no_)

  pub need_undone : IsUndone o
  need_undone = either IsUndone (λ lt. tt) (λ le. tt)

  pub need_nothing : count_written o ≡ 0
  need_nothing = either (λ x. count_written x ≡ 0) (λ lt. refl) (λ le. refl)
