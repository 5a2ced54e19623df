use Rattle.std.proofs.Common.{◌≡◌, ◌≢◌, ℕ, ◌<◌, length, subst, sym, ap, ◌∙◌, arith, set, length-set}
use Rattle.std.specs.List.{All}
use Rattle.std.proofs.lemmas.List.{get_or-set_same, get_or-set_other}
use Rattle.std.proofs.lemmas.List.Elements.{All-set}
use Rattle.std.proofs.lemmas.Grind.{common_steps}
use Rattle.zj_block.specs.Block.{IsContent, zero_content}
use Rattle.zj_block.specs.Sizes.{map_blocks}
use Rattle.zj_layout.specs.Image.{State, block_at}
use Rattle.zj_layout.specs.Format.{IsMadeMap, IsMadeRoot}
use Rattle.zj_layout.proofs.Formatted.{made_shows_root}
use Rattle.zj_layout.proofs.formatting.format.Goals as goal

pub returns : goal.returns
returns c =
    let sizes = c.args.sizes.now in
    let old = c.loop-block.blocks in
    let new = c.put-put-2.new.self in
    let at = map_blocks sizes in
    let within : at < length old = omega (arith, c.blocks-2.ensures.limits.some_data, c.loop-block.invariant.many) in
    let is : new ≡ set old at c.made_root.result = grind (arith, common_steps) in
    let all : All IsContent new = subst (All IsContent) (sym is) (All-set IsContent old at c.made_root.result c.made_root.ensures.content c.loop-block.invariant.contents) in
    let same = λ (k : ℕ) (ne : k ≢ at). ap (λ (s : State). block_at s k) is ∙ get_or-set_other old at k c.made_root.result zero_content ne in
    record {
      shows = made_shows_root sizes new
          (record { limits = c.blocks-2.ensures.limits; many = ap length is ∙ length-set old at c.made_root.result ∙ c.loop-block.invariant.many; contents = all })
          (λ k lt. subst (IsMadeMap sizes k) (sym (same k (omega arith))) (c.loop-block.invariant.made k (omega arith)))
          (subst IsMadeRoot (sym (ap (λ (s : State). block_at s at) is ∙ get_or-set_same old at c.made_root.result zero_content within)) c.made_root.ensures.nodes)
          (λ k lt. same k (omega arith) ∙ c.loop-block.invariant.zero k (omega arith));
    }
