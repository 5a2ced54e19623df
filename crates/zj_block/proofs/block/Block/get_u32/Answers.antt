use Rattle.std.proofs.Common.{sym, ◌∙◌}
use Rattle.std.proofs.lemmas.Nat.{and_mask}
use Rattle.zj_block.proofs.Views.{u32_at-bytes}
use Rattle.zj_block.proofs.block.Block.get_u32.Goals as goal

pub returns-clause-value : goal.returns-clause-value
returns-clause-value c = and_mask c.window.result 32 ∙ sym (u32_at-bytes c.args.self.now c.args.at c.window.result (λ i below. sym (c.window.ensures i below)))
