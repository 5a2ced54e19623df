use Rattle.std.proofs.Common.{arith}
use Rattle.zj_block.proofs.Views.{u32_at_put}
use Rattle.std.specs.Int.{to_le_bytes, w32}
use Rattle.zj_layout.proofs.Kept.{kept_put}
use Rattle.zj_layout.proofs.writing.put_number.Goals as goal

pub returns-clause-here : goal.returns-clause-here
returns-clause-here c = u32_at_put c.args.b.now c.put_u32-put.new.self c.args.at c.words-words.ensures.content c.requires c.args.number c.ranges.number.fits (grind arith)

pub returns-clause-others : goal.returns-clause-others
returns-clause-others c = kept_put c.args.b.now c.put_u32-put.new.self c.args.at (to_le_bytes w32 c.args.number) c.words-words.ensures.content c.requires (grind arith)
