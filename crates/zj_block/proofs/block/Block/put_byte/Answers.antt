use Rattle.std.proofs.Common.{arith}
use Rattle.std.proofs.lemmas.Grind.{common_steps}
use Rattle.zj_block.proofs.Views.{with_bytes_at-is}
use Rattle.zj_block.proofs.block.Block.put_byte.Goals as goal

pub returns-clause-put : goal.returns-clause-put
returns-clause-put c = grind (arith, common_steps, with_bytes_at-is)
