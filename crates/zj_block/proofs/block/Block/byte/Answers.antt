use Rattle.std.proofs.Common.{◌*◌, ◌/◌, ◌%◌, ◌^◌, arith}
use Rattle.std.proofs.lemmas.Grind.{common_steps}
use Rattle.std.proofs.lemmas.Nat.{and_mask}
use Rattle.zj_block.proofs.Parts.{byte_absent, byte_found}
use Rattle.zj_block.proofs.block.Block.byte.Goals as goal

pub returns-in_err-word-clause-byte : goal.returns-in_err-word-clause-byte
returns-in_err-word-clause-byte c = grind (arith, common_steps, byte_absent c.args.self.now c.args.at)

pub returns-clause-byte : goal.returns-clause-byte
returns-clause-byte c = grind (arith, common_steps, byte_found c.args.self.now c.args.at c.in_ok-word.word, and_mask (c.in_ok-word.word / 2 ^ (8 * (c.args.at % 8))) 8)
