use Rattle.std.proofs.Common.{[], ◌∷◌, arith}
use Rattle.zj_layout.proofs.Kept.{kept_put, byte_put}
use Rattle.zj_layout.proofs.writing.put_byte.Goals as goal

pub returns-clause-here : goal.returns-clause-here
returns-clause-here c = byte_put c.args.b.now c.put_byte-put.new.self c.args.at c.args.byte c.words-words.ensures.content c.requires (grind arith)

pub returns-clause-others : goal.returns-clause-others
returns-clause-others c = kept_put c.args.b.now c.put_byte-put.new.self c.args.at (c.args.byte ∷ []) c.words-words.ensures.content (omega arith) (grind arith)
