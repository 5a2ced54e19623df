use Rattle.std.proofs.Common.{◌+◌, arith}
use Rattle.zj_layout.proofs.Kept.{kept_none, kept_two, bytes_more, field_is}
use Rattle.zj_layout.proofs.writing.put_field.Goals as goal

pub loop-j-init : goal.loop-j-init
loop-j-init c = record { there = λ k lt. absurd (omega arith); others = kept_none _ _ _; content = c.words-words.ensures.content }

pub loop-j-preserved : goal.loop-j-preserved
loop-j-preserved c = record {
  there = bytes_more c.loop-j.b c.put_byte.new.b c.args.at c.loop-j.j c.args.name.now c.loop-j.invariant.there c.put_byte.ensures.others (grind arith);
  others = kept_two c.args.b.now c.loop-j.b c.put_byte.new.b c.args.at 26 (c.args.at + c.loop-j.j) 1 c.args.at 26 c.loop-j.invariant.others c.put_byte.ensures.others (omega arith) (omega arith) (omega arith) (omega arith);
  content = c.put_byte.ensures.content;
}

pub returns-clause-here : goal.returns-clause-here
returns-clause-here c = field_is c.loop-j.b c.args.name.now c.args.at c.requires.short (λ k lt. c.loop-j.invariant.there k (omega arith))
