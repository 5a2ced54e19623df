use Rattle.std.proofs.Common.{◌+◌, ◌*◌, arith, sym}
use Rattle.std.proofs.lemmas.List.FromFn.{fill_by_all}
use Rattle.zj_block.specs.Block.{u32_at}
use Rattle.zj_layout.proofs.Kept.{kept_none, kept_two, numbers_more}
use Rattle.zj_layout.proofs.writing.put_numbers.Goals as goal

pub loop-j-init : goal.loop-j-init
loop-j-init c = record { there = λ k lt. absurd (omega arith); others = kept_none _ _ _; content = c.words-words.ensures.content }

pub loop-j-preserved : goal.loop-j-preserved
loop-j-preserved c = record {
  there = numbers_more c.loop-j.b c.put_number.new.b c.args.at c.loop-j.j c.args.numbers.now c.loop-j.invariant.there c.put_number.ensures.others c.put_number.ensures.here;
  others = kept_two c.args.b.now c.loop-j.b c.put_number.new.b c.args.at 48 (c.args.at + 4 * c.loop-j.j) 4 c.args.at 48 c.loop-j.invariant.others c.put_number.ensures.others (omega arith) (omega arith) (omega arith) (omega arith);
  content = c.put_number.ensures.content;
}

pub returns-clause-here : goal.returns-clause-here
returns-clause-here c = sym (fill_by_all (λ j. u32_at c.loop-j.b (c.args.at + 4 * j)) c.args.numbers.now 12 0 c.told-numbers (λ k lt. sym (c.loop-j.invariant.there k (omega arith))))
