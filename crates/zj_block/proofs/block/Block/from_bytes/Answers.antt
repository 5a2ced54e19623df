use Rattle.std.proofs.Common.{ap, ◌∙◌, arith}
use Rattle.zj_block.specs.Block.{IsBytes, bytes_of}
use Rattle.zj_block.proofs.Bytes.{bytes_of-words_of}
use Rattle.zj_block.proofs.Copies.{read_all, read_more}
use Rattle.zj_block.proofs.Views.{IsContent-words_of}
use Rattle.zj_block.proofs.block.Block.from_bytes.Goals as goal

pub loop-i-preserved : goal.loop-i-preserved
loop-i-preserved c = read_more c.args.bytes.now c.loop-i.word-items c.loop-i.i c.read_u64.result c.told-bytes c.loop-i-test.true c.loop-i.invariant.0 c.loop-i.invariant.1 c.read_u64.ensures

pub returns-clause-words : goal.returns-clause-words
returns-clause-words c = read_all c.args.bytes.now c.loop-i.word-items c.told-bytes c.loop-i.invariant.0 (λ k below. c.loop-i.invariant.1 k (omega arith))

pub returns-clause-content : goal.returns-clause-content
returns-clause-content c =
    let is : IsBytes c.args.bytes.now = record { many = c.told-bytes; fits = c.fits-bytes } in
    rw (returns-clause-words c) (IsContent-words_of c.args.bytes.now is)

pub invariant_of-result : goal.invariant_of-result
invariant_of-result c = returns-clause-content c

pub returns-clause-bytes : goal.returns-clause-bytes
returns-clause-bytes c = ap bytes_of (returns-clause-words c) ∙ bytes_of-words_of c.args.bytes.now 64 c.told-bytes c.fits-bytes
