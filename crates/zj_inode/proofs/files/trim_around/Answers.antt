-- The content of one block more is put.
use Rattle.std.proofs.Common.{subst, arith}
use Rattle.zj_inode.proofs.Around.{adds_all, adds_more, adds_none}
use Rattle.zj_inode.specs.Files.{TrimsAround}
use Rattle.zj_inode.proofs.files.trim_around.Goals as goal

pub loop-j-init : goal.loop-j-init
loop-j-init c = adds_none c.args.taken.now c.args.built.now c.in_ok-written.written c.args.blocks.now c.args.low c.in_ok-written.ensures.trimmed c.in_ok-written.ensures.same

pub loop-j-preserved : goal.loop-j-preserved
loop-j-preserved c = adds_more c.args.taken.now c.args.built.now c.loop-j.written c.put_seen.new.written c.args.blocks.now c.args.low c.loop-j.j c.loop-j.invariant c.in_ok-put_seen.ensures.puts c.loop-j.auto.j c.in_ok-put_seen.ensures.few

pub returns-clause-trims : goal.returns-clause-trims
returns-clause-trims c =
    subst (λ n. TrimsAround c.args.taken.now c.args.built.now c.args.blocks.now c.args.low n c.loop-j.written) (omega (arith, c.requires.ordered, c.loop-j.auto.j-end, c.loop-j-test.false))
    (adds_all c.args.taken.now c.args.built.now c.loop-j.written c.args.blocks.now c.args.low c.loop-j.j c.loop-j.invariant)
