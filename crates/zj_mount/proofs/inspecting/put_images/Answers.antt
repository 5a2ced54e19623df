use Rattle.std.proofs.Common.{◌≡◌, length, subst, arith}
use Rattle.zj_mount.proofs.InspectLemmas.{AreOver, over_next, over_all}
use Rattle.zj_mount.proofs.inspecting.put_images.Goals as goal

pub loop-i-preserved : goal.loop-i-preserved
loop-i-preserved c =
    over_next c.args.images.now c.args.blocks.now c.loop-i.blocks c.put_image.new.blocks c.loop-i.i c.len-i-end.ensures.ascending (omega (arith, c.loop-i-test.true, c.loop-i.auto.i-end, c.len-i-end.ensures.len)) c.put_image.ensures c.loop-i.invariant

pub returns-clause-recovered : goal.returns-clause-recovered
returns-clause-recovered c records newest =
    let end : c.loop-i.i ≡ length c.args.images.now = omega (arith, c.loop-i-test.false, c.loop-i.auto.i-end, c.len-i-end.ensures.len) in
    over_all c.args.images.now c.args.blocks.now c.loop-i.blocks records (subst (AreOver c.args.images.now c.args.blocks.now c.loop-i.blocks) end c.loop-i.invariant) newest
