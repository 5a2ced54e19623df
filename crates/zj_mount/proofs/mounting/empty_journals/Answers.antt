use Rattle.std.proofs.Common.{ap, arith}
use Rattle.zj_block.specs.Sizes.{Numbers}
use Rattle.zj_mount.proofs.mounting.empty_journals.Goals as goal

pub returns-clause-told : goal.returns-clause-told
returns-clause-told g c core below =
    let same = ap (λ (n : Numbers). n.cores) c.sizes.ensures in
    c.loop-core.invariant.told core (omega (arith, below, c.cores-core-end.ensures.value, same, c.loop-core-test.false))
