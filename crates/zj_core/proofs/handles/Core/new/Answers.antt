-- A core of an idle pass has taken nothing.
use Rattle.std.proofs.Common.{ap, ◌∙◌}
use Rattle.zj_block.specs.declared.numbers.Tail.{Tail}
use Rattle.zj_tx.specs.Running.{empty_transaction}
use Rattle.zj_core.proofs.Resting.{core_made}
use Rattle.zj_core.proofs.handles.Core.new.Goals as goal

pub invariant_of-result : goal.invariant_of-result
invariant_of-result g c =
    core_made c.args.pass c.args.area c.args.sizes.now c.noted_are_bounds.ensures.none c.sealed_is_frozen.ensures.none c.requires.idle c.requires.core c.requires.sizes c.requires.ready c.requires.none c.new-running.result
    (c.new-running.ensures ∙ (λ i. empty_transaction ((c.core.ensures.core ∙ c.requires.core) i) (c.cores.ensures.value i) ((ap (λ (t : Tail). t.number) c.end.ensures.end) i)))
