-- The block agrees with the state.
use Rattle.std.proofs.Common.{◌≡◌, Some, sym, ap, ◌∙◌}
use Rattle.std.specs.Prelude.{slice_get, option_copied}
use Rattle.std.proofs.lemmas.Result.{on_ok_weaker}
use Rattle.zj_volume.proofs.Takes.{agrees_more}
use Rattle.zj_volume.proofs.serving.take.Goals as goal

pub returns-clause-agrees : goal.returns-clause-agrees
returns-clause-agrees c =
    let is : slice_get c.args.blocks.now c.args.block.0 ≡ Some c.unwrap-content.result.now = sym c.at.ensures.block ∙ ap option_copied c.unwrap-content.ensures in
    on_ok_weaker c.add.result
    (λ under. agrees_more c.args.taken.now c.add.new.self c.args.blocks.now c.args.block.0 c.unwrap-content.result.now under c.requires.agrees is)
    c.add.ensures.under
