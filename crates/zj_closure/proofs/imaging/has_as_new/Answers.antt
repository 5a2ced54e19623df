use Rattle.std.proofs.Common.{◌≡◌, ◌<◌, Some, length, ltb-true, sym, ap, ◌∙◌}
use Rattle.std.specs.Prelude.{slice_get}
use Rattle.std.proofs.lemmas.Option.{slice_get-get_or}
use Rattle.zj_tx.specs.declared.part.Part.{Part}
use Rattle.zj_closure.proofs.NewestLemmas.{none_newer}
use Rattle.zj_closure.proofs.imaging.has_as_new.Goals as goal

pub returns : goal.returns
returns c = λ content.
    let part = c.in-Some.part.now in
    let lt : c.args.at < length c.args.images.now = ltb-true c.args.at (length c.args.images.now) (sym c.in-Some.ensures.lookup.0) in
    let stands : slice_get c.args.images.now c.args.at ≡ Some part = slice_get-get_or c.args.images.now c.args.at part lt ∙ ap (λ (p : Part). Some p) (sym c.in-Some.ensures.lookup.1) in
    none_newer c.args.images.now c.args.at part (record { block = c.args.block; stamp = c.args.stamp; image = content }) c.requires stands c.if-part-block.false c.if-part-stamp.false
