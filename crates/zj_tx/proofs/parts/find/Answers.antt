use Rattle.std.specs.Prelude.{slice_get}
use Rattle.std.proofs.Common.{◌≡◌, ℕ, ◌<◌, List, ltb-true, ltb-false, length, get_or, Some, sym, ap, ◌∙◌, arith}
use Rattle.std.specs.Option.{option_copied, option_map}
use Rattle.std.proofs.lemmas.List.{get_or_default}
use Rattle.std.proofs.lemmas.Option.{slice_get-get_or}
use Rattle.zj_tx.specs.declared.part.Part.{Part}
use Rattle.zj_tx.specs.Parts.{part_image}
use Rattle.zj_tx.proofs.PartLists.{found_at, missing_at}
use Rattle.zj_tx.proofs.parts.find.Goals as goal

-- an element that was read
stands : (parts : List Part) (at : ℕ) (p : Part) → at < length parts → p ≡ get_or parts at p → slice_get parts at ≡ Some p
stands parts at p lt read = slice_get-get_or parts at p lt ∙ ap (λ x. Some x) (sym read)

pub returns-in_err-part : goal.returns-in_err-part
returns-in_err-part c = ap (λ o. option_map part_image (option_copied o)) c.from_residual.ensures
    ∙ sym (missing_at c.args.parts.now c.args.block c.place.result c.requires c.place.ensures (λ d lt. absurd (omega (arith, lt, ltb-false c.place.result (length c.args.parts.now) (sym c.in_err-part.ensures.lookup.0)))))

pub returns-then-part-block : goal.returns-then-part-block
returns-then-part-block c = sym (found_at c.args.parts.now c.args.block c.place.result c.in_ok-part.part.now c.requires c.place.ensures (stands c.args.parts.now c.place.result c.in_ok-part.part.now (ltb-true c.place.result (length c.args.parts.now) (sym c.in_ok-part.ensures.lookup.0)) c.in_ok-part.ensures.lookup.1) c.if-part-block.true)

pub returns-else-part-block : goal.returns-else-part-block
returns-else-part-block c = sym (missing_at c.args.parts.now c.args.block c.place.result c.requires c.place.ensures (λ d lt same. c.if-part-block.false (ap (λ (p : Part). p.block.0) (c.in_ok-part.ensures.lookup.1 ∙ get_or_default c.args.parts.now c.place.result c.in_ok-part.part.now d lt) ∙ same)))
