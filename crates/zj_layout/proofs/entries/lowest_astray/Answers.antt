use Rattle.std.proofs.Common.{◌≡◌, ◌+◌, ◌<◌, min, Bool, IsTrue, false, sym, subst, ap, ◌∙◌}
use Rattle.zj_layout.specs.Image.{image_of, item_block}
use Rattle.zj_layout.specs.Read.{LeadsOn, Lowers}
use Rattle.zj_layout.proofs.Entered.{lowers_good, lowers_bad}
use Rattle.zj_layout.proofs.entries.lowest_astray.Goals as goal
use Rattle.zj_layout.proofs.entries.lowest_astray.Goals.{then-not-leads_on, else-not-leads_on}

no_leads : {b : Bool} → b ≡ false → IsTrue b → ⊥
no_leads h e = cc

pub loop-place-preserved : goal.loop-place-preserved
loop-place-preserved c =
    let im = image_of c.args.sizes.now c.args.blocks.now in
    let good = lowers_good (LeadsOn c.args.sizes.now im c.args.dir) (item_block im c.args.dir) c.args.bound c.loop-place.lowest c.loop-place.place c.loop-place.invariant in
    let bad = lowers_bad (LeadsOn c.args.sizes.now im c.args.dir) (item_block im c.args.dir) c.args.bound c.loop-place.lowest c.loop-place.place c.loop-place.invariant in
    elim c.if-not-leads_on.branch [
      | then-not-leads_on w ↦ subst (Lowers (λ k. k < c.loop-place.place + 1) (LeadsOn c.args.sizes.now im c.args.dir) (item_block im c.args.dir) c.args.bound) (sym (w.lowest-is ∙ w.min-lowest.ensures ∙ ap (min c.loop-place.lowest) w.entry_block.ensures.value)) (bad (λ leads. no_leads w.if-not-leads_on.true (c.leads_on.ensures.1 leads)))
      | else-not-leads_on w ↦ subst (Lowers (λ k. k < c.loop-place.place + 1) (LeadsOn c.args.sizes.now im c.args.dir) (item_block im c.args.dir) c.args.bound) (sym w.lowest-is) (good (c.leads_on.ensures.0 w.if-not-leads_on.false))
    ]
