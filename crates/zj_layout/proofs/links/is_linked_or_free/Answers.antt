use Rattle.std.proofs.Common.{◌≡◌, ◌≢◌, Bool, true, false, arith}
use Rattle.zj_layout.specs.declared.fields.Kind.TheVariants.{Free}
use Rattle.zj_layout.specs.Image.{image_of}
use Rattle.zj_layout.proofs.Entered.{link_dir, node_live}
use Rattle.zj_layout.proofs.Found.{linked, linked_marks}
use Rattle.zj_layout.proofs.links.is_linked_or_free.Goals as goal

differ : {b : Bool} → b ≡ false → b ≡ true → ⊥
differ e f = cc

pub returns-clause-yes : goal.returns-clause-yes
returns-clause-yes c = λ h live.
    let sizes = c.args.sizes.now in
    let im = image_of sizes c.args.blocks.now in
    let m = c.is_only.ensures.0 h in
    linked sizes.nodes im c.args.led.now c.args.again.now c.args.seen.now c.requires.led c.requires.reached (link_dir sizes c.args.blocks.now) c.args.number c.requires.within m.0 m.1 m.2

pub returns-clause-no : goal.returns-clause-no
returns-clause-no c = λ h.
    let sizes = c.args.sizes.now in
    let im = image_of sizes c.args.blocks.now in
    let other : c.node_of.result.kind ≢ Free = grind arith in (
      node_live im c.args.number c.node_of.result c.node_of.ensures other,
      λ l. differ h (c.is_only.ensures.1 (linked_marks sizes.nodes im c.args.led.now c.args.again.now c.args.seen.now c.requires.led c.requires.reached (link_dir sizes c.args.blocks.now) c.args.number c.requires.within l)),
    )
