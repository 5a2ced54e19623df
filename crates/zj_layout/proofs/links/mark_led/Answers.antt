use Rattle.std.proofs.Common.{◌+◌, List, length, set, true, sym, ap, subst, ◌∙◌, arith}
use Rattle.zj_layout.specs.declared.fields.Link.{Link}
use Rattle.zj_layout.specs.Image.{image_of, graph_of}
use Rattle.zj_layout.specs.Linked.{MarksLed}
use Rattle.zj_layout.proofs.Entered.{link_item}
use Rattle.zj_layout.proofs.Linking.{Before, marks_start, marks_more, marks_dir}
use Rattle.zj_layout.proofs.links.mark_led.Goals as goal

pub loop-link-init : goal.loop-link-init
loop-link-init c = marks_start c.args.sizes.now.nodes (graph_of (image_of c.args.sizes.now c.args.blocks.now)) c.args.dir c.args.led.now c.args.again.now c.requires.marks

pub bounds-again-node : goal.bounds-again-node
bounds-again-node c =
    let e = link_item c.args.sizes.now c.args.blocks.now c.requires.entries c.args.dir c.loop-link.link-index c.link-item.result c.deref-link-items.result.now (c.deref-link-items.ensures.value ∙ c.in_ok-links.ensures) c.loop-link-test.true c.link-item.is in
    omega (arith, e.within, c.loop-link.invariant.again_many)

pub bounds-led-node : goal.bounds-led-node
bounds-led-node c =
    let e = link_item c.args.sizes.now c.args.blocks.now c.requires.entries c.args.dir c.loop-link.link-index c.link-item.result c.deref-link-items.result.now (c.deref-link-items.ensures.value ∙ c.in_ok-links.ensures) c.loop-link-test.true c.link-item.is in
    omega (arith, e.within, c.loop-link.invariant.led_many)

pub bounds-again-node-in-loop-link : goal.bounds-again-node-in-loop-link
bounds-again-node-in-loop-link c =
    let e = link_item c.args.sizes.now c.args.blocks.now c.requires.entries c.args.dir c.loop-link.link-index c.link-item.result c.deref-link-items.result.now (c.deref-link-items.ensures.value ∙ c.in_ok-links.ensures) c.loop-link-test.true c.link-item.is in
    omega (arith, e.within, c.loop-link.invariant.again_many)

pub bounds-led-node-in-loop-link : goal.bounds-led-node-in-loop-link
bounds-led-node-in-loop-link c =
    let e = link_item c.args.sizes.now c.args.blocks.now c.requires.entries c.args.dir c.loop-link.link-index c.link-item.result c.deref-link-items.result.now (c.deref-link-items.ensures.value ∙ c.in_ok-links.ensures) c.loop-link-test.true c.link-item.is in
    omega (arith, e.within, c.loop-link.invariant.led_many)

pub loop-link-preserved : goal.loop-link-preserved
loop-link-preserved c =
    let g = graph_of (image_of c.args.sizes.now c.args.blocks.now) in
    let e = link_item c.args.sizes.now c.args.blocks.now c.requires.entries c.args.dir c.loop-link.link-index c.link-item.result c.deref-link-items.result.now (c.deref-link-items.ensures.value ∙ c.in_ok-links.ensures) c.loop-link-test.true c.link-item.is in
    subst (λ b. MarksLed c.args.sizes.now.nodes g (Before c.args.dir (c.loop-link.link-index + 1)) (set c.loop-link.led c.link-item.result.node true) (set c.loop-link.again c.link-item.result.node b)) (sym c.either.ensures)
    (marks_more c.args.sizes.now.nodes g c.args.dir c.loop-link.link-index c.link-item.result e.stands e.within c.loop-link.led c.loop-link.again c.loop-link.invariant)

pub returns : goal.returns
returns c =
    let g = graph_of (image_of c.args.sizes.now c.args.blocks.now) in
    let all = ap (λ (xs : List Link). length xs) (c.deref-link-items.ensures.value ∙ c.in_ok-links.ensures) in
    marks_dir c.args.sizes.now.nodes g c.args.dir c.loop-link.link-index c.loop-link.led c.loop-link.again (omega (arith, all)) c.loop-link.invariant
