use Rattle.std.proofs.Common.{◌≢◌, ◌<◌, refl, sym, subst, below_more}
use Rattle.zj_layout.specs.Graph.{IsLive}
use Rattle.zj_layout.specs.Image.{image_of, graph_of}
use Rattle.zj_layout.specs.Linked.{IsLinked, MarksLed}
use Rattle.zj_layout.proofs.links.check_links.Goals as goal

pub is_linked_or_free-requires-clause-led : goal.is_linked_or_free-requires-clause-led
is_linked_or_free-requires-clause-led c =
    let n = c.args.sizes.now.nodes in
    let g = graph_of (image_of c.args.sizes.now c.args.blocks.now) in
    subst (λ xs. MarksLed n g (λ d p. d < n) xs c.deref-in-loop-number.result.now) (sym c.deref.ensures.value)
    (subst (MarksLed n g (λ d p. d < n) c.in_ok-led.led.items) (sym c.deref-in-loop-number.ensures.value) c.in_ok-led.ensures)

pub loop-number-preserved : goal.loop-number-preserved
loop-number-preserved c = below_more (λ k. k ≢ 0 → IsLive (graph_of (image_of c.args.sizes.now c.args.blocks.now) k) → IsLinked (image_of c.args.sizes.now c.args.blocks.now) k) c.loop-number.number c.loop-number.invariant (λ ne live. c.if-not-is_linked_or_free.ensures.yes refl live)
