use Rattle.zj_layout.specs.Image.{image_of, graph_of}
use Rattle.zj_layout.specs.Linked.{MarksLed}
use Rattle.zj_layout.proofs.Linking.{Before}
use Rattle.zj_layout.proofs.links.mark_led.Given as goal

abbrev pub invariant-loop-link : goal.invariant-loop-link
invariant-loop-link l = MarksLed l.sizes.nodes (graph_of (image_of l.sizes l.blocks)) (Before l.dir l.link-index) l.led l.again
