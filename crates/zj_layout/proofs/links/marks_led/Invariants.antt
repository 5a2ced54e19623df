use Rattle.std.proofs.Common.{◌<◌}
use Rattle.zj_layout.specs.Image.{image_of, graph_of}
use Rattle.zj_layout.specs.Linked.{MarksLed}
use Rattle.zj_layout.proofs.links.marks_led.Given as goal

abbrev pub invariant-loop-dir : goal.invariant-loop-dir
invariant-loop-dir l = MarksLed l.sizes.nodes (graph_of (image_of l.sizes l.blocks)) (λ d p. d < l.dir) l.led.items l.again.items
