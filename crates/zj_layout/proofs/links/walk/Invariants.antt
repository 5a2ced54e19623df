use Rattle.std.proofs.Common.{◌≤◌, ◌-◌, length}
use Rattle.zj_layout.specs.Image.{image_of, graph_of}
use Rattle.zj_layout.specs.Linked.{AreFound, MarksFound, IsClosed}
use Rattle.zj_layout.proofs.links.walk.Given as goal

abbrev pub invariant-loop-at : goal.invariant-loop-at
invariant-loop-at l = record {
  found : AreFound l.sizes.nodes (graph_of (image_of l.sizes l.blocks)) l.found.items;
  marks : MarksFound l.sizes.nodes l.found.items l.seen.items;
  closed : IsClosed (graph_of (image_of l.sizes l.blocks)) l.found.items l.seen.items l.at;
  few : l.at ≤ length l.found.items;
}

abbrev pub decreases-loop-at : goal.decreases-loop-at
decreases-loop-at l = l.sizes.nodes - l.at
