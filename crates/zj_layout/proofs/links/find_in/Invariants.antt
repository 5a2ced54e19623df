use Rattle.std.proofs.Common.{length}
use Rattle.zj_layout.specs.Image.{image_of, graph_of}
use Rattle.zj_layout.proofs.Found.{Walks}
use Rattle.zj_layout.proofs.links.find_in.Given as goal

abbrev pub invariant-loop-link : goal.invariant-loop-link
invariant-loop-link l = Walks l.sizes.nodes (graph_of (image_of l.sizes l.blocks)) l.found.items l.seen l.at l.link-index l.dir (length l.initial.found.items)
