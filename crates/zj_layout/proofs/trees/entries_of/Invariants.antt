use Rattle.std.proofs.Common.{◌≡◌, map, take, length}
use Rattle.zj_layout.specs.Image.{image_of, graph_of}
use Rattle.zj_layout.specs.Linked.{shown_entry}
use Rattle.zj_layout.proofs.trees.entries_of.Given as goal

abbrev pub invariant-loop-one : goal.invariant-loop-one
invariant-loop-one l = l.entries.items ≡ map (shown_entry (graph_of (image_of l.sizes l.blocks))) (take (length l.yielded) l.fn.found.items)
