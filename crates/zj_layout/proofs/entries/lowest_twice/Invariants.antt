use Rattle.std.proofs.Common.{◌<◌}
use Rattle.zj_layout.specs.Graph.{links_of}
use Rattle.zj_layout.specs.Image.{image_of, graph_of, item_block}
use Rattle.zj_layout.specs.Read.{IsNewName, Lowers}
use Rattle.zj_layout.proofs.entries.lowest_twice.Given as goal

abbrev pub invariant-loop-place : goal.invariant-loop-place
invariant-loop-place l = Lowers (λ k. k < l.place) (IsNewName (links_of (graph_of (image_of l.sizes l.blocks) l.dir))) (item_block (image_of l.sizes l.blocks) l.dir) l.bound l.lowest
