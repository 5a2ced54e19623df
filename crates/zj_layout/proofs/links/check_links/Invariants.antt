use Rattle.std.proofs.Common.{◌≢◌, ℕ, ◌<◌}
use Rattle.zj_layout.specs.Graph.{IsLive}
use Rattle.zj_layout.specs.Image.{image_of, graph_of}
use Rattle.zj_layout.specs.Linked.{IsLinked}
use Rattle.zj_layout.proofs.links.check_links.Given as goal

abbrev pub invariant-loop-number : goal.invariant-loop-number
invariant-loop-number l = (k : ℕ) → k < l.number → k ≢ 0 → IsLive (graph_of (image_of l.sizes l.blocks) k) → IsLinked (image_of l.sizes l.blocks) k
