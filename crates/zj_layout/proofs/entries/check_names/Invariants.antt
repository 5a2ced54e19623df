use Rattle.zj_layout.specs.Graph.{links_of}
use Rattle.zj_layout.specs.Image.{image_of, graph_of}
use Rattle.zj_layout.specs.Read.{IsNewName}
use Rattle.zj_layout.proofs.Entered.{LowestOf}
use Rattle.zj_layout.proofs.entries.check_names.Given as goal

abbrev pub invariant-loop-dir : goal.invariant-loop-dir
invariant-loop-dir l = LowestOf (image_of l.sizes l.blocks) (λ dir. IsNewName (links_of (graph_of (image_of l.sizes l.blocks) dir))) l.sizes.blocks l.dir l.lowest
