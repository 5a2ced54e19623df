use Rattle.std.proofs.Common.{◌≡◌, Some, take}
use Rattle.zj_layout.specs.Graph.{follow}
use Rattle.zj_layout.specs.Image.{graph_of}
use Rattle.zj_dirs.specs.Possible.{Always}
use Rattle.zj_dirs.proofs.walking.walk_names.Given as goal

abbrev pub invariant-loop-name : goal.invariant-loop-name
invariant-loop-name l = Always l.sizes l.taken (λ image. follow (graph_of image) 0 (take l.name-index l.names) ≡ Some l.node)
