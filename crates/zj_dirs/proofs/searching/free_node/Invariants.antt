use Rattle.std.proofs.Common.{◌≢◌, ℕ, ◌*◌, ◌<◌}
use Rattle.zj_layout.specs.declared.fields.Kind.TheVariants.{Free}
use Rattle.zj_layout.specs.Image.{node_of}
use Rattle.zj_dirs.specs.Possible.{Made}
use Rattle.zj_dirs.proofs.searching.free_node.Given as goal

abbrev pub invariant-loop-k : goal.invariant-loop-k
invariant-loop-k l = (number : ℕ) → number < 8 * l.k → Made l.sizes l.taken l.written (λ image. (node_of image number).kind ≢ Free)
