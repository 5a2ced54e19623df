use Rattle.std.proofs.Common.{ap, ◌∙◌}
use Rattle.std.specs.Option.{unwrap_or}
use Rattle.std.proofs.lemmas.Option.{unwrap_or-slice_get}
use Rattle.zj_block.specs.Block.{bytes_of}
use Rattle.zj_layout.specs.Node.{byte_in}
use Rattle.zj_dirs.proofs.searching.map_byte.Goals as goal

pub returns-in-None : goal.returns-in-None
unfolding byte_in
returns-in-None c = ap (λ o. unwrap_or o 0) c.in-None.ensures.byte ∙ unwrap_or-slice_get (bytes_of c.args.b.now) c.args.place 0
