use Rattle.std.proofs.Common.{◌<◌}
use Rattle.zj_layout.specs.Image.{image_of, item_block}
use Rattle.zj_layout.specs.Read.{LeadsOn, Lowers}
use Rattle.zj_layout.proofs.entries.lowest_astray.Given as goal

abbrev pub invariant-loop-place : goal.invariant-loop-place
invariant-loop-place l = Lowers (λ k. k < l.place) (LeadsOn l.sizes (image_of l.sizes l.blocks) l.dir) (item_block (image_of l.sizes l.blocks) l.dir) l.bound l.lowest
