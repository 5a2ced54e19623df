use Rattle.std.proofs.Common.{◌≡◌, map}
use Rattle.std.specs.List.{range_with_len}
use Rattle.zj_layout.specs.Image.{image_of, link_or_none}
use Rattle.zj_layout.proofs.image.links.Given as goal

abbrev pub invariant-loop-place : goal.invariant-loop-place
invariant-loop-place l = l.links.items ≡ map (link_or_none (image_of l.sizes l.blocks) l.dir) (range_with_len 0 l.place)
