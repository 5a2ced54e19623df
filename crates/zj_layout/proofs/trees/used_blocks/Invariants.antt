use Rattle.std.proofs.Common.{◌≡◌, ◌≤◌, ◌*◌}
use Rattle.zj_layout.specs.Image.{image_of, count_of}
use Rattle.zj_layout.proofs.Total.{total}
use Rattle.zj_layout.proofs.trees.used_blocks.Given as goal

abbrev pub invariant-loop-number : goal.invariant-loop-number
invariant-loop-number l = record {
  named : l.used ≡ total (count_of (image_of l.sizes l.blocks)) l.number;
  few : l.used ≤ 12 * l.number;
}
