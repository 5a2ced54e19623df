use Rattle.std.proofs.Common.{ℕ, ◌<◌}
use Rattle.zj_layout.specs.Image.{image_of}
use Rattle.zj_layout.specs.Read.{MarksNamed}
use Rattle.zj_layout.proofs.Ruled.{NamesApart}
use Rattle.zj_layout.proofs.rules.named_blocks.Given as goal

abbrev pub invariant-loop-number : goal.invariant-loop-number
invariant-loop-number l = record {
  named : MarksNamed l.sizes (image_of l.sizes l.blocks) l.number l.named.items;
  apart : (k : ℕ) → k < l.number → NamesApart (image_of l.sizes l.blocks) k;
}
