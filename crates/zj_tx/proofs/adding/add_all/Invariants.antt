use Rattle.std.proofs.Common.{◌≡◌, ℕ, ◌+◌, ◌≤◌, length, take}
use Rattle.std.specs.Prelude.{is_none}
use Rattle.std.specs.FinMap as map_of
use Rattle.std.specs.List.{AllByRecursion, count_by}
use Rattle.std.specs.Option.{option_or}
use Rattle.std.specs.Ordering.{nat_cmp}
use Rattle.std.specs.Vec.{vec_capacity}
use Rattle.zj_tx.specs.Record.{Ascends, IsPart}
use Rattle.zj_tx.specs.Frozen.{image_in}
use Rattle.zj_tx.specs.Running.{stamped}
use Rattle.zj_tx.proofs.adding.add_all.Given as goal

abbrev pub invariant-loop-i : goal.invariant-loop-i
invariant-loop-i l = record {
  images : (block : ℕ) → image_in l.blocks.items block ≡ option_or (stamped l.stamp.0 (map_of.find nat_cmp block (take l.i (map_of.entries l.written)))) (image_in l.initial.blocks.items block);
  ascending : Ascends 0 l.blocks.items;
  many : length l.blocks.items ≡ length l.initial.blocks.items + count_by (λ e. is_none (image_in l.initial.blocks.items e.0)) (take l.i (map_of.entries l.written));
  fit : AllByRecursion IsPart l.initial.blocks.items → AllByRecursion IsPart l.blocks.items;
  capacity : vec_capacity l.initial.blocks ≤ vec_capacity l.blocks;
}
