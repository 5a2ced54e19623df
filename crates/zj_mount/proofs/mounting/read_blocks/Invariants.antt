use Rattle.std.proofs.Common.{◌≡◌, length}
use Rattle.std.specs.Prelude.{IfSome}
use Rattle.zj_dev.specs.Disk.{OnlyReads}
use Rattle.zj_home.specs.Made.{HoldsBlocks}
use Rattle.zj_mount.proofs.mounting.read_blocks.Given as goal

abbrev pub invariant-loop-number : goal.invariant-loop-number
invariant-loop-number g l = record {
  many : length l.blocks ≡ l.fn.home.told.sizes.blocks;
  held : IfSome (g.D.Disk.view l.fn.home.device).bytes (λ image. HoldsBlocks image l.blocks l.number);
  told : l.home.told ≡ l.fn.home.told;
  read : OnlyReads (g.D.Disk.view l.fn.home.device) (g.D.Disk.view l.home.device);
}
