use Rattle.std.proofs.Common.{arith}
use Rattle.zj_dev.proofs.Histories.{is_disk}
use Rattle.zj_dev.proofs.mem_disk.MemDiskDisk.len.Goals as goal

pub returns-clause-is_disk : goal.returns-clause-is_disk
returns-clause-is_disk c = is_disk _ _ _ _ _ _ c.args.self.now.history_is (omega arith)
