use Rattle.std.proofs.Common.{length}
use Rattle.zj_home.proofs.FieldReads.{u32_front}
use Rattle.zj_home.proofs.slot.u32_in.Goals as goal

pub returns : goal.returns
returns c = u32_front c.args.bytes.now c.args.at (length c.args.bytes.now) c.read_u32.result c.requires c.read_u32.ensures
