use Rattle.std.proofs.Common.{length}
use Rattle.zj_home.proofs.FieldReads.{u64_front}
use Rattle.zj_home.proofs.slot.u64_in.Goals as goal

pub returns : goal.returns
returns c = u64_front c.args.bytes.now c.args.at (length c.args.bytes.now) c.read_u64.result c.requires c.read_u64.ensures
