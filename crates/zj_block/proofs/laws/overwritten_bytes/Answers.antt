use Rattle.zj_block.proofs.Views.{get_or-overwritten}
use Rattle.zj_block.proofs.laws.overwritten_bytes.Goals as goal

pub returns : goal.returns
returns c = get_or-overwritten
