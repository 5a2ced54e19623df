use Rattle.zj_script.proofs.Unique.{one_input}
use Rattle.zj_script.proofs.laws.one_input.Goals as goal

pub returns : goal.returns
returns c = one_input c.one_line.ensures
