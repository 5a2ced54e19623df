use Rattle.zj_script.proofs.Unique.{one_line}
use Rattle.zj_script.proofs.laws.one_line.Goals as goal

pub returns : goal.returns
returns c = one_line c.one_spelling.ensures
