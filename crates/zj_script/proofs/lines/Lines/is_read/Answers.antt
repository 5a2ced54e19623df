use Rattle.zj_script.proofs.Inputs.{none_left_of}
use Rattle.zj_script.proofs.lines.Lines.is_read.Goals as goal

pub returns : goal.returns
returns c = none_left_of c.args.self.now.rest c.is_none.result c.is_none.ensures
