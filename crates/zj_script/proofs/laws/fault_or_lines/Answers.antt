use Rattle.zj_script.proofs.Faults.{fault_or_lines}
use Rattle.zj_script.proofs.laws.fault_or_lines.Goals as goal

pub returns : goal.returns
returns c = fault_or_lines
