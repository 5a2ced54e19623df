use Rattle.zj_script.proofs.Faults.{one_fault}
use Rattle.zj_script.proofs.laws.one_fault.Goals as goal

pub returns : goal.returns
returns c = one_fault
