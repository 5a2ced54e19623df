use Rattle.zj_changes.proofs.LawLemmas as laws
use Rattle.zj_changes.proofs.laws.bytes_are_replaced.Goals as goal

pub returns : goal.returns
returns c = laws.bytes_are_replaced
