use Rattle.zj_changes.proofs.LawLemmas as laws
use Rattle.zj_changes.proofs.laws.range_is_overwritten.Goals as goal

pub returns : goal.returns
returns c = laws.range_is_overwritten
