use Rattle.zj_changes.proofs.LawLemmas as laws
use Rattle.zj_changes.proofs.laws.cut_is_truncated.Goals as goal

pub returns : goal.returns
returns c = laws.cut_is_truncated
