use Rattle.zj_changes.proofs.LawLemmas as laws
use Rattle.zj_changes.proofs.laws.made_is_inserted.Goals as goal

pub returns : goal.returns
returns c = laws.made_is_inserted
