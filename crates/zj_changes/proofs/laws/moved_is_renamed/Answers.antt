use Rattle.zj_changes.proofs.LawLemmas as laws
use Rattle.zj_changes.proofs.laws.moved_is_renamed.Goals as goal

pub returns : goal.returns
returns c = laws.moved_is_renamed
