use Rattle.zj_changes.proofs.LawLemmas as laws
use Rattle.zj_changes.proofs.laws.unlinked_is_removed.Goals as goal

pub returns : goal.returns
returns c = laws.unlinked_is_removed
