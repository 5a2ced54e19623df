use Rattle.zj_changes.proofs.LawLemmas as laws
use Rattle.zj_changes.proofs.laws.shown_is_held.Goals as goal

pub returns : goal.returns
returns c = laws.shown_is_held
