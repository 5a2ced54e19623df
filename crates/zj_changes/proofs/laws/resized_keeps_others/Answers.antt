use Rattle.zj_changes.proofs.LawLemmas as laws
use Rattle.zj_changes.proofs.laws.resized_keeps_others.Goals as goal

pub returns : goal.returns
returns c = laws.resized_keeps_others
