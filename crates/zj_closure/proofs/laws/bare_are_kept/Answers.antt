use Rattle.zj_closure.proofs.Bare as laws
use Rattle.zj_closure.proofs.laws.bare_are_kept.Goals as goal

pub returns : goal.returns
returns c = laws.bare_are_kept
