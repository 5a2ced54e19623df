use Rattle.zj_dirs.proofs.Seen.{free_as_found}
use Rattle.zj_dirs.proofs.laws.found_free_is_free.Goals as goal

pub returns : goal.returns
returns c = λ sizes found block f lt state tree p. free_as_found sizes found state tree p block f lt
