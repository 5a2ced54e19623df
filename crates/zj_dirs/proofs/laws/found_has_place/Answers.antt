use Rattle.zj_dirs.proofs.Unwritten.{stands_at_place}
use Rattle.zj_dirs.proofs.laws.found_has_place.Goals as goal

pub returns : goal.returns
returns c = stands_at_place
