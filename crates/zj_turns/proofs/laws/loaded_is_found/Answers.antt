use Rattle.zj_turns.proofs.Drawing as drawing
use Rattle.zj_turns.proofs.laws.loaded_is_found.Goals as goal

pub returns : goal.returns
returns c = drawing.loaded_is_found
