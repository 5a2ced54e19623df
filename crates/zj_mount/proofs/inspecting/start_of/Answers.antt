use Rattle.std.proofs.Common.{sym, ◌∙◌}
use Rattle.zj_closure.proofs.BoundLists.{tail_of-none}
use Rattle.zj_mount.proofs.inspecting.start_of.Goals as goal

pub returns-in-None : goal.returns-in-None
returns-in-None g c = sym (tail_of-none c.args.home.now.told.tails c.args.core (sym c.tail.ensures.tail ∙ c.in-None.is))
