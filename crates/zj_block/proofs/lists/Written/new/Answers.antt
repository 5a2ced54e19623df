use Rattle.zj_block.proofs.SortedEntries.{empty_is}
use Rattle.zj_block.proofs.lists.Written.new.Goals as goal

pub returns : goal.returns
returns c = empty_is c.new.result.items c.new.ensures.items
