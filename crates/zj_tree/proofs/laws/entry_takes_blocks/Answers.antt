use Rattle.zj_tree.proofs.EntryLemmas as laws
use Rattle.zj_tree.proofs.laws.entry_takes_blocks.Goals as goal

pub returns : goal.returns
returns c = laws.entry_takes_blocks
