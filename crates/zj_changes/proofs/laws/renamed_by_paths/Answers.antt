use Rattle.zj_changes.proofs.LawLemmas as laws
use Rattle.zj_changes.proofs.laws.renamed_by_paths.Goals as goal

pub returns : goal.returns
returns c = laws.renamed_by_paths
