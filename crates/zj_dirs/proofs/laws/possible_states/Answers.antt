use Rattle.zj_dirs.proofs.Walks.{possible_rooted, possible_stored}
use Rattle.zj_dirs.proofs.laws.possible_states.Goals as goal

pub returns : goal.returns
returns c = record {
  stored = λ sizes found state tree p. possible_stored sizes state tree p.shows;
  rooted = λ sizes found state tree p. possible_rooted sizes state tree p.shows;
}
