use Rattle.zj_session.proofs.Least.{IsAtMost, IsOfOne}
use Rattle.zj_session.proofs.service.Service.left.Given as goal

abbrev pub invariant-loop-core : goal.invariant-loop-core
invariant-loop-core g l = record {
  at_most : IsAtMost l.self.cores l.core-index l.least;
  least : IsOfOne l.self.cores l.core-index l.least;
}
