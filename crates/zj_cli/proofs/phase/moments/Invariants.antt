use Rattle.zj_cli.proofs.PhaseLemmas.{AreMomentsTo}
use Rattle.zj_cli.proofs.phase.moments.Given as goal

abbrev pub invariant-loop-core : goal.invariant-loop-core
invariant-loop-core g l = AreMomentsTo g.D.Disk.view l.home.device l.fn.areas.areas l.moments l.core
