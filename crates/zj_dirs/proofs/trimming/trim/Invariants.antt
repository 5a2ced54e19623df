use Rattle.zj_dirs.proofs.Trimmed.{TrimsFirst}
use Rattle.zj_dirs.proofs.trimming.trim.Given as goal

abbrev pub invariant-loop-i : goal.invariant-loop-i
invariant-loop-i l = TrimsFirst l.taken l.built l.written l.i
