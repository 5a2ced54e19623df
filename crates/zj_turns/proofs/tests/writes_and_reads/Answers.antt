use Rattle.std.proofs.Common.{sym, subst}
use Rattle.zj_turns.specs.Passes.{IsIdle}
use Rattle.zj_turns.proofs.Lone.{fresh_idle, fresh_left}
use Rattle.zj_turns.proofs.tests.writes_and_reads.Goals as goal

pub add_one-pass-requires-clause-idle : goal.add_one-pass-requires-clause-idle
add_one-pass-requires-clause-idle c = subst (IsIdle c.args.cache.now.table 0) (sym c.requires.fresh) (fresh_idle c.args.cache.now.table 0)

pub add_one-pass-requires-clause-room : goal.add_one-pass-requires-clause-room
add_one-pass-requires-clause-room c = fresh_left c.args.cache.now.table 0 c.args.pass c.requires.fresh
