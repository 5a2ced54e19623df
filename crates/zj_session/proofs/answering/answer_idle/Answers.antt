use Rattle.std.proofs.Common.{IfOk, refl, subst, sym}
use Rattle.zj_session.specs.Answering.{DoesIdle}
use Rattle.zj_session.proofs.Acts.{device_same, idle_order, only_same}
use Rattle.zj_session.proofs.answering.answer_idle.Goals as goal

pub returns-in_default : goal.returns-in_default
returns-in_default g c = record { does = idle_order g.D.Disk.view c.args.cache.now c.args.core.now c.args.act.now c.requires.handled c.in_default.not-Call c.in_default.not-Begin c.in_default.not-Commit; only = only_same c.args.core.now c.args.core.now c.requires.known refl; device = device_same g.D.Disk.view c.args.core.now c.args.core.now refl; err = tt }

pub returns-in-Begin-clause-does : goal.returns-in-Begin-clause-does
returns-in-Begin-clause-does g c =
    subst (λ act. IfOk c.begin.result (DoesIdle g.D.Disk.view c.args.cache.now c.args.core.now c.begin.new.core act)) (sym c.in-Begin.is) (c.begin.ensures.does c.args.cache.now)

pub returns-in-Commit-clause-does : goal.returns-in-Commit-clause-does
returns-in-Commit-clause-does g c =
    subst (λ act. DoesIdle g.D.Disk.view c.args.cache.now c.args.core.now c.commit.new.core act c.commit.result) (sym c.in-Commit.is) (c.commit.ensures.does c.args.cache.now)
