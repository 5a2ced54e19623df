use Rattle.std.proofs.Common.{refl, arith}
use Rattle.zj_dev.proofs.Faults.{not_stopped, quiet}
use Rattle.zj_dev.proofs.Histories.{leaves_all}
use Rattle.zj_dev.proofs.mem_disk.MemDisk.count.Goals as goal

pub returns-clause-all : goal.returns-clause-all
returns-clause-all c = leaves_all _ _ _ _ _ _ _ _ c.args.self.now.history_is (omega arith) (omega arith) (λ k l. refl)

pub returns-clause-quiet : goal.returns-clause-quiet
returns-clause-quiet c = λ none.
    let d = c.args.self.now in
    let early = not_stopped d.failing.items d.stop d.calls none in
    quiet _ d.calls _ (omega (arith, d.ends)) (omega arith) none
