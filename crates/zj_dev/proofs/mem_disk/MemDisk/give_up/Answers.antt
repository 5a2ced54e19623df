use Rattle.std.proofs.Common.{ℕ, ◌≡◌, ◌<◌, min, List, true, subst, sym, arith}
use Rattle.zj_dev.specs.Medium.{fails_at}
use Rattle.zj_dev.proofs.Faults.{rose, stops, stops_later}
use Rattle.zj_dev.proofs.Histories.{leaves_all, leaves_a_write}
use Rattle.zj_dev.proofs.mem_disk.MemDisk.give_up.Goals as goal

later : (failing : List ℕ) (stop calls least : ℕ) → least ≡ min stop calls → (k : ℕ) → k < calls → fails_at failing least k ≡ fails_at failing stop k
later failing stop calls least is k l = subst (λ (n : ℕ). fails_at failing n k ≡ fails_at failing stop k) (sym is) (stops_later failing stop calls k l)

pub returns-clause-all : goal.returns-clause-all
returns-clause-all c =
    leaves_all _ _ _ _ _ _ _ _ c.args.self.now.history_is (omega arith) (omega arith)
    (later c.args.self.now.failing.items c.args.self.now.stop c.args.self.now.calls c.min-self.result (omega arith))

pub returns-clause-write : goal.returns-clause-write
returns-clause-write c = λ at count.
    leaves_a_write at count _ _ _ _ _ _ _ _ c.args.self.now.history_is (omega arith) (omega arith)
    (later c.args.self.now.failing.items c.args.self.now.stop c.args.self.now.calls c.min-self.result (omega arith))

pub returns-clause-cause : goal.returns-clause-cause
returns-clause-cause c =
    let failing = c.args.self.now.failing.items in
    let stop = c.args.self.now.stop in
    let calls = c.args.self.now.calls in
    let is : c.min-self.result ≡ min stop calls = omega arith in
    rose (fails_at failing stop) (fails_at failing c.min-self.result) calls c.saturating_add-self.result (omega arith)
    (later failing stop calls c.min-self.result is)
    (subst (λ (n : ℕ). fails_at failing n calls ≡ true) (sym is) (stops failing stop calls))
