use Rattle.std.proofs.Common.{◌≡◌, ℕ, ◌-◌, length, sym, ap, subst, arith}
use Rattle.zj_turns.specs.Views.{Known, blank}
use Rattle.zj_turns.specs.Passes.{IsIdle, left_of}
use Rattle.zj_turns.proofs.Lone.{fresh_idle, lone_is}
use Rattle.turns_bench.proofs.work.Goals as goal

pub loop-init : goal.loop-init
loop-init c =
    let t = c.args.cache.now.table in
    let n : ℕ = c.args.pass.core in
    let all : left_of c.args.pass ≡ 4294967295 = ap (λ (k : Known). 4294967295 - length k.operations) (lone_is t n blank c.args.pass c.requires.fresh) in
    let fits = c.ranges.count.fits in
    record { idle = subst (IsIdle t n) (sym c.requires.fresh) (fresh_idle t n); few = omega arith; room = omega arith }
