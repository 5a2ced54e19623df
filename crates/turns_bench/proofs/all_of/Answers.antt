use Rattle.std.proofs.Common.{◌≡◌, All, sym, ◌∙◌, subst}
use Rattle.std.proofs.lemmas.List.Elements.{All-push}
use Rattle.zj_turns.specs.Passes.{fresh}
use Rattle.turns_bench.proofs.Dealt.{last_dealt}
use Rattle.turns_bench.proofs.all_of.Goals as goal

pub loop-preserved : goal.loop-preserved
loop-preserved c =
    let t = c.args.cache.now.table in
    let was = c.loop.invariant.left in
    let last = last_dealt c.args.cache.now was.0 c.next.new.self c.in-Some.pass (sym was.1 ∙ c.in-Some.ensures.some) in
    let more = All-push (λ p. p ≡ fresh t p.core) c.loop.all.items c.in-Some.pass c.loop.invariant.all last.1 in
    record { left = last.0; all = subst (All (λ p. p ≡ fresh t p.core)) (sym c.in_ok-push.ensures.items) more }
