use Rattle.std.proofs.Common.{◌≡◌, ◌∙◌, ◌↔◌, ℕ, true, List, Option, Some, None, drop, min, option_copied, sym, ap, subst, refl, arith}
use Rattle.zj_script.specs.declared.answer.Answer.{Answer}
use Rattle.zj_layout.proofs.Follow.{none_some}
use Rattle.zj_session.specs.Playing.{IsLowestFault}
use Rattle.zj_session.proofs.Faults.{IsLowestCore, between, between_all, between_more, between_none, lowest_next, lowest_same, tells}
use Rattle.zj_session.proofs.Roots.{not_true}
use Rattle.zj_session.proofs.playing.lowest_fault.Goals as goal
use Rattle.zj_session.proofs.playing.lowest_fault.Goals.{in-Some-failed_core, in_default-failed_core}

pub loop-i-init : goal.loop-i-init
loop-i-init c = subst (λ l. IsLowestCore l None) (sym (between_none c.args.out.now.answers c.args.from)) (λ core. refl)

pub loop-i-preserved : goal.loop-i-preserved
loop-i-preserved c =
    let so_far = between c.args.out.now.answers c.args.from c.loop-i.i in
    let seam = between_more c.args.out.now.answers c.args.from c.loop-i.i c.in-Some.answer.now c.loop-i.auto.i (sym c.at.ensures ∙ ap option_copied c.in-Some.is) in
    elim c.match-failed_core.branch [
      | in-Some-failed_core w ↦ subst (λ (x : List Answer × Option ℕ). IsLowestCore x.0 x.1) (λ j. (sym seam j, sym w.lowest-is j))
          (lowest_next so_far c.in-Some.answer.now w.in-Some-failed_core.core
          (subst (λ r. (core : ℕ) → (r ≡ Some core) ↔ (tells c.in-Some.answer.now core ≡ true)) w.in-Some-failed_core.is c.failed_core.ensures)
          c.loop-i.lowest w.min.result (w.min.ensures ∙ ap (λ n. min n w.in-Some-failed_core.core) w.unwrap_or.ensures) c.loop-i.invariant)
      | in_default-failed_core w ↦ subst (λ (x : List Answer × Option ℕ). IsLowestCore x.0 x.1) (λ j. (sym seam j, sym w.lowest-is j))
          (lowest_same so_far c.in-Some.answer.now c.loop-i.lowest
          (λ core. not_true (tells c.in-Some.answer.now core) (λ told. none_some (sym w.in_default-failed_core.is ∙ (c.failed_core.ensures core).1 told)))
          c.loop-i.invariant)
    ]

pub returns-in_err-lowest : goal.returns-in_err-lowest
returns-in_err-lowest c =
    let all = between_all c.args.out.now.answers c.args.from c.loop-i.i (let long = c.len-i-end.ensures in let far = c.loop-i-test.false in omega arith) in
    let none : c.loop-i.lowest ≡ None = c.in_err-lowest.was in
    subst (IsLowestFault (drop c.args.from c.args.out.now.answers)) (sym c.from_residual.ensures)
    (subst (λ (x : List Answer × Option ℕ). IsLowestCore x.0 x.1) (λ j. (all j, none j)) c.loop-i.invariant)

pub returns : goal.returns
returns c =
    let all = between_all c.args.out.now.answers c.args.from c.loop-i.i (let long = c.len-i-end.ensures in let far = c.loop-i-test.false in omega arith) in
    let some : c.loop-i.lowest ≡ Some c.in_ok-lowest.field-0 = c.in_ok-lowest.was in
    subst (λ (x : List Answer × Option ℕ). IsLowestCore x.0 x.1) (λ j. (all j, some j)) c.loop-i.invariant
