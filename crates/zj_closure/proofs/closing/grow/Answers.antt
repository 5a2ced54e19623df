use Rattle.std.proofs.Common.{◌≤◌, ℕ, sym, ◌∙◌, arith}
use Rattle.std.specs.Prelude.{slice_index}
use Rattle.zj_closure.proofs.Growth.{sum-le}
use Rattle.zj_closure.proofs.closing.grow.Goals as goal

pub returns-clause-looks : goal.returns-clause-looks
returns-clause-looks c =
    let within : (k : ℕ) → slice_index c.loop-kept.kept k ≤ slice_index c.args.ends.now k = λ k. let most = c.loop-kept.invariant.grown.within_found k in let end = c.requires.ends.each k in omega (arith, most, end) in
    let le = sum-le c.loop-kept.kept c.args.ends.now (c.bound_of.ensures.bounds.many ∙ sym c.bound_of-end.ensures.bounds.many) within in
    let so_far = c.loop-kept.invariant.looks in
    omega (arith, le, so_far)
