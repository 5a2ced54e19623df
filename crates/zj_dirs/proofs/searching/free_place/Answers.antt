-- A node is free where the number of its kind tells so.
use Rattle.std.proofs.Common.{true≢false, sym, ◌∙◌, arith, below_more}
use Rattle.zj_dirs.proofs.searching.free_place.Goals as goal

pub returns-then-is_free-clause-some : goal.returns-then-is_free-clause-some
returns-then-is_free-clause-some c = (omega arith, λ node e. (c.is_free.ensures node e).0 c.if-is_free.true)

pub loop-place-preserved : goal.loop-place-preserved
loop-place-preserved c = below_more _ _ c.loop-place.invariant (λ node e free. true≢false (sym ((c.is_free.ensures node e).1 free) ∙ c.if-is_free.false))
