use Rattle.std.proofs.Common.{◌-◌, arith}
use Rattle.zj_mount.proofs.inspecting.tally.Goals as goal

pub overflow_sub-result : goal.overflow_sub-result
overflow_sub-result g c =
    let bound = c.bound_of-bound.ensures in
    let from = c.start_of-from.ensures in
    let le = c.requires in
    omega (arith, bound, from, le)

pub returns : goal.returns
returns g c = λ i. record { from = c.start_of-from.ensures i; found = c.len.ensures.len i; kept = c.bound_of-bound.ensures i - c.start_of-from.ensures i }
