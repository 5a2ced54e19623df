-- A refused call writes nothing, and a block that is needed is one of the image.
use Rattle.std.proofs.Common.{ℕ, List, ap, ◌∙◌, subst}
use Rattle.std.specs.FinMap as map_of
use Rattle.std.specs.FinMap.{len-empty}
use Rattle.std.specs.Ordering.{nat_cmp}
use Rattle.zj_inode.specs.Answering.{CallStops}
use Rattle.zj_inode.proofs.Needed.{need_nothing, need_says, need_undone, need_within}
use Rattle.zj_inode.proofs.Trims.{performs_refused}
use Rattle.zj_inode.proofs.finishing.stop.Goals as goal

pub returns-in-Refused-clause-says : goal.returns-in-Refused-clause-says
returns-in-Refused-clause-says c = λ found call stops.
    performs_refused c.args.sizes.now found c.new.result call c.in-Refused.refusal c.new.ensures (subst (CallStops c.args.sizes.now found call) c.in-Refused.is stops)

pub returns-in-Refused-clause-none : goal.returns-in-Refused-clause-none
returns-in-Refused-clause-none c = ap map_of.len c.new.ensures ∙ len-empty nat_cmp (List ℕ)

pub returns-in-Need-clause-undone : goal.returns-in-Need-clause-undone
returns-in-Need-clause-undone c = need_undone c.args.sizes.now c.in-Need.block c.need.result c.need.ensures.inside c.need.ensures.outside

pub returns-in-Need-clause-says : goal.returns-in-Need-clause-says
returns-in-Need-clause-says c = λ found call stops. need_says c.args.sizes.now c.in-Need.block c.need.result c.need.ensures.inside c.need.ensures.outside found call (subst (CallStops c.args.sizes.now found call) c.in-Need.is stops)

pub returns-in-Need-clause-within : goal.returns-in-Need-clause-within
returns-in-Need-clause-within c = need_within c.args.sizes.now c.in-Need.block c.need.result c.need.ensures.inside c.need.ensures.outside

pub returns-in-Need-clause-none : goal.returns-in-Need-clause-none
returns-in-Need-clause-none c = need_nothing c.args.sizes.now c.in-Need.block c.need.result c.need.ensures.inside c.need.ensures.outside
