use Rattle.std.proofs.Common.{arith}
use Rattle.zj_block.proofs.Parts.{old_part_le, part_above, part_below, part_within, with_part_fits, with_part_is}
use Rattle.zj_block.proofs.block.with_part.Goals as goal

pub overflow_sub-result : goal.overflow_sub-result
overflow_sub-result c = old_part_le c.args.word c.args.from c.args.count c.args.value c.requires.inside c.requires.few

pub overflow_add-result : goal.overflow_add-result
overflow_add-result c =
    let fits = with_part_fits c.args.word c.args.from c.args.count c.args.value c.requires.inside c.requires.few (omega arith) in
    omega (arith, fits)

pub returns-clause-below : goal.returns-clause-below
returns-clause-below c k below =
    let is = with_part_is c.args.word c.args.from c.args.count c.args.value c.requires.inside c.requires.few in
    rw is (part_below c.args.word c.args.from c.args.count c.args.value k below)

pub returns-clause-part : goal.returns-clause-part
returns-clause-part c k within =
    let is = with_part_is c.args.word c.args.from c.args.count c.args.value c.requires.inside c.requires.few in
    rw is (part_within c.args.word c.args.from c.args.count c.args.value k within)

pub returns-clause-above : goal.returns-clause-above
returns-clause-above c k above =
    let is = with_part_is c.args.word c.args.from c.args.count c.args.value c.requires.inside c.requires.few in
    rw is (part_above c.args.word c.args.from c.args.count c.args.value k above)
