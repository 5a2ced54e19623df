-- A node that is seen is that of every made state.
use Rattle.std.proofs.Common.{◌+◌, ◌/◌, ◌%◌, Some, None, sym, ap, ◌∙◌}
use Rattle.std.specs.Option.{option_copied}
use Rattle.zj_dirs.specs.Possible.{or_nothing, overlaid}
use Rattle.zj_dirs.proofs.Looks.{slot_8}
use Rattle.zj_dirs.proofs.Nodes.{in_block}
use Rattle.zj_dirs.proofs.Seen.{made_odd, made_node}
use Rattle.zj_dirs.proofs.looking.read_node.Goals as goal

pub returns-in-Some-node_at-clause-ok : goal.returns-in-Some-node_at-clause-ok
returns-in-Some-node_at-clause-ok c = λ state tree p.
    made_node c.args.sizes.now c.args.taken.now (or_nothing (option_copied c.args.written)) state tree p c.args.number c.in-Some.content.now (c.requires.within state tree p)
    (ap (λ m. overlaid c.args.taken.now (or_nothing (option_copied c.args.written)) (m + c.args.number / 8)) (sym c.map_blocks.ensures.value) ∙ sym c.in-Some.ensures.content)
    ∙ slot_8 c.args.number _ (Some c.in-Some-node_at.node) c.in-Some-node_at.ensures

pub returns-in-Some-node_at-clause-spelled : goal.returns-in-Some-node_at-clause-spelled
returns-in-Some-node_at-clause-spelled c = (in_block c.in-Some.content.now (c.args.number % 8) c.in-Some-node_at.node (slot_8 c.args.number _ (Some c.in-Some-node_at.node) c.in-Some-node_at.ensures)).is

pub returns-in-None-clause-stop : goal.returns-in-None-clause-stop
returns-in-None-clause-stop c = λ state tree p.
    made_odd c.args.sizes.now c.args.taken.now (or_nothing (option_copied c.args.written)) state tree p (c.requires.stored state tree p) c.args.number c.in-Some.content.now (c.requires.within state tree p)
    (ap (λ m. overlaid c.args.taken.now (or_nothing (option_copied c.args.written)) (m + c.args.number / 8)) (sym c.map_blocks.ensures.value) ∙ sym c.in-Some.ensures.content)
    (slot_8 c.args.number _ None c.in-None.ensures)
