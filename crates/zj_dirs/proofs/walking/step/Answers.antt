-- What a node and its entries say of a step, in every possible state.
use Rattle.std.proofs.Common.{◌≡◌, Some, ◌∙◌}
use Rattle.zj_layout.specs.Stored.{IsStored}
use Rattle.zj_dirs.specs.Looking.{IsEntry}
use Rattle.zj_dirs.proofs.Walks.{always_made, made_always, possible_stored, free_dead, the_kind, step_absent, step_found}
use Rattle.zj_dirs.proofs.walking.step.Goals as goal

pub read_node-requires-clause-stored : goal.read_node-requires-clause-stored
read_node-requires-clause-stored c = always_made c.args.sizes.now c.args.taken.now (IsStored c.args.sizes.now) (λ state tree p. possible_stored c.args.sizes.now state tree p.shows)

pub find_entry-requires-clause-stored : goal.find_entry-requires-clause-stored
find_entry-requires-clause-stored c = always_made c.args.sizes.now c.args.taken.now (IsStored c.args.sizes.now) (λ state tree p. possible_stored c.args.sizes.now state tree p.shows)

pub returns-in-Free-clause-stop : goal.returns-in-Free-clause-stop
returns-in-Free-clause-stop c = λ state tree p.
    free_dead c.args.sizes.now state c.args.number c.in_ok-node.node (made_always c.args.sizes.now c.args.taken.now (λ image. image.node c.args.number ≡ Some c.in_ok-node.node) c.in_ok-node.ensures.ok state tree p) (c.requires state tree p) c.in-Free.is

pub returns-in-File-clause-ok : goal.returns-in-File-clause-ok
returns-in-File-clause-ok c = λ state tree p.
    the_kind c.args.sizes.now state c.args.number c.in_ok-node.node (made_always c.args.sizes.now c.args.taken.now (λ image. image.node c.args.number ≡ Some c.in_ok-node.node) c.in_ok-node.ensures.ok state tree p) ∙ c.in-File.is

pub returns-in-None-clause-ok : goal.returns-in-None-clause-ok
returns-in-None-clause-ok c = λ state tree p.
    step_absent c.args.sizes.now state c.args.number c.in_ok-node.node (made_always c.args.sizes.now c.args.taken.now (λ image. image.node c.args.number ≡ Some c.in_ok-node.node) c.in_ok-node.ensures.ok state tree p) c.args.name.now
    c.in_ok-find_entry-in-Dir.field-0 c.in-Dir.is c.in-None.is
    (made_always c.args.sizes.now c.args.taken.now (λ image. IsEntry image c.args.number c.args.name.now c.in_ok-find_entry-in-Dir.field-0) c.in_ok-find_entry-in-Dir.ensures.ok state tree p)

pub returns-in-Some-clause-ok : goal.returns-in-Some-clause-ok
returns-in-Some-clause-ok c = λ state tree p.
    step_found c.args.sizes.now state c.args.number c.in_ok-node.node (made_always c.args.sizes.now c.args.taken.now (λ image. image.node c.args.number ≡ Some c.in_ok-node.node) c.in_ok-node.ensures.ok state tree p) c.args.name.now
    c.in_ok-find_entry-in-Dir.field-0 c.in-Some.entry c.in-Some.is
    (made_always c.args.sizes.now c.args.taken.now (λ image. IsEntry image c.args.number c.args.name.now c.in_ok-find_entry-in-Dir.field-0) c.in_ok-find_entry-in-Dir.ensures.ok state tree p)
