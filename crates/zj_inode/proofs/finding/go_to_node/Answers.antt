-- A node that is read is that of every possible state.
use Rattle.std.proofs.Common.{◌≡◌, Some}
use Rattle.zj_layout.specs.Stored.{IsStored}
use Rattle.zj_dirs.proofs.Walks.{always_made, made_always, possible_stored, leads_live, live_within}
use Rattle.zj_inode.proofs.finding.go_to_node.Goals as goal

pub read_node-requires-clause-stored : goal.read_node-requires-clause-stored
read_node-requires-clause-stored c = always_made c.args.sizes.now c.args.taken.now (IsStored c.args.sizes.now) (λ state tree p. possible_stored c.args.sizes.now state tree p.shows)

pub read_node-requires-clause-within : goal.read_node-requires-clause-within
read_node-requires-clause-within c = λ state tree p.
    live_within c.args.sizes.now c.args.taken.now state tree p c.in_ok-number.number (leads_live c.args.sizes.now c.args.taken.now state tree p c.args.names.now c.in_ok-number.number (c.in_ok-number.ensures.ok state tree p))

pub returns-clause-ok : goal.returns-clause-ok
returns-clause-ok c = λ state tree p. record {
  leads = c.in_ok-number.ensures.ok state tree p;
  is = made_always c.args.sizes.now c.args.taken.now (λ image. image.node c.in_ok-number.number ≡ Some c.in_ok-node.node) c.in_ok-node.ensures.ok state tree p;
}
