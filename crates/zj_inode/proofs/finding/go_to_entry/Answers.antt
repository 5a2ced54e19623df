-- The entry and its node are those of every possible state.
use Rattle.std.proofs.Common.{◌≡◌, ◌<◌, Some}
use Rattle.std.proofs.lemmas.Result.{err_from_is_err_and}
use Rattle.zj_layout.specs.declared.fields.Kind.TheVariants.{Dir}
use Rattle.zj_layout.specs.Image.{node_of}
use Rattle.zj_layout.specs.Stored.{IsStored}
use Rattle.zj_dirs.proofs.Walks.{always_made, made_always}
use Rattle.zj_inode.proofs.Steps.{always_stored, fresh_made}
use Rattle.zj_inode.proofs.Targets.{entry_stops, entry_within, found_dir, front_stops, is_target, node_stops, not_found}
use Rattle.zj_inode.proofs.finding.go_to_entry.Goals as goal

pub returns-in_err-dir-clause-stop : goal.returns-in_err-dir-clause-stop
returns-in_err-dir-clause-stop c =
    let q = err_from_is_err_and c.from_residual.result c.from_residual.ensures.1 in
    rw (q.1, q.2) (front_stops c.args.sizes.now c.args.taken.now c.args.front.now c.args.name.now c.in_err-dir.field-0.0 c.in_err-dir.ensures.stop)

pub entry_of-requires-clause-stored : goal.entry_of-requires-clause-stored
entry_of-requires-clause-stored c = fresh_made c.args.sizes.now c.args.taken.now c.args.built.now c.requires.fresh (IsStored c.args.sizes.now) (always_stored c.args.sizes.now c.args.taken.now)

pub entry_of-requires-clause-directory : goal.entry_of-requires-clause-directory
entry_of-requires-clause-directory c =
    fresh_made c.args.sizes.now c.args.taken.now c.args.built.now c.requires.fresh (λ image. (node_of image c.in_ok-dir.dir.number).kind ≡ Dir)
    (found_dir c.args.sizes.now c.args.taken.now c.args.front.now c.args.name.now c.in_ok-dir.dir c.in_ok-dir.ensures.ok c.in_ok-dir.ensures.directory c.args.built.now c.requires.fresh)

pub returns-in_err-entry-clause-stop : goal.returns-in_err-entry-clause-stop
returns-in_err-entry-clause-stop c =
    let q = err_from_is_err_and c.from_residual-in_err-entry.result c.from_residual-in_err-entry.ensures.1 in
    rw (q.1, q.2)
    (entry_stops c.args.sizes.now c.args.taken.now c.args.front.now c.args.name.now c.in_ok-dir.dir c.in_ok-dir.ensures.ok c.in_ok-dir.ensures.directory c.args.built.now c.requires.fresh
    c.in_err-entry.field-0.0 c.in_err-entry.ensures.stop)

pub returns-in_default-clause-stop : goal.returns-in_default-clause-stop
returns-in_default-clause-stop c =
    not_found c.args.sizes.now c.args.taken.now c.args.front.now c.args.name.now c.in_ok-dir.dir c.in_ok-dir.ensures.ok c.in_ok-dir.ensures.directory c.args.built.now c.requires.fresh
    c.in_ok-entry.field-0 c.in_ok-entry.ensures.ok c.in_default.is

pub read_node-requires-clause-stored : goal.read_node-requires-clause-stored
read_node-requires-clause-stored c = always_made c.args.sizes.now c.args.taken.now (IsStored c.args.sizes.now) (always_stored c.args.sizes.now c.args.taken.now)

pub read_node-requires-clause-within : goal.read_node-requires-clause-within
read_node-requires-clause-within c =
    always_made c.args.sizes.now c.args.taken.now (λ image. c.in-Some.entry.node < c.args.sizes.now.nodes)
    (entry_within c.args.sizes.now c.args.taken.now c.args.front.now c.args.name.now c.in_ok-dir.dir c.in_ok-dir.ensures.ok c.in_ok-dir.ensures.directory c.args.built.now c.requires.fresh
    c.in_ok-entry.field-0 c.in_ok-entry.ensures.ok c.in-Some.entry c.in-Some.is)

pub returns-in_err-node-clause-stop : goal.returns-in_err-node-clause-stop
returns-in_err-node-clause-stop c =
    let q = err_from_is_err_and c.from_residual-in_err-node.result c.from_residual-in_err-node.ensures.1 in
    rw (q.1, q.2)
    (node_stops c.args.sizes.now c.args.taken.now c.args.front.now c.args.name.now c.in_ok-dir.dir c.in_ok-dir.ensures.ok c.in_ok-dir.ensures.directory c.args.built.now c.requires.fresh
    c.in_ok-entry.field-0 c.in_ok-entry.ensures.ok c.in-Some.entry c.in-Some.is c.in_err-node.field-0.0 c.in_err-node.ensures.stop)

pub returns-clause-ok : goal.returns-clause-ok
returns-clause-ok c =
    is_target c.args.sizes.now c.args.taken.now c.args.front.now c.args.name.now c.in_ok-dir.dir c.in_ok-dir.ensures.ok c.in_ok-dir.ensures.directory c.args.built.now c.requires.fresh
    c.in_ok-entry.field-0 c.in_ok-entry.ensures.ok c.in-Some.entry c.in-Some.is c.in_ok-node.node
    (made_always c.args.sizes.now c.args.taken.now (λ image. image.node c.in-Some.entry.node ≡ Some c.in_ok-node.node) c.in_ok-node.ensures.ok)
