-- Each answer of the code is the plain service's in every possible state.
use Rattle.std.proofs.Common.{◌≡◌, arith}
use Rattle.std.proofs.lemmas.Result.{err_from_is_err_and}
use Rattle.zj_layout.specs.declared.fields.Kind.TheVariants.{Dir}
use Rattle.zj_layout.specs.Image.{node_of}
use Rattle.zj_layout.specs.Stored.{IsStored}
use Rattle.zj_inode.specs.Making.{TakesNode}
use Rattle.zj_inode.proofs.MakeStops.{add_stops, dir_before, dir_is, dir_stops, exists_refused, full_refused, lacking, made, search_stops, stored_before, take_stops}
use Rattle.zj_inode.proofs.Steps.{always_stored, fresh_made, fresh_then_kept, fresh_turns}
use Rattle.zj_inode.proofs.making.make_entry.Goals as goal

pub returns-in_err-dir-clause-stop : goal.returns-in_err-dir-clause-stop
returns-in_err-dir-clause-stop c =
    let q = err_from_is_err_and c.from_residual.result c.from_residual.ensures.1 in
    rw (q.1, q.2)
    (dir_stops c.args.sizes.now c.args.taken.now c.args.kind c.args.path.now c.in-Some.front.now c.in-Some.name.now c.in-Some.ensures.some c.in_err-dir.field-0.0 c.in_err-dir.ensures.stop)

pub entry_of-requires-clause-stored : goal.entry_of-requires-clause-stored
entry_of-requires-clause-stored c = fresh_made c.args.sizes.now c.args.taken.now c.args.built.now c.requires.fresh (IsStored c.args.sizes.now) (always_stored c.args.sizes.now c.args.taken.now)

pub entry_of-requires-clause-directory : goal.entry_of-requires-clause-directory
entry_of-requires-clause-directory c =
    fresh_made c.args.sizes.now c.args.taken.now c.args.built.now c.requires.fresh (λ image. (node_of image c.in_ok-dir.dir.number).kind ≡ Dir)
    (dir_is c.args.sizes.now c.args.taken.now c.args.kind c.args.path.now c.in-Some.front.now c.in-Some.name.now c.in-Some.ensures.some c.in_ok-dir.dir c.in_ok-dir.ensures.ok c.in_ok-dir.ensures.directory)

pub returns-in_err-entry_of-clause-stop : goal.returns-in_err-entry_of-clause-stop
returns-in_err-entry_of-clause-stop c =
    let q = err_from_is_err_and c.from_residual-in_err-entry_of.result c.from_residual-in_err-entry_of.ensures.1 in
    rw (q.1, q.2)
    (search_stops c.args.sizes.now c.args.taken.now c.args.kind c.args.path.now c.in-Some.front.now c.in-Some.name.now c.in-Some.ensures.some c.in_ok-dir.dir c.in_ok-dir.ensures.ok c.in_ok-dir.ensures.directory
    c.args.built.now c.requires.fresh c.in_err-entry_of.field-0.0 c.in_err-entry_of.ensures.stop)

pub returns-in-Some-2-clause-stop : goal.returns-in-Some-2-clause-stop
returns-in-Some-2-clause-stop c =
    exists_refused c.args.sizes.now c.args.taken.now c.args.kind c.args.path.now c.in-Some.front.now c.in-Some.name.now c.in-Some.ensures.some c.in_ok-dir.dir c.in_ok-dir.ensures.ok c.in_ok-dir.ensures.directory
    c.args.built.now c.requires.fresh c.in_ok-entry_of.field-0 c.in-Some-2._entry c.in-Some-2.is c.in_ok-entry_of.ensures.ok

pub returns-then-dir-clause-stop : goal.returns-then-dir-clause-stop
returns-then-dir-clause-stop c =
    full_refused c.args.sizes.now c.args.taken.now c.args.kind c.args.path.now c.in-Some.front.now c.in-Some.name.now c.in-Some.ensures.some c.in_ok-dir.dir c.in_ok-dir.ensures.ok c.in_ok-dir.ensures.directory
    (lacking c.args.sizes.now c.args.taken.now c.args.kind c.args.path.now c.in-Some.front.now c.in-Some.name.now c.in-Some.ensures.some c.in_ok-dir.dir c.in_ok-dir.ensures.ok c.in_ok-dir.ensures.directory
    c.args.built.now c.requires.fresh c.in_ok-entry_of.field-0 c.in-None.is c.in_ok-entry_of.ensures.ok)
    (omega (arith, c.if-dir.true, c.in_ok-dir.ensures.few))

pub returns-in_err-number-clause-stop : goal.returns-in_err-number-clause-stop
returns-in_err-number-clause-stop c =
    let q = err_from_is_err_and c.from_residual-in_err-number.result c.from_residual-in_err-number.ensures.1 in
    rw (q.1, q.2)
    (take_stops c.args.sizes.now c.args.taken.now c.args.kind c.args.path.now c.in-Some.front.now c.in-Some.name.now c.in-Some.ensures.some c.in_ok-dir.dir c.in_ok-dir.ensures.ok c.in_ok-dir.ensures.directory
    (lacking c.args.sizes.now c.args.taken.now c.args.kind c.args.path.now c.in-Some.front.now c.in-Some.name.now c.in-Some.ensures.some c.in_ok-dir.dir c.in_ok-dir.ensures.ok c.in_ok-dir.ensures.directory
    c.args.built.now c.requires.fresh c.in_ok-entry_of.field-0 c.in-None.is c.in_ok-entry_of.ensures.ok)
    (omega (arith, c.if-dir.false)) c.in_err-number.field-0.0 c.in_err-number.ensures.stop)

pub add_entry-requires-clause-stored : goal.add_entry-requires-clause-stored
add_entry-requires-clause-stored c =
    stored_before c.args.sizes.now c.args.taken.now c.args.kind c.args.path.now c.in-Some.front.now c.in-Some.name.now c.in-Some.ensures.some c.in_ok-dir.dir c.in_ok-dir.ensures.ok c.in_ok-dir.ensures.directory
    (lacking c.args.sizes.now c.args.taken.now c.args.kind c.args.path.now c.in-Some.front.now c.in-Some.name.now c.in-Some.ensures.some c.in_ok-dir.dir c.in_ok-dir.ensures.ok c.in_ok-dir.ensures.directory
    c.args.built.now c.requires.fresh c.in_ok-entry_of.field-0 c.in-None.is c.in_ok-entry_of.ensures.ok)
    (omega (arith, c.if-dir.false)) c.requires.new c.take_node.new.built c.in_ok-number.number
    (fresh_turns c.args.sizes.now c.args.taken.now c.args.built.now c.requires.fresh c.take_node.new.built (λ old after. TakesNode c.args.sizes.now old after c.args.kind c.in_ok-number.number) c.in_ok-number.ensures.done)

pub add_entry-requires-clause-directory : goal.add_entry-requires-clause-directory
add_entry-requires-clause-directory c =
    dir_before c.args.sizes.now c.args.taken.now c.args.kind c.args.path.now c.in-Some.front.now c.in-Some.name.now c.in-Some.ensures.some c.in_ok-dir.dir c.in_ok-dir.ensures.ok c.in_ok-dir.ensures.directory
    (lacking c.args.sizes.now c.args.taken.now c.args.kind c.args.path.now c.in-Some.front.now c.in-Some.name.now c.in-Some.ensures.some c.in_ok-dir.dir c.in_ok-dir.ensures.ok c.in_ok-dir.ensures.directory
    c.args.built.now c.requires.fresh c.in_ok-entry_of.field-0 c.in-None.is c.in_ok-entry_of.ensures.ok)
    (omega (arith, c.if-dir.false)) c.requires.new c.take_node.new.built c.in_ok-number.number
    (fresh_turns c.args.sizes.now c.args.taken.now c.args.built.now c.requires.fresh c.take_node.new.built (λ old after. TakesNode c.args.sizes.now old after c.args.kind c.in_ok-number.number) c.in_ok-number.ensures.done)

pub returns-in_err-add_entry-clause-stop : goal.returns-in_err-add_entry-clause-stop
returns-in_err-add_entry-clause-stop c =
    let q = err_from_is_err_and c.from_residual-in_err-add_entry.result c.from_residual-in_err-add_entry.ensures.1 in
    rw (q.1, q.2)
    (add_stops c.args.sizes.now c.args.taken.now c.args.kind c.args.path.now c.in-Some.front.now c.in-Some.name.now c.in-Some.ensures.some c.in_ok-dir.dir c.in_ok-dir.ensures.ok c.in_ok-dir.ensures.directory
    (lacking c.args.sizes.now c.args.taken.now c.args.kind c.args.path.now c.in-Some.front.now c.in-Some.name.now c.in-Some.ensures.some c.in_ok-dir.dir c.in_ok-dir.ensures.ok c.in_ok-dir.ensures.directory
    c.args.built.now c.requires.fresh c.in_ok-entry_of.field-0 c.in-None.is c.in_ok-entry_of.ensures.ok)
    (omega (arith, c.if-dir.false)) c.requires.new c.take_node.new.built c.in_ok-number.number
    (fresh_turns c.args.sizes.now c.args.taken.now c.args.built.now c.requires.fresh c.take_node.new.built (λ old after. TakesNode c.args.sizes.now old after c.args.kind c.in_ok-number.number) c.in_ok-number.ensures.done)
    (fresh_then_kept c.args.sizes.now c.args.taken.now c.args.built.now c.requires.fresh c.take_node.new.built c.in_ok-number.ensures.kept)
    c.in_err-add_entry.field-0.0 c.in_err-add_entry.ensures.stop)

pub returns-clause-done : goal.returns-clause-done
returns-clause-done c =
    made c.args.sizes.now c.args.taken.now c.args.kind c.args.path.now c.in-Some.front.now c.in-Some.name.now c.in-Some.ensures.some c.in_ok-dir.dir c.in_ok-dir.ensures.ok c.in_ok-dir.ensures.directory
    (lacking c.args.sizes.now c.args.taken.now c.args.kind c.args.path.now c.in-Some.front.now c.in-Some.name.now c.in-Some.ensures.some c.in_ok-dir.dir c.in_ok-dir.ensures.ok c.in_ok-dir.ensures.directory
    c.args.built.now c.requires.fresh c.in_ok-entry_of.field-0 c.in-None.is c.in_ok-entry_of.ensures.ok)
    (omega (arith, c.if-dir.false)) c.requires.new c.take_node.new.built c.in_ok-number.number
    (fresh_turns c.args.sizes.now c.args.taken.now c.args.built.now c.requires.fresh c.take_node.new.built (λ old after. TakesNode c.args.sizes.now old after c.args.kind c.in_ok-number.number) c.in_ok-number.ensures.done)
    c.add_entry.new.built c.len-contents.ensures.contents c.in_ok-add_entry.ensures.done
