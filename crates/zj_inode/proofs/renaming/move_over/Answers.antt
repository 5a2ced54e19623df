-- The entry that is replaced, the one that is removed and the node that is freed are a rename in every possible state.
use Rattle.std.proofs.Common.{◌≡◌, ◌<◌, Some, ap, subst}
use Rattle.std.specs.Option.{unwrap_or}
use Rattle.std.proofs.lemmas.Result.{IfErr-weaker, err_from_is_err_and, on_ok_weaker}
use Rattle.zj_layout.specs.declared.fields.Node.{Node}
use Rattle.zj_layout.specs.Image.{image_of, free_node}
use Rattle.zj_layout.specs.Shows.{put_blocks}
use Rattle.zj_layout.specs.Stored.{IsStored}
use Rattle.zj_changes.specs.Resized.{ReplacesEntry}
use Rattle.zj_dirs.proofs.Walks.{always_made, made_always}
use Rattle.zj_inode.proofs.MovingOver.{first_directory, first_place, first_stored, may_replace, node_stops, onto_place, onto_within, release_stops, remove_stops, removed_stored, replace_stops, second_node, way_stops}
use Rattle.zj_inode.proofs.Steps.{always_stored, fresh_made, fresh_then_kept, fresh_turns}
use Rattle.zj_inode.proofs.renaming.move_over.Goals as goal

pub read_node-requires-clause-stored : goal.read_node-requires-clause-stored
read_node-requires-clause-stored c = always_made c.args.sizes.now c.args.taken.now (IsStored c.args.sizes.now) (always_stored c.args.sizes.now c.args.taken.now)

pub read_node-requires-clause-within : goal.read_node-requires-clause-within
read_node-requires-clause-within c = λ state tree p.
    let m = c.requires.moves in
    onto_within c.args.sizes.now c.args.taken.now m.0 m.1 c.args.old.now c.args.to_dir.now.number c.args.link.now m.2 c.args.onto.now c.requires.stands state tree p

pub returns-in_err-node-clause-stop : goal.returns-in_err-node-clause-stop
returns-in_err-node-clause-stop c = λ from to m.
    let q = err_from_is_err_and c.from_residual.result c.from_residual.ensures.1 in
    rw (q.1, q.2) (node_stops c.args.sizes.now c.args.taken.now from to c.args.old.now c.args.to_dir.now.number c.args.link.now m c.args.onto.now c.requires.stands c.in_err-node.field-0.0 c.in_err-node.ensures.stop)

pub returns-in_err-fits_over-clause-stop : goal.returns-in_err-fits_over-clause-stop
returns-in_err-fits_over-clause-stop c = λ from to m.
    let q = err_from_is_err_and c.from_residual-in_err-fits_over.result c.from_residual-in_err-fits_over.ensures.1 in
    rw (q.1, q.2) (way_stops c.args.sizes.now c.args.taken.now from to c.args.old.now c.args.to_dir.now.number c.args.link.now m c.args.onto.now c.requires.stands c.in_ok-node.node
    (made_always c.args.sizes.now c.args.taken.now (λ image. image.node c.args.onto.now.node ≡ Some c.in_ok-node.node) c.in_ok-node.ensures.ok) c.in_err-fits_over.field-0.0 c.in_err-fits_over.ensures.stop)

pub replace-requires-clause-stored : goal.replace-requires-clause-stored
replace-requires-clause-stored c = fresh_made c.args.sizes.now c.args.taken.now c.args.built.now c.requires.fresh (IsStored c.args.sizes.now) (always_stored c.args.sizes.now c.args.taken.now)

pub replace-requires-clause-node : goal.replace-requires-clause-node
replace-requires-clause-node c = fresh_made c.args.sizes.now c.args.taken.now c.args.built.now c.requires.fresh (λ image. image.node c.args.to_dir.now.number ≡ Some c.args.to_dir.now.node) c.requires.node

pub replace-requires-clause-place : goal.replace-requires-clause-place
replace-requires-clause-place c = λ state tree p.
    let m = c.requires.moves in
    subst (λ (n : Node). c.args.onto.now.place < n.size) (ap (λ o. unwrap_or o free_node) (c.requires.node state tree p))
    (onto_place c.args.sizes.now c.args.taken.now m.0 m.1 c.args.old.now c.args.to_dir.now.number c.args.link.now m.2 c.args.onto.now c.requires.stands state tree p).within

pub returns-in_err-replace-clause-stop : goal.returns-in_err-replace-clause-stop
returns-in_err-replace-clause-stop c = λ from to m.
    let q = err_from_is_err_and c.from_residual-in_err-replace.result c.from_residual-in_err-replace.ensures.1 in
    rw (q.1, q.2) (replace_stops c.args.sizes.now c.args.taken.now from to c.args.old.now c.args.to_dir.now.number c.args.link.now m c.args.onto.now c.requires.stands c.in_ok-node.node
    (made_always c.args.sizes.now c.args.taken.now (λ image. image.node c.args.onto.now.node ≡ Some c.in_ok-node.node) c.in_ok-node.ensures.ok) c.args.built.now c.requires.fresh c.in_err-replace.field-0.0 c.in_err-replace.ensures.halt)

pub remove_at-requires-clause-stored : goal.remove_at-requires-clause-stored
remove_at-requires-clause-stored c = λ state tree p.
    let m = c.requires.moves in
    first_stored c.args.sizes.now c.args.taken.now m.0 m.1 c.args.old.now c.args.to_dir.now.number c.args.link.now m.2 c.args.onto.now c.requires.stands c.in_ok-node.node
    (made_always c.args.sizes.now c.args.taken.now (λ image. image.node c.args.onto.now.node ≡ Some c.in_ok-node.node) c.in_ok-node.ensures.ok) c.replace.new.built
    (fresh_then_kept c.args.sizes.now c.args.taken.now c.args.built.now c.requires.fresh c.replace.new.built c.in_ok-replace.ensures.kept)
    (fresh_turns c.args.sizes.now c.args.taken.now c.args.built.now c.requires.fresh c.replace.new.built (λ before after. ReplacesEntry c.args.sizes.now before after c.args.to_dir.now.number c.args.onto.now.place c.args.link.now) c.in_ok-replace.ensures.done) state tree p

pub remove_at-requires-clause-directory : goal.remove_at-requires-clause-directory
remove_at-requires-clause-directory c = λ state tree p.
    let m = c.requires.moves in
    first_directory c.args.sizes.now c.args.taken.now m.0 m.1 c.args.old.now c.args.to_dir.now.number c.args.link.now m.2 c.args.onto.now c.requires.stands c.in_ok-node.node
    (made_always c.args.sizes.now c.args.taken.now (λ image. image.node c.args.onto.now.node ≡ Some c.in_ok-node.node) c.in_ok-node.ensures.ok) c.replace.new.built
    (fresh_then_kept c.args.sizes.now c.args.taken.now c.args.built.now c.requires.fresh c.replace.new.built c.in_ok-replace.ensures.kept)
    (fresh_turns c.args.sizes.now c.args.taken.now c.args.built.now c.requires.fresh c.replace.new.built (λ before after. ReplacesEntry c.args.sizes.now before after c.args.to_dir.now.number c.args.onto.now.place c.args.link.now) c.in_ok-replace.ensures.done) state tree p

pub remove_at-requires-clause-place : goal.remove_at-requires-clause-place
remove_at-requires-clause-place c = λ state tree p.
    let m = c.requires.moves in
    first_place c.args.sizes.now c.args.taken.now m.0 m.1 c.args.old.now c.args.to_dir.now.number c.args.link.now m.2 c.args.onto.now c.requires.stands c.in_ok-node.node
    (made_always c.args.sizes.now c.args.taken.now (λ image. image.node c.args.onto.now.node ≡ Some c.in_ok-node.node) c.in_ok-node.ensures.ok) c.replace.new.built
    (fresh_then_kept c.args.sizes.now c.args.taken.now c.args.built.now c.requires.fresh c.replace.new.built c.in_ok-replace.ensures.kept)
    (fresh_turns c.args.sizes.now c.args.taken.now c.args.built.now c.requires.fresh c.replace.new.built (λ before after. ReplacesEntry c.args.sizes.now before after c.args.to_dir.now.number c.args.onto.now.place c.args.link.now) c.in_ok-replace.ensures.done) state tree p

pub returns-in_err-remove_at-clause-stop : goal.returns-in_err-remove_at-clause-stop
returns-in_err-remove_at-clause-stop c = λ from to m.
    let q = err_from_is_err_and c.from_residual-in_err-remove_at.result c.from_residual-in_err-remove_at.ensures.1 in
    rw (q.1, q.2) (remove_stops c.args.sizes.now c.args.taken.now from to c.args.old.now c.args.to_dir.now.number c.args.link.now m c.args.onto.now c.requires.stands c.in_ok-node.node
    (made_always c.args.sizes.now c.args.taken.now (λ image. image.node c.args.onto.now.node ≡ Some c.in_ok-node.node) c.in_ok-node.ensures.ok) c.replace.new.built
    (fresh_then_kept c.args.sizes.now c.args.taken.now c.args.built.now c.requires.fresh c.replace.new.built c.in_ok-replace.ensures.kept)
    (fresh_turns c.args.sizes.now c.args.taken.now c.args.built.now c.requires.fresh c.replace.new.built (λ before after. ReplacesEntry c.args.sizes.now before after c.args.to_dir.now.number c.args.onto.now.place c.args.link.now) c.in_ok-replace.ensures.done)
    c.in_err-remove_at.field-0.0 c.in_err-remove_at.ensures.stop)

pub release-requires-clause-stored : goal.release-requires-clause-stored
release-requires-clause-stored c = λ state tree p.
    let m = c.requires.moves in
    removed_stored c.args.sizes.now (image_of c.args.sizes.now (put_blocks state c.replace.new.built)) (image_of c.args.sizes.now (put_blocks state c.remove_at.new.built))
    (first_stored c.args.sizes.now c.args.taken.now m.0 m.1 c.args.old.now c.args.to_dir.now.number c.args.link.now m.2 c.args.onto.now c.requires.stands c.in_ok-node.node
    (made_always c.args.sizes.now c.args.taken.now (λ image. image.node c.args.onto.now.node ≡ Some c.in_ok-node.node) c.in_ok-node.ensures.ok) c.replace.new.built
    (fresh_then_kept c.args.sizes.now c.args.taken.now c.args.built.now c.requires.fresh c.replace.new.built c.in_ok-replace.ensures.kept)
    (fresh_turns c.args.sizes.now c.args.taken.now c.args.built.now c.requires.fresh c.replace.new.built (λ before after. ReplacesEntry c.args.sizes.now before after c.args.to_dir.now.number c.args.onto.now.place c.args.link.now) c.in_ok-replace.ensures.done) state tree p)
    c.args.old.now.dir c.args.old.now.place (c.in_ok-remove_at.ensures.done state tree p)

pub release-requires-clause-node : goal.release-requires-clause-node
release-requires-clause-node c = λ state tree p.
    let m = c.requires.moves in
    second_node c.args.sizes.now c.args.taken.now m.0 m.1 c.args.old.now c.args.to_dir.now.number c.args.link.now m.2 c.args.onto.now c.requires.stands c.in_ok-node.node
    (made_always c.args.sizes.now c.args.taken.now (λ image. image.node c.args.onto.now.node ≡ Some c.in_ok-node.node) c.in_ok-node.ensures.ok) c.in_ok-fits_over.ensures.ok state tree p
    (image_of c.args.sizes.now (put_blocks state c.replace.new.built)) (image_of c.args.sizes.now (put_blocks state c.remove_at.new.built))
    (fresh_turns c.args.sizes.now c.args.taken.now c.args.built.now c.requires.fresh c.replace.new.built (λ before after. ReplacesEntry c.args.sizes.now before after c.args.to_dir.now.number c.args.onto.now.place c.args.link.now) c.in_ok-replace.ensures.done state tree p)
    (c.in_ok-remove_at.ensures.done state tree p)

pub returns-clause-matches : goal.returns-clause-matches
returns-clause-matches c = on_ok_weaker c.release.result (λ h.
    let m = c.requires.moves in
    may_replace c.args.sizes.now c.args.taken.now m.0 m.1 c.args.old.now c.args.to_dir.now.number c.args.link.now m.2 c.args.onto.now c.requires.stands c.in_ok-node.node
    (made_always c.args.sizes.now c.args.taken.now (λ image. image.node c.args.onto.now.node ≡ Some c.in_ok-node.node) c.in_ok-node.ensures.ok) c.in_ok-fits_over.ensures.ok)
    c.release.ensures.done

pub returns-clause-done : goal.returns-clause-done
returns-clause-done c = on_ok_weaker c.release.result (λ h state tree p.
    let r = c.in_ok-remove_at.ensures.done state tree p in
    record {
      first = image_of c.args.sizes.now (put_blocks state c.replace.new.built);
      replaces = c.in_ok-replace.ensures.done state tree p;
      second = image_of c.args.sizes.now (put_blocks state c.remove_at.new.built);
      size = r.size;
      blocks = r.blocks;
      removes = r.is;
      frees = h state tree p;
    })
    c.release.ensures.done

pub returns-clause-taken : goal.returns-clause-taken
returns-clause-taken c = λ all. c.release.ensures.taken (c.remove_at.ensures.taken (c.replace.ensures.taken all))

pub returns-clause-stop : goal.returns-clause-stop
returns-clause-stop c = λ from to m. IfErr-weaker c.release.result _ _ (λ s h.
    let kept = fresh_then_kept c.args.sizes.now c.args.taken.now c.args.built.now c.requires.fresh c.replace.new.built c.in_ok-replace.ensures.kept in
    release_stops c.args.sizes.now c.args.taken.now from to c.args.old.now c.args.to_dir.now.number c.args.link.now m c.args.onto.now c.requires.stands c.in_ok-node.node
    (made_always c.args.sizes.now c.args.taken.now (λ image. image.node c.args.onto.now.node ≡ Some c.in_ok-node.node) c.in_ok-node.ensures.ok) c.replace.new.built kept
    (fresh_turns c.args.sizes.now c.args.taken.now c.args.built.now c.requires.fresh c.replace.new.built (λ before after. ReplacesEntry c.args.sizes.now before after c.args.to_dir.now.number c.args.onto.now.place c.args.link.now) c.in_ok-replace.ensures.done)
    c.remove_at.new.built (λ b e. kept b (c.in_ok-remove_at.ensures.kept b e)) c.in_ok-fits_over.ensures.ok c.in_ok-remove_at.ensures.done s h)
    c.release.ensures.stop
