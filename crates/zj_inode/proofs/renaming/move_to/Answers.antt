-- The entry that is removed and the one that is added are a rename in every possible state.
use Rattle.std.proofs.Common.{◌≡◌, ◌<◌}
use Rattle.std.proofs.lemmas.Result.{IfErr-weaker, err_from_is_err_and, on_ok_weaker}
use native.Mathlib.Decide.{ℕ_discrete}
use Rattle.zj_layout.specs.declared.fields.Kind.TheVariants.{Dir}
use Rattle.zj_layout.specs.Image.{image_of, node_of}
use Rattle.zj_layout.specs.Shows.{put_blocks}
use Rattle.zj_layout.specs.Stored.{IsStored}
use Rattle.zj_dirs.specs.Changing.{Removes}
use Rattle.zj_inode.proofs.Detached.{place_within}
use Rattle.zj_inode.proofs.Moving.{mid_directory, mid_stored, place_stops, removal_stops}
use Rattle.zj_inode.proofs.Steps.{always_stored, fresh_made, fresh_then_kept, fresh_turns}
use Rattle.zj_inode.proofs.renaming.move_to.Goals as goal

pub remove_at-requires-clause-stored : goal.remove_at-requires-clause-stored
remove_at-requires-clause-stored c = fresh_made c.args.sizes.now c.args.taken.now c.args.built.now c.requires.fresh (IsStored c.args.sizes.now) (always_stored c.args.sizes.now c.args.taken.now)

pub remove_at-requires-clause-directory : goal.remove_at-requires-clause-directory
remove_at-requires-clause-directory c =
    let m = c.requires.moves.2 in
    fresh_made c.args.sizes.now c.args.taken.now c.args.built.now c.requires.fresh (λ image. (node_of image c.args.old.now.dir).kind ≡ Dir) (λ state tree p. (m.at state tree p).directory)

pub remove_at-requires-clause-place : goal.remove_at-requires-clause-place
remove_at-requires-clause-place c =
    let m = c.requires.moves.2 in
    fresh_made c.args.sizes.now c.args.taken.now c.args.built.now c.requires.fresh (λ image. c.args.old.now.place < (node_of image c.args.old.now.dir).size)
    (λ state tree p. place_within (image_of c.args.sizes.now state) m.front m.name c.args.old.now (m.at state tree p))

pub returns-in_err-remove_at-clause-stop : goal.returns-in_err-remove_at-clause-stop
returns-in_err-remove_at-clause-stop c = λ from to m.
    let q = err_from_is_err_and c.from_residual.result c.from_residual.ensures.1 in
    rw (q.1, q.2) (removal_stops c.args.sizes.now c.args.taken.now from to c.args.old.now c.args.to_dir c.args.link.now m c.args.built.now c.requires.fresh c.in_err-remove_at.field-0.0 c.in_err-remove_at.ensures.stop)

pub add_entry-requires-clause-stored : goal.add_entry-requires-clause-stored
add_entry-requires-clause-stored c = λ state tree p.
    let m = c.requires.moves in
    let r = fresh_turns c.args.sizes.now c.args.taken.now c.args.built.now c.requires.fresh c.remove_at.new.built (λ before after. Removes c.args.sizes.now before after c.args.old.now.dir c.args.old.now.place) c.in_ok-remove_at.ensures.done state tree p in
    mid_stored c.args.sizes.now c.args.taken.now m.0 m.1 c.args.old.now c.args.to_dir c.args.link.now m.2 state tree p (image_of c.args.sizes.now (put_blocks state c.remove_at.new.built)) r

pub add_entry-requires-clause-directory : goal.add_entry-requires-clause-directory
add_entry-requires-clause-directory c = λ state tree p.
    let m = c.requires.moves in
    let r = fresh_turns c.args.sizes.now c.args.taken.now c.args.built.now c.requires.fresh c.remove_at.new.built (λ before after. Removes c.args.sizes.now before after c.args.old.now.dir c.args.old.now.place) c.in_ok-remove_at.ensures.done state tree p in
    mid_directory c.args.sizes.now c.args.taken.now m.0 m.1 c.args.old.now c.args.to_dir c.args.link.now m.2 state tree p (image_of c.args.sizes.now (put_blocks state c.remove_at.new.built)) r c.args.to_dir (m.2.leads state tree p).directory (ℕ_discrete c.args.to_dir c.args.old.now.dir)

pub returns-clause-done : goal.returns-clause-done
returns-clause-done c = on_ok_weaker c.add_entry.result (λ h state tree p.
    let r = c.in_ok-remove_at.ensures.done state tree p in
    record {
      between = image_of c.args.sizes.now (put_blocks state c.remove_at.new.built);
      size = r.size;
      blocks = r.blocks;
      removes = r.is;
      appends = (h state tree p).appends;
    })
    c.add_entry.ensures.done

pub returns-clause-stop : goal.returns-clause-stop
returns-clause-stop c = λ from to m. IfErr-weaker c.add_entry.result _ _ (λ s h.
    place_stops c.args.sizes.now c.args.taken.now from to c.args.old.now c.args.to_dir c.args.link.now m c.args.built.now c.requires.fresh c.remove_at.new.built
    (fresh_then_kept c.args.sizes.now c.args.taken.now c.args.built.now c.requires.fresh c.remove_at.new.built c.in_ok-remove_at.ensures.kept)
    (fresh_turns c.args.sizes.now c.args.taken.now c.args.built.now c.requires.fresh c.remove_at.new.built (λ before after. Removes c.args.sizes.now before after c.args.old.now.dir c.args.old.now.place) c.in_ok-remove_at.ensures.done)
    c.requires.absent s h)
    c.add_entry.ensures.stop
