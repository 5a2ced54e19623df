-- Removing the entry and freeing its node together detach it in every possible state.
use Rattle.std.proofs.Common.{◌≡◌, ◌⊎◌, ◌<◌, inl, inr, refl, subst}
use Rattle.std.proofs.lemmas.Result.{err_from_is_err_and}
use Rattle.zj_layout.specs.declared.fields.Kind.TheVariants.{Dir}
use Rattle.zj_layout.specs.Image.{image_of, node_of}
use Rattle.zj_layout.specs.Stored.{IsStored}
use Rattle.zj_layout.specs.Shows.{put_blocks}
use Rattle.zj_dirs.specs.Changing.{IsRemoveBlock, Removes}
use Rattle.zj_inode.specs.Removing.{IsReleaseBlock}
use Rattle.zj_inode.proofs.Detached.{between_stored, node_still, place_within, release_same, unlinks}
use Rattle.zj_inode.proofs.Steps.{always_stored, fresh_kept, fresh_made, fresh_then_kept, fresh_turns, same_image, stops_after}
use Rattle.zj_inode.proofs.removing.detach.Goals as goal

pub remove_at-requires-clause-stored : goal.remove_at-requires-clause-stored
remove_at-requires-clause-stored c = fresh_made c.args.sizes.now c.args.taken.now c.args.built.now c.requires.fresh (IsStored c.args.sizes.now) (always_stored c.args.sizes.now c.args.taken.now)

pub remove_at-requires-clause-directory : goal.remove_at-requires-clause-directory
remove_at-requires-clause-directory c =
    fresh_made c.args.sizes.now c.args.taken.now c.args.built.now c.requires.fresh (λ image. (node_of image c.args.target.now.dir).kind ≡ Dir) (λ state tree p. (c.requires.at.2 state tree p).directory)

pub remove_at-requires-clause-place : goal.remove_at-requires-clause-place
remove_at-requires-clause-place c =
    fresh_made c.args.sizes.now c.args.taken.now c.args.built.now c.requires.fresh (λ image. c.args.target.now.place < (node_of image c.args.target.now.dir).size)
    (λ state tree p. place_within (image_of c.args.sizes.now state) c.requires.at.0 c.requires.at.1 c.args.target.now (c.requires.at.2 state tree p))

pub returns-in_err-remove_at-clause-stop : goal.returns-in_err-remove_at-clause-stop
returns-in_err-remove_at-clause-stop c =
    let q = err_from_is_err_and c.from_residual.result c.from_residual.ensures.1 in
    let sizes = c.args.sizes.now in
    let target = c.args.target.now in
    rw (q.1, q.2)
    (stops_after sizes c.args.taken.now c.args.built.now (λ image b. IsRemoveBlock sizes image target.dir target.place b) (λ image b. IsRemoveBlock sizes image target.dir target.place b ⊎ IsReleaseBlock sizes image target.number b)
    (λ state tree r. ⊥) (λ state tree r. ⊥) (fresh_kept sizes c.args.taken.now c.args.built.now c.requires.fresh)
    (λ state tree p b w. inl (subst (λ image. IsRemoveBlock sizes image target.dir target.place b) (same_image sizes c.args.taken.now c.args.built.now c.requires.fresh state) w)) (λ state tree p r no_. no_)
    c.in_err-remove_at.field-0.0 c.in_err-remove_at.ensures.stop)

pub release-requires-clause-stored : goal.release-requires-clause-stored
release-requires-clause-stored c = λ state tree p.
    let sizes = c.args.sizes.now in
    between_stored sizes (image_of sizes state) (image_of sizes (put_blocks state c.remove_at.new.built)) (always_stored sizes c.args.taken.now state tree p) c.requires.at.0 c.requires.at.1 c.args.target.now (c.requires.at.2 state tree p) c.requires.leaf
    (fresh_turns sizes c.args.taken.now c.args.built.now c.requires.fresh c.remove_at.new.built (λ old new. Removes sizes old new c.args.target.now.dir c.args.target.now.place) c.in_ok-remove_at.ensures.done state tree p)

pub release-requires-clause-node : goal.release-requires-clause-node
release-requires-clause-node c = λ state tree p.
    let sizes = c.args.sizes.now in
    node_still sizes (image_of sizes state) (image_of sizes (put_blocks state c.remove_at.new.built)) (always_stored sizes c.args.taken.now state tree p) c.requires.at.0 c.requires.at.1 c.args.target.now (c.requires.at.2 state tree p) c.requires.leaf
    (fresh_turns sizes c.args.taken.now c.args.built.now c.requires.fresh c.remove_at.new.built (λ old new. Removes sizes old new c.args.target.now.dir c.args.target.now.place) c.in_ok-remove_at.ensures.done state tree p)

pub returns-in_err-release-clause-stop : goal.returns-in_err-release-clause-stop
returns-in_err-release-clause-stop c =
    let q = err_from_is_err_and c.from_residual-in_err-release.result c.from_residual-in_err-release.ensures.1 in
    let sizes = c.args.sizes.now in
    let target = c.args.target.now in
    rw (q.1, q.2)
    (stops_after sizes c.args.taken.now c.remove_at.new.built (λ image b. IsReleaseBlock sizes image target.number b) (λ image b. IsRemoveBlock sizes image target.dir target.place b ⊎ IsReleaseBlock sizes image target.number b)
    (λ state tree r. ⊥) (λ state tree r. ⊥) (fresh_then_kept sizes c.args.taken.now c.args.built.now c.requires.fresh c.remove_at.new.built c.in_ok-remove_at.ensures.kept)
    (λ state tree p b w. inr (release_same sizes (image_of sizes state) (image_of sizes (put_blocks state c.remove_at.new.built)) (always_stored sizes c.args.taken.now state tree p) c.requires.at.0 c.requires.at.1 target (c.requires.at.2 state tree p) c.requires.leaf
    (fresh_turns sizes c.args.taken.now c.args.built.now c.requires.fresh c.remove_at.new.built (λ old new. Removes sizes old new target.dir target.place) c.in_ok-remove_at.ensures.done state tree p) b w))
    (λ state tree p r no_. no_)
    c.in_err-release.field-0.0 c.in_err-release.ensures.stop)

pub returns-clause-done : goal.returns-clause-done
returns-clause-done c = record {
  done = refl;
  contents = c.len-contents.ensures.contents;
  each = λ state tree p.
      let sizes = c.args.sizes.now in
      unlinks sizes (image_of sizes state) (image_of sizes (put_blocks state c.remove_at.new.built)) (always_stored sizes c.args.taken.now state tree p) c.requires.at.0 c.requires.at.1 c.args.target.now (c.requires.at.2 state tree p) c.requires.leaf
      (fresh_turns sizes c.args.taken.now c.args.built.now c.requires.fresh c.remove_at.new.built (λ old new. Removes sizes old new c.args.target.now.dir c.args.target.now.place) c.in_ok-remove_at.ensures.done state tree p)
      (image_of sizes (put_blocks state c.release.new.built)) (c.in_ok-release.ensures.done state tree p);
}
