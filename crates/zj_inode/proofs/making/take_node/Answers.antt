-- The lowest free node is that of every possible state.
use Rattle.std.proofs.Common.{◌≡◌, refl, subst}
use Rattle.std.proofs.lemmas.Result.{err_from_is_err_and}
use Rattle.zj_tree.specs.declared.call.Refusal.TheVariants.{NoNodes}
use Rattle.zj_layout.specs.Image.{image_of, node_block}
use Rattle.zj_layout.specs.Shows.{put_blocks}
use Rattle.zj_layout.specs.Stored.{IsStored}
use Rattle.zj_changes.specs.Tables.{SetsNode}
use Rattle.zj_changes.specs.Walk.{NoNodeFree}
use Rattle.zj_dirs.specs.Looking.{IsLowestNode, IsNodeSearch}
use Rattle.zj_inode.proofs.Makes.{node_search}
use Rattle.zj_inode.proofs.Steps.{always_stored, fresh_always, fresh_kept, fresh_made, same_image, stops_at, stops_by}
use Rattle.zj_inode.proofs.making.take_node.Goals as goal

pub free_node-requires : goal.free_node-requires
free_node-requires c = record { stored = fresh_made c.args.sizes.now c.args.taken.now c.args.built.now c.requires.fresh (IsStored c.args.sizes.now) (always_stored c.args.sizes.now c.args.taken.now) }

pub returns-in_err-number-clause-stop : goal.returns-in_err-number-clause-stop
returns-in_err-number-clause-stop c =
    let q = err_from_is_err_and c.from_residual.result c.from_residual.ensures.1 in
    let sizes = c.args.sizes.now in
    rw (q.1, q.2)
    (stops_by sizes c.args.taken.now c.args.built.now (IsNodeSearch sizes) (IsNodeSearch sizes) (λ state tree r. (r ≡ NoNodes) × NoNodeFree sizes (image_of sizes state))
    (fresh_kept sizes c.args.taken.now c.args.built.now c.requires.fresh)
    (λ state tree p b h. subst (λ image. IsNodeSearch sizes image b) (same_image sizes c.args.taken.now c.args.built.now c.requires.fresh state) h)
    c.in_err-number.field-0.0 c.in_err-number.ensures.stop)

pub returns-in_default-clause-stop : goal.returns-in_default-clause-stop
returns-in_default-clause-stop c = λ state tree p.
    let sizes = c.args.sizes.now in
    (refl, subst (IsLowestNode sizes (image_of sizes state)) c.in_default.is (fresh_always sizes c.args.taken.now c.args.built.now c.requires.fresh (λ image. IsLowestNode sizes image c.in_ok-number.field-0) c.in_ok-number.ensures.ok state tree p))

pub returns-in_err-set_node-clause-stop : goal.returns-in_err-set_node-clause-stop
returns-in_err-set_node-clause-stop c =
    let q = err_from_is_err_and c.from_residual-in_err-set_node.result c.from_residual-in_err-set_node.ensures.1 in
    let sizes = c.args.sizes.now in
    rw (q.1, q.2)
    (stops_at sizes c.args.taken.now c.args.built.now (λ image b. b ≡ node_block sizes c.in-Some.number) (IsNodeSearch sizes) (λ state tree r. (r ≡ NoNodes) × NoNodeFree sizes (image_of sizes state))
    (fresh_kept sizes c.args.taken.now c.args.built.now c.requires.fresh)
    (λ state tree p b e.
    let lowest = subst (IsLowestNode sizes (image_of sizes state)) c.in-Some.is (fresh_always sizes c.args.taken.now c.args.built.now c.requires.fresh (λ image. IsLowestNode sizes image c.in_ok-number.field-0) c.in_ok-number.ensures.ok state tree p) in
    node_search sizes (image_of sizes state) c.in-Some.number b p.shows.shape.limits.whole_nodes lowest e)
    c.in_err-set_node.field-0.0 c.in_err-set_node.ensures.halt)

pub returns-clause-done : goal.returns-clause-done
returns-clause-done c = λ state tree p.
    let sizes = c.args.sizes.now in
    let lowest = subst (IsLowestNode sizes (image_of sizes (put_blocks state c.args.built.now))) c.in-Some.is (c.in_ok-number.ensures.ok state tree p) in
    record {
      lowest = lowest;
      takes = subst (SetsNode sizes (image_of sizes (put_blocks state c.args.built.now)) (image_of sizes (put_blocks state c.set_node.new.written)) c.in-Some.number) c.empty.ensures.value (c.in_ok-set_node.ensures.done state tree p lowest.0);
    }
