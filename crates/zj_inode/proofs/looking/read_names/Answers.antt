-- The entries that are read are those of every possible state.
use Rattle.std.proofs.Common.{◌≡◌, ℕ, Some, ap, ◌∙◌, arith}
use Rattle.std.proofs.lemmas.Result.{err_from_is_err_and}
use Rattle.zj_layout.specs.Image.{image_of, entry_at, item_block}
use Rattle.zj_layout.specs.Rules.{HasPlace}
use Rattle.zj_layout.specs.Stored.{IsStored}
use Rattle.zj_layout.proofs.Entered.{place_of}
use Rattle.zj_dirs.proofs.Walks.{always_made, made_always, possible_stored}
use Rattle.zj_inode.proofs.Looked.{names_to, one_name_more, all_names}
use Rattle.zj_inode.proofs.Steps.{stops_looking}
use Rattle.zj_inode.proofs.looking.read_names.Goals as goal

pub read_link-requires-clause-stored : goal.read_link-requires-clause-stored
read_link-requires-clause-stored c = always_made c.args.sizes.now c.args.taken.now (IsStored c.args.sizes.now) (λ state tree p. possible_stored c.args.sizes.now state tree p.shows)

pub read_link-requires-clause-node : goal.read_link-requires-clause-node
read_link-requires-clause-node c = always_made c.args.sizes.now c.args.taken.now (λ image. image.node c.args.dir.now.number ≡ Some c.args.dir.now.node) c.requires.node

pub returns-in_err-link-clause-stop : goal.returns-in_err-link-clause-stop
returns-in_err-link-clause-stop c =
    let q = err_from_is_err_and c.from_residual.result c.from_residual.ensures.1 in
    let sizes = c.args.sizes.now in
    let dir = c.args.dir.now in
    rw (q.1, q.2)
    (stops_looking sizes c.args.taken.now (λ image block. block ≡ item_block image dir.number c.loop-place.place) (λ image block. (place : ℕ) × HasPlace image dir.number place × (block ≡ item_block image dir.number place))
    (λ state tree r. ⊥)
    (λ state tree p b e. (c.loop-place.place, place_of (image_of sizes state) dir.number c.loop-place.place dir.node (c.requires.node state tree p) c.requires.directory c.loop-place-test.true, e))
    c.in_err-link.field-0.0 c.in_err-link.ensures.stop)

pub loop-place-preserved : goal.loop-place-preserved
loop-place-preserved c = λ state tree p.
    let image = image_of c.args.sizes.now state in
    one_name_more image c.args.dir.now.number c.loop-place.place c.loop-place.names.items c.push.new.self.items c.in_ok-link.link (c.loop-place.invariant state tree p)
    (made_always c.args.sizes.now c.args.taken.now (λ i. entry_at i c.args.dir.now.number c.loop-place.place ≡ Some c.in_ok-link.link) c.in_ok-link.ensures.ok state tree p)
    c.in_ok-push.ensures.items

pub returns-clause-ok : goal.returns-clause-ok
returns-clause-ok c = λ state tree p.
    let image = image_of c.args.sizes.now state in
    let end : c.loop-place.place ≡ c.args.dir.now.node.size = omega arith in
    c.loop-place.invariant state tree p ∙ ap (names_to image c.args.dir.now.number) end ∙ all_names image c.args.dir.now.number c.args.dir.now.node (c.requires.node state tree p) c.requires.directory
