-- The names of a directory's entries, sorted, are its listing.
use Rattle.std.proofs.Common.{◌≡◌, ℕ, refl, sym, ◌∙◌, subst, map, List, IsPermutation, IsSorted}
use Rattle.std.specs.Ordering.{nat_cmp}
use Rattle.std.specs.Cmp.Lexicographic.{slice_cmp}
use Rattle.std.proofs.lemmas.Result.{err_from_is_err_and}
use Rattle.zj_tree.specs.declared.call.Call.TheVariants as calls
use Rattle.zj_tree.specs.declared.call.Reply.TheVariants as replies
use Rattle.zj_layout.specs.declared.fields.Kind.TheVariants.{Dir}
use Rattle.zj_layout.specs.declared.fields.Link.{Link}
use Rattle.zj_layout.specs.Graph.{links_of}
use Rattle.zj_layout.specs.Image.{image_of, item_block, graph_of}
use Rattle.zj_layout.specs.Rules.{HasPlace}
use Rattle.zj_changes.specs.Holds.{Answers}
use Rattle.zj_changes.specs.Walk.{LeadsToNoDirectory}
use Rattle.zj_changes.proofs.LookReplies.{list_no_directory, list_sorted}
use Rattle.zj_inode.specs.Finding.{IsWayBlock}
use Rattle.zj_inode.specs.Footprint.{Foot, listed}
use Rattle.zj_inode.proofs.Foots.{way_foot}
use Rattle.zj_inode.proofs.Looked.{looked}
use Rattle.zj_inode.proofs.Steps.{kind_at, stops_more}
use Rattle.zj_inode.proofs.looking.list.Goals as goal

pub returns-in_err-dir-clause-stop : goal.returns-in_err-dir-clause-stop
returns-in_err-dir-clause-stop c =
    let q = err_from_is_err_and c.from_residual.result c.from_residual.ensures.1 in
    let sizes = c.args.sizes.now in
    let path = c.args.path.now in
    rw (q.1, q.2)
    (stops_more sizes c.args.taken.now (λ image block. IsWayBlock sizes image path block) (λ image block. Foot sizes image (calls.List path) block)
    (λ state tree r. LeadsToNoDirectory (image_of sizes state) path r) (λ state tree r. Answers sizes (calls.List path) (replies.Refused r) tree state)
    (λ state tree p b h. way_foot sizes (image_of sizes state) (calls.List path) path (0, refl) b h) (λ state tree p r h. list_no_directory sizes state tree p.shows path r h)
    c.in_err-dir.field-0.0 c.in_err-dir.ensures.stop)

pub returns-in_err-names-clause-stop : goal.returns-in_err-names-clause-stop
returns-in_err-names-clause-stop c =
    let q = err_from_is_err_and c.from_residual-in_err-names.result c.from_residual-in_err-names.ensures.1 in
    let sizes = c.args.sizes.now in
    let path = c.args.path.now in
    let dir = c.in_ok-dir.dir.number in
    rw (q.1, q.2)
    (stops_more sizes c.args.taken.now (λ image block. (place : ℕ) × HasPlace image dir place × (block ≡ item_block image dir place)) (λ image block. Foot sizes image (calls.List path) block)
    (λ state tree r. ⊥) (λ state tree r. Answers sizes (calls.List path) (replies.Refused r) tree state)
    (λ state tree p b h. listed path dir h.0 refl (c.in_ok-dir.ensures.ok state tree p).leads h.1 h.2) (λ state tree p r h. absurd h)
    c.in_err-names.field-0.0 c.in_err-names.ensures.stop)

pub returns-clause-done : goal.returns-clause-done
returns-clause-done c = looked c.args.sizes.now c.args.taken.now (calls.List c.args.path.now) (replies.Listed c.in_ok-listed.field-0) (λ state tree p.
    let at = c.in_ok-dir.ensures.ok state tree p in
    let image = image_of c.args.sizes.now state in
    list_sorted c.args.sizes.now state tree p.shows c.args.path.now c.in_ok-dir.dir.number c.in_ok-listed.field-0 at.leads (kind_at image c.args.path.now c.in_ok-dir.dir at Dir c.in_ok-dir.ensures.directory)
    (subst (λ (x : List (List ℕ)). IsPermutation (map (λ (l : Link). l.name) (links_of (graph_of image c.in_ok-dir.dir.number))) x) (sym same)
    (subst (λ (x : List (List ℕ)). IsPermutation x c.sort.new.self.items) (c.in_ok-names.ensures.ok state tree p) c.sort.ensures.permutation))
    (subst (λ (x : List (List ℕ)). IsSorted (slice_cmp nat_cmp) x) (sym same) c.in_ok-sort.ensures.sorted))
  where
    same : c.in_ok-listed.field-0 ≡ c.sort.new.self.items
    same = c.in_ok-listed.ensures ∙ c.deref.ensures.value
