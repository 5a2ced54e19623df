use Rattle.std.proofs.Common.{◌≡◌, ◌+◌, ◌<◌, List, length, min, sym, subst, ap, ◌∙◌, arith}
use Rattle.zj_layout.specs.declared.fields.Link.{Link}
use Rattle.zj_layout.specs.Graph.{links_of}
use Rattle.zj_layout.specs.Image.{image_of, graph_of, item_block}
use Rattle.zj_layout.specs.Rules.{HasPlace}
use Rattle.zj_layout.specs.Read.{IsNewName, Lowers}
use Rattle.zj_layout.proofs.Entered.{lowers_good, lowers_bad, lowers_has, has_link, link_has, place_few}
use Rattle.zj_layout.proofs.entries.lowest_twice.Goals as goal
use Rattle.zj_layout.proofs.entries.lowest_twice.Goals.{then-is_repeated, else-is_repeated}

pub entry_block-requires-clause-place : goal.entry_block-requires-clause-place
entry_block-requires-clause-place c =
    let im = image_of c.args.sizes.now c.args.blocks.now in
    link_has im c.args.dir c.loop-place.place (subst (λ (xs : List Link). c.loop-place.place < length xs) c.in_ok-links.ensures (omega (arith, c.len-place-end.ensures, c.in_ok-links.links.ok.0)))

pub overflow_cast-place : goal.overflow_cast-place
overflow_cast-place c =
    let im = image_of c.args.sizes.now c.args.blocks.now in
    let has : HasPlace im c.args.dir c.loop-place.place = link_has im c.args.dir c.loop-place.place (subst (λ (xs : List Link). c.loop-place.place < length xs) c.in_ok-links.ensures (omega (arith, c.len-place-end.ensures, c.in_ok-links.links.ok.0))) in
    omega (arith, place_few c.args.sizes.now c.args.blocks.now c.requires.entries.nodes c.args.dir c.loop-place.place c.requires.within has)

pub loop-place-preserved : goal.loop-place-preserved
loop-place-preserved c =
    let im = image_of c.args.sizes.now c.args.blocks.now in
    let good = lowers_good (IsNewName (links_of (graph_of im c.args.dir))) (item_block im c.args.dir) c.args.bound c.loop-place.lowest c.loop-place.place c.loop-place.invariant in
    let bad = lowers_bad (IsNewName (links_of (graph_of im c.args.dir))) (item_block im c.args.dir) c.args.bound c.loop-place.lowest c.loop-place.place c.loop-place.invariant in
    let links_are : c.deref.result.now ≡ links_of (graph_of im c.args.dir) = c.deref.ensures.value ∙ c.in_ok-links.ensures in
    elim c.if-is_repeated.branch [
      | then-is_repeated w ↦ subst (Lowers (λ k. k < c.loop-place.place + 1) (IsNewName (links_of (graph_of im c.args.dir))) (item_block im c.args.dir) c.args.bound) (sym (w.lowest-is ∙ w.min-lowest.ensures ∙ ap (min c.loop-place.lowest) w.entry_block.ensures.value)) (bad (λ new. c.is_repeated.ensures.yes w.if-is_repeated.true (subst (λ (xs : List Link). IsNewName xs c.loop-place.place) (sym links_are) new)))
      | else-is_repeated w ↦ subst (Lowers (λ k. k < c.loop-place.place + 1) (IsNewName (links_of (graph_of im c.args.dir))) (item_block im c.args.dir) c.args.bound) (sym w.lowest-is) (good (subst (λ (xs : List Link). IsNewName xs c.loop-place.place) links_are (c.is_repeated.ensures.no w.if-is_repeated.false)))
    ]

pub returns : goal.returns
returns c =
    let im = image_of c.args.sizes.now c.args.blocks.now in
    let long : c.loop-place.place ≡ length (links_of (graph_of im c.args.dir)) = omega (arith, c.len-place-end.ensures, c.in_ok-links.links.ok.0, ap (λ (xs : List Link). length xs) c.in_ok-links.ensures) in
    lowers_has (λ k. k < c.loop-place.place) (HasPlace im c.args.dir) (IsNewName (links_of (graph_of im c.args.dir))) (item_block im c.args.dir) c.args.bound c.loop-place.lowest
    (λ k lt. link_has im c.args.dir k (omega arith)) (λ k has. let lt = has_link im c.args.dir k has in omega arith) c.loop-place.invariant
