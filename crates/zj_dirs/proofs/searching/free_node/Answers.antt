-- The nodes of a block that is seen are those of every made state.
use Rattle.std.proofs.Common.{◌≡◌, ◌≢◌, ℕ, ◌+◌, ◌*◌, ◌/◌, ◌%◌, ◌<◌, ◌≤◌, List, Some, true, false, true≢false, refl, sym, ap, ◌∙◌, subst, arith}
use mathlib.Core.Logic.{dite}
use native.Mathlib.Decide.{dec_lt}
use Rattle.zj_block.specs.Lists.{Entries}
use Rattle.zj_block.specs.Sizes.{Numbers, map_blocks}
use Rattle.zj_tree.specs.Tree.{FileTree}
use Rattle.zj_layout.specs.declared.fields.Kind.TheVariants.{Free}
use Rattle.zj_layout.specs.Image.{State, image_of, node_of}
use Rattle.zj_layout.specs.Shows.{Changes, put_blocks}
use Rattle.zj_layout.specs.Stored.{IsStored}
use Rattle.zj_dirs.specs.Looking.{IsFreeAt, IsUsedAt}
use Rattle.zj_dirs.specs.Possible.{IsPossible, overlaid}
use Rattle.zj_dirs.proofs.Seen.{seen_free, seen_used}
use Rattle.zj_dirs.proofs.searching.free_node.Goals as goal

module _ (sizes : Numbers) (found : Entries) (written : Changes) (state : State) (tree : FileTree) (p : IsPossible sizes found state tree) (s : IsStored sizes (image_of sizes (put_blocks state written)))
    (block k number : ℕ) (content : List ℕ) (at_block : block ≡ map_blocks sizes + k) (here : overlaid found written block ≡ Some content) (lt : number < sizes.nodes) (of : number / 8 ≡ k) where
  seen_here : overlaid found written (map_blocks sizes + number / 8) ≡ Some content
  seen_here = ap (λ m. overlaid found written (map_blocks sizes + m)) of ∙ ap (overlaid found written) (sym at_block) ∙ here

  free_here : IsFreeAt content (number % 8) → (node_of (image_of sizes (put_blocks state written)) number).kind ≡ Free
  free_here free = seen_free sizes found written state tree p s number content lt seen_here true (λ node e. (λ _. free node e, λ _. refl)) refl

  used_here : IsUsedAt content (number % 8) → (node_of (image_of sizes (put_blocks state written)) number).kind ≢ Free
  used_here used = seen_used sizes found written state tree p s number content lt seen_here false (λ node e. (λ is. absurd (true≢false (sym is)), λ free. absurd (used node e free))) refl

pub returns-in-Some-free_place-clause-ok : goal.returns-in-Some-free_place-clause-ok
returns-in-Some-free_place-clause-ok c = λ state tree p.
    let k = c.loop-k.k in
    let place = c.in-Some-free_place.place in
    let told = c.in-Some-free_place.ensures in
    let small : place < 8 = told.some.0 in
    let blocks : k < c.args.sizes.now.nodes / 8 = omega (arith, c.loop-k-test.true, c.node_blocks-k-end.ensures.value) in
    let lt : k * 8 + place < c.args.sizes.now.nodes = omega (arith, small, blocks) in
    let at_block : c.map_blocks.result + k ≡ map_blocks c.args.sizes.now + k = ap (λ m. m + k) c.map_blocks.ensures.value in
    let here = sym c.in-Some.ensures.content in
    let stored = c.requires.stored state tree p in (
      lt,
      free_here c.args.sizes.now c.args.taken.now c.args.written.now state tree p stored (c.map_blocks.result + k) k (k * 8 + place) c.in-Some.content.now at_block here lt (omega (arith, small))
          (let same : (k * 8 + place) % 8 ≡ place = omega (arith, small) in subst (IsFreeAt c.in-Some.content.now) (sym same) told.some.1),
      λ lower less. dite (dec_lt lower (8 * k))
          (λ before. c.loop-k.invariant lower before state tree p)
          (λ behind. let from : 8 * k ≤ lower = omega (arith, behind) in used_here c.args.sizes.now c.args.taken.now c.args.written.now state tree p stored (c.map_blocks.result + k) k lower c.in-Some.content.now at_block here (omega (arith, less, lt)) (omega (arith, less, small, from))
          (told.lower (lower % 8) (omega (arith, less, small, from)))),
    )

pub loop-k-preserved : goal.loop-k-preserved
loop-k-preserved c = λ number below state tree p.
    let k = c.loop-k.k in
    let blocks : k < c.args.sizes.now.nodes / 8 = omega (arith, c.loop-k-test.true, c.node_blocks-k-end.ensures.value) in
    dite (dec_lt number (8 * k))
    (λ before. c.loop-k.invariant number before state tree p)
    (λ behind. let from : 8 * k ≤ number = omega (arith, behind) in used_here c.args.sizes.now c.args.taken.now c.args.written.now state tree p (c.requires.stored state tree p) (c.map_blocks.result + k) k number c.in-Some.content.now (ap (λ m. m + k) c.map_blocks.ensures.value)
    (sym c.in-Some.ensures.content) (omega (arith, below, blocks)) (omega (arith, below, from)) (c.in-None.ensures.none (number % 8) (omega arith)))

pub returns-clause-ok : goal.returns-clause-ok
returns-clause-ok c = λ state tree p number lt.
    let whole = c.node_blocks-k-end.ensures.limits.whole_nodes in
    c.loop-k.invariant number (omega (arith, lt, whole, c.loop-k-test.false, c.node_blocks-k-end.ensures.value)) state tree p
