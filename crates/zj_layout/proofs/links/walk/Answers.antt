use Rattle.std.proofs.Common.{◌≡◌, length, arith, subst}
use Rattle.zj_layout.specs.Linked.{IsClosed}
use Rattle.zj_layout.specs.Image.{image_of, graph_of}
use Rattle.zj_layout.proofs.Found.{found_few, marks_reached}
use Rattle.zj_layout.proofs.links.walk.Goals as goal

pub loop-at-smaller : goal.loop-at-smaller
loop-at-smaller c =
    let few = found_few c.args.sizes.now.nodes (graph_of (image_of c.args.sizes.now c.args.blocks.now)) c.loop-at.found.items c.loop-at.invariant.found in
    omega (arith, few, c.len.ensures, c.loop-at.found.ok.0)

pub returns-clause-reached : goal.returns-clause-reached
returns-clause-reached c =
    let g = graph_of (image_of c.args.sizes.now c.args.blocks.now) in
    let end : c.loop-at.at ≡ length c.loop-at.found.items = omega (arith, c.len.ensures, c.loop-at.found.ok.0, c.loop-at.invariant.few) in
    marks_reached c.args.sizes.now.nodes g c.loop-at.found.items c.loop-at.seen.items c.loop-at.invariant.found c.loop-at.invariant.marks (subst (IsClosed g c.loop-at.found.items c.loop-at.seen.items) end c.loop-at.invariant.closed)
