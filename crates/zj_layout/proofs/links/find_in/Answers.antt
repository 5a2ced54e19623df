use Rattle.std.proofs.Common.{◌≡◌, ◌≤◌, List, length, sym, ap, subst, ◌∙◌, arith}
use Rattle.zj_layout.specs.declared.fields.Link.{Link}
use Rattle.zj_layout.specs.Graph.{links_of}
use Rattle.zj_layout.specs.Image.{image_of, graph_of}
use Rattle.zj_layout.proofs.Entered.{link_item, entry_leads}
use Rattle.zj_layout.proofs.Found.{walks_more, closed_all}
use Rattle.zj_layout.proofs.links.find_in.Goals as goal

pub find-requires-clause-node : goal.find-requires-clause-node
find-requires-clause-node c =
    let e = link_item c.args.sizes.now c.args.blocks.now c.requires.names.entries c.node_at-dir.result c.loop-link.link-index c.link-item.result c.deref-link-items.result.now (c.deref-link-items.ensures.value ∙ c.in_ok-links.ensures) c.loop-link-test.true c.link-item.is in
    omega (arith, e.within, c.loop-link.invariant.marks.many)

pub loop-link-preserved : goal.loop-link-preserved
loop-link-preserved c =
    let sizes = c.args.sizes.now in
    let s = c.args.blocks.now in
    let e = link_item sizes s c.requires.names.entries c.node_at-dir.result c.loop-link.link-index c.link-item.result c.deref-link-items.result.now (c.deref-link-items.ensures.value ∙ c.in_ok-links.ensures) c.loop-link-test.true c.link-item.is in
    walks_more sizes.nodes (graph_of (image_of sizes s)) c.args.at c.loop-link.link-index c.node_at-dir.result (length c.args.found.now.items) c.link-item.result e.stands e.within (entry_leads sizes s c.requires.names c.node_at-dir.result c.loop-link.link-index c.link-item.result e.stands)
    c.loop-link.found.items c.loop-link.seen c.find.new.found.items c.find.new.seen c.loop-link.invariant c.in_ok-find.ensures

pub returns-clause-closed : goal.returns-clause-closed
returns-clause-closed c =
    let g = graph_of (image_of c.args.sizes.now c.args.blocks.now) in
    let all : length c.deref-link-items.result.now ≡ length (links_of (g c.node_at-dir.result)) = ap (λ (xs : List Link). length xs) (c.deref-link-items.ensures.value ∙ c.in_ok-links.ensures) in
    let all' : length (links_of (g c.node_at-dir.result)) ≤ c.loop-link.link-index = omega (arith, all) in
    closed_all g c.loop-link.found.items c.loop-link.seen c.args.at c.loop-link.link-index (subst (λ d. length (links_of (g d)) ≤ c.loop-link.link-index) (sym c.loop-link.invariant.dir_is) all') c.loop-link.invariant.closed
