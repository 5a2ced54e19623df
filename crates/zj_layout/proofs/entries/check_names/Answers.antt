use Rattle.std.proofs.Common.{◌≡◌, refl, subst, arith}
use Rattle.zj_layout.specs.Graph.{links_of}
use Rattle.zj_layout.specs.Image.{image_of, graph_of}
use Rattle.zj_layout.specs.Rules.{Rule4}
use Rattle.zj_layout.specs.Read.{IsNewName}
use Rattle.zj_layout.proofs.Entered.{LowestOf, lowest_more, all_good, fails_at, names_from, names_to}
use Rattle.zj_layout.proofs.entries.check_names.Goals as goal

pub loop-dir-preserved : goal.loop-dir-preserved
loop-dir-preserved c =
    let im = image_of c.args.sizes.now c.args.blocks.now in
    lowest_more im (λ dir. IsNewName (links_of (graph_of im dir))) c.args.sizes.now.blocks c.loop-dir.dir c.loop-dir.lowest c.in_ok-lowest.lowest c.loop-dir.invariant c.in_ok-lowest.ensures

pub returns-then-lowest-none-clause-fault : goal.returns-then-lowest-none-clause-fault
returns-then-lowest-none-clause-fault c =
    let sizes = c.args.sizes.now in
    let im = image_of sizes c.args.blocks.now in
    let end : c.loop-dir.dir ≡ sizes.nodes = omega (arith, c.nodes-dir-end.ensures.value) in
    let all : LowestOf im (λ dir. IsNewName (links_of (graph_of im dir))) sizes.blocks sizes.nodes c.loop-dir.lowest = subst (λ n. LowestOf im (λ dir. IsNewName (links_of (graph_of im dir))) sizes.blocks n c.loop-dir.lowest) end c.loop-dir.invariant in
    (refl, fails_at sizes c.args.blocks.now (λ dir. IsNewName (links_of (graph_of im dir))) (Rule4 im) c.loop-dir.lowest (names_from im) (names_to im) all (omega (arith, c.blocks-none.ensures.value)))

pub returns-clause-ok : goal.returns-clause-ok
returns-clause-ok c =
    let sizes = c.args.sizes.now in
    let im = image_of sizes c.args.blocks.now in
    let end : c.loop-dir.dir ≡ sizes.nodes = omega (arith, c.nodes-dir-end.ensures.value) in
    let all : LowestOf im (λ dir. IsNewName (links_of (graph_of im dir))) sizes.blocks sizes.nodes c.loop-dir.lowest = subst (λ n. LowestOf im (λ dir. IsNewName (links_of (graph_of im dir))) sizes.blocks n c.loop-dir.lowest) end c.loop-dir.invariant in
    λ block. names_to im block (λ dir place has is. all_good sizes c.args.blocks.now c.requires.nodes (λ dir. IsNewName (links_of (graph_of im dir))) c.loop-dir.lowest all (omega (arith, c.blocks-none.ensures.value)) dir place has)
