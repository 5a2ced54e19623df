use Rattle.std.proofs.Common.{◌≡◌, subst, arith}
use Rattle.zj_layout.specs.Image.{image_of}
use Rattle.zj_layout.specs.Read.{LeadsOn}
use Rattle.zj_layout.proofs.Entered.{LowestOf, lowest_more, all_good}
use Rattle.zj_layout.proofs.entries.check_entries.Goals as goal

pub loop-dir-preserved : goal.loop-dir-preserved
loop-dir-preserved c = lowest_more (image_of c.args.sizes.now c.args.blocks.now) (LeadsOn c.args.sizes.now (image_of c.args.sizes.now c.args.blocks.now)) c.args.sizes.now.blocks c.loop-dir.dir c.loop-dir.lowest c.lowest_astray-lowest.result c.loop-dir.invariant c.lowest_astray-lowest.ensures

pub returns-clause-ok : goal.returns-clause-ok
returns-clause-ok c =
    let sizes = c.args.sizes.now in
    let end : c.loop-dir.dir ≡ sizes.nodes = omega (arith, c.nodes-dir-end.ensures.value) in
    let all : LowestOf (image_of sizes c.args.blocks.now) (LeadsOn sizes (image_of sizes c.args.blocks.now)) sizes.blocks sizes.nodes c.loop-dir.lowest = subst (λ n. LowestOf (image_of sizes c.args.blocks.now) (LeadsOn sizes (image_of sizes c.args.blocks.now)) sizes.blocks n c.loop-dir.lowest) end c.loop-dir.invariant in
    record { nodes = c.requires; each = all_good sizes c.args.blocks.now c.requires (LeadsOn sizes (image_of sizes c.args.blocks.now)) c.loop-dir.lowest all (omega (arith, c.blocks-none.ensures.value)) }
