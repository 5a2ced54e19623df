-- The new block, its byte of the map and the node together add an entry in every made state.
use Rattle.std.proofs.Common.{rules, subst, arith}
use Rattle.zj_layout.specs.Image.{image_of}
use Rattle.zj_layout.specs.Shows.{put_blocks}
use Rattle.zj_dirs.specs.Looking.{IsLowestBlock}
use Rattle.zj_dirs.proofs.Nodes.{grown_in_new}
use Rattle.zj_dirs.proofs.Placed.{added_in_new, below, free_data, new_block}
use Rattle.zj_dirs.proofs.changing.append_in_new.Goals as goal

pub set_node-requires : goal.set_node-requires
set_node-requires c =
    grown_in_new c.args.node.now (search rules) c.requires.spelled c.requires.directory (omega (arith, c.requires.few)) c.in-Some.block c.requires.few c.if-block-eq0.false c.requires.full

pub returns-in_err-set_node-clause-taken : goal.returns-in_err-set_node-clause-taken
returns-in_err-set_node-clause-taken c = λ all. c.set_node.ensures.taken (c.set_map.ensures.taken (c.set_content.ensures.taken all))

pub returns-clause-says : goal.returns-clause-says
returns-clause-says c = λ state tree p.
    let sizes = c.args.sizes.now in
    let old = image_of sizes (put_blocks state c.args.written.now) in
    let s = c.requires.stored state tree p in
    let is = c.requires.node state tree p in
    let lowest = subst (IsLowestBlock sizes old) c.in-Some.is (c.in_ok-block.ensures.ok state tree p) in
    let data_ = free_data sizes old c.in-Some.block (new_block sizes old s c.args.dir c.args.node.now c.args.link.now is c.requires.directory c.requires.few c.in-Some.block lowest) in
    added_in_new sizes old s c.args.dir c.args.node.now c.args.link.now is c.requires.directory c.requires.few c.in-Some.block c.first_link.result
    (image_of sizes (put_blocks state c.set_content.new.written)) (image_of sizes (put_blocks state c.set_map.new.written)) (image_of sizes (put_blocks state c.set_node.new.written))
    (search rules) c.requires.full lowest
    (c.in_ok-set_content.ensures.done state tree p data_) c.first_link.ensures.here c.first_link.ensures.rest
    (c.in_ok-set_map.ensures.done state tree p lowest.0)
    (c.in_ok-set_node.ensures.done state tree p (below sizes old s c.args.dir c.args.node.now c.args.link.now is c.requires.directory c.requires.few))

pub returns-clause-taken : goal.returns-clause-taken
returns-clause-taken c = λ all. c.set_node.ensures.taken (c.set_map.ensures.taken (c.set_content.ensures.taken all))
