use Rattle.std.proofs.Common.{◌≡◌, ℕ, ◌<◌, ◌≤◌, List, length, slice_index, take, sym, ap, ◌∙◌, arith}
use Rattle.std.proofs.lemmas.List.{length-take-le}
use Rattle.std.proofs.lemmas.Grind.{common_steps}
use Rattle.zj_layout.specs.Node.{blocks_needed}
use Rattle.zj_layout.proofs.Ruled.{read_long, read_count}
use Rattle.zj_layout.proofs.Filed.{bytes_more, bytes_all, number_at}
use Rattle.zj_layout.proofs.trees.file_bytes.Goals as goal

pub loop-j-preserved : goal.loop-j-preserved
loop-j-preserved c =
    let sizes = c.args.sizes.now in
    let s = c.args.blocks.now in
    let node = c.node_of-node.result in
    let count = blocks_needed node in
    let few : count ≤ length node.blocks = omega (arith, read_count sizes s c.args.file node c.requires.within (sym c.node_of-node.ensures), read_long sizes s c.args.file node c.requires.within (sym c.node_of-node.ensures)) in
    let long : length (take count node.blocks) ≡ count = length-take-le count node.blocks few in
    let lt : c.loop-j.j < count = omega (arith, long, ap (λ (xs : List ℕ). length xs) c.numbers-number-items.ensures) in
    bytes_more sizes s c.requires.nodes c.args.file c.requires.within c.requires.kind node c.node_of-node.ensures c.loop-j.j _ c.loop-j.bytes c.block_bytes-content.result c.extend.new.self lt
    (ap (λ (xs : List ℕ). slice_index xs c.loop-j.j) c.numbers-number-items.ensures ∙ number_at sizes s c.requires.nodes c.args.file c.requires.within c.requires.kind node c.node_of-node.ensures c.loop-j.j lt)
    c.block_bytes-content.ensures.bytes c.block_bytes-content.ensures.long c.loop-j.invariant (grind (arith, common_steps))

pub returns : goal.returns
returns c =
    let sizes = c.args.sizes.now in
    let s = c.args.blocks.now in
    let node = c.node_of-node.result in
    let count = blocks_needed node in
    let few : count ≤ length node.blocks = omega (arith, read_count sizes s c.args.file node c.requires.within (sym c.node_of-node.ensures), read_long sizes s c.args.file node c.requires.within (sym c.node_of-node.ensures)) in
    let long : length (take count node.blocks) ≡ count = length-take-le count node.blocks few in
    bytes_all sizes s c.requires.nodes c.args.file c.requires.within c.requires.kind node c.node_of-node.ensures c.loop-j.j c.loop-j.bytes (omega (arith, long, ap (λ (xs : List ℕ). length xs) c.numbers-number-items.ensures)) c.loop-j.invariant
