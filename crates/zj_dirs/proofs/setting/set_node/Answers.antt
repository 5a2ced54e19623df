-- The new content changes one node of every made state.
use Rattle.std.proofs.Common.{◌+◌, ◌/◌, sym, ap, arith}
use Rattle.zj_dirs.proofs.Seen.{turns_node}
use Rattle.zj_dirs.proofs.Written.{one_more, still_seen, taken_with}
use Rattle.zj_dirs.proofs.setting.set_node.Goals as goal

pub returns-clause-done : goal.returns-clause-done
returns-clause-done c = λ state tree p below.
    let at = ap (λ m. m + c.args.number / 8) c.map_blocks.ensures.value in
    turns_node c.args.sizes.now c.args.taken.now c.args.written.now state tree p c.put.new.self (c.map_blocks.result + c.args.number / 8) c.put_node.new.b c.in_ok-put.ensures.ok
    (omega (arith, at, below, p.shows.shape.limits.whole_nodes, p.shows.shape.limits.some_data)) c.args.number c.args.node.now c.in-Some.found.now below at (sym c.in-Some.ensures.content) c.put_node.ensures.here c.put_node.ensures.others

pub returns-clause-kept : goal.returns-clause-kept
returns-clause-kept c = still_seen c.args.taken.now c.args.written.now c.put.new.self (c.map_blocks.result + c.args.number / 8) c.put_node.new.b c.in_ok-put.ensures.ok

pub returns-clause-taken : goal.returns-clause-taken
returns-clause-taken c = taken_with c.args.taken.now c.args.written.now c.put.new.self (c.map_blocks.result + c.args.number / 8) c.in-Some.found.now c.put_node.new.b c.in_ok-put.ensures.ok (sym c.in-Some.ensures.content)

pub returns-clause-few : goal.returns-clause-few
returns-clause-few c = one_more c.args.written.now c.put.new.self (c.map_blocks.result + c.args.number / 8) c.put_node.new.b c.in_ok-put.ensures.ok
