-- The new content is that of the block in every made state.
use Rattle.std.proofs.Common.{sym}
use Rattle.zj_dirs.proofs.Seen.{turns_content, data_below}
use Rattle.zj_dirs.proofs.Written.{one_more, still_seen, taken_with}
use Rattle.zj_dirs.proofs.setting.set_content.Goals as goal

pub returns-clause-done : goal.returns-clause-done
returns-clause-done c = λ state tree p for_data.
    turns_content c.args.sizes.now c.args.taken.now c.args.written.now state tree p c.put.new.self c.args.block c.args.content.now c.in_ok-put.ensures.ok
    (data_below c.args.sizes.now c.args.block for_data) for_data

pub returns-clause-kept : goal.returns-clause-kept
returns-clause-kept c = still_seen c.args.taken.now c.args.written.now c.put.new.self c.args.block c.args.content.now c.in_ok-put.ensures.ok

pub returns-clause-taken : goal.returns-clause-taken
returns-clause-taken c = taken_with c.args.taken.now c.args.written.now c.put.new.self c.args.block c.in-Some._found.now c.args.content.now c.in_ok-put.ensures.ok (sym c.in-Some.ensures.content)

pub returns-clause-few : goal.returns-clause-few
returns-clause-few c = one_more c.args.written.now c.put.new.self c.args.block c.args.content.now c.in_ok-put.ensures.ok
