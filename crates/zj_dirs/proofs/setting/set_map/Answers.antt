-- The new content changes one byte of the map of every made state.
use Rattle.std.proofs.Common.{◌/◌, refl, sym, arith, cond}
use Rattle.zj_dirs.proofs.Seen.{turns_map}
use Rattle.zj_dirs.proofs.Written.{one_more, still_seen, taken_with}
use Rattle.zj_dirs.proofs.setting.set_map.Goals as goal

pub returns-clause-done : goal.returns-clause-done
returns-clause-done c = λ state tree p below.
    turns_map c.args.sizes.now c.args.taken.now c.args.written.now state tree p c.put.new.self (c.args.block / 512) c.put_in_use.new.b c.in_ok-put.ensures.ok
    (omega (arith, below)) c.args.block (cond c.args.in_use 1 0) c.in-Some.found.now below refl (sym c.in-Some.ensures.content) c.put_in_use.ensures.here c.put_in_use.ensures.others

pub returns-clause-kept : goal.returns-clause-kept
returns-clause-kept c = still_seen c.args.taken.now c.args.written.now c.put.new.self (c.args.block / 512) c.put_in_use.new.b c.in_ok-put.ensures.ok

pub returns-clause-taken : goal.returns-clause-taken
returns-clause-taken c = taken_with c.args.taken.now c.args.written.now c.put.new.self (c.args.block / 512) c.in-Some.found.now c.put_in_use.new.b c.in_ok-put.ensures.ok (sym c.in-Some.ensures.content)

pub returns-clause-few : goal.returns-clause-few
returns-clause-few c = one_more c.args.written.now c.put.new.self (c.args.block / 512) c.put_in_use.new.b c.in_ok-put.ensures.ok
