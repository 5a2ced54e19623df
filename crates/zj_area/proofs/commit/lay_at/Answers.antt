use Rattle.std.proofs.Common.{◌≡◌, ◌-◌, List, ℕ, length, take, drop, arith, length-drop}
use Rattle.std.proofs.lemmas.List.{length-take-le}
use Rattle.zj_dev.proofs.DiskLaws.{continues_trans}
use Rattle.zj_area.proofs.Calls.{lay_body, lay_gate, lay_sync}
use Rattle.zj_area.proofs.commit.lay_at.Goals as goal

-- the record without its gate
body_len : (bytes : List ℕ) → length (take (length bytes - 1) (drop 1 bytes)) ≡ length bytes - 1
body_len bytes = let rest = length-drop 1 bytes in length-take-le (length bytes - 1) (drop 1 bytes) (omega (arith, rest))

pub returns-in_err-write_at-clause-moments : goal.returns-in_err-write_at-clause-moments
returns-in_err-write_at-clause-moments g c =
    let r = c.args.spelled.now in
    lay_body c.args.place (length r) c.args.next (g.D.Disk.view c.args.d.now) (g.D.Disk.view c.write_at.new.d) (length (take (length r - 1) (drop 1 r))) (body_len r) c.write_at.ensures.torn

pub returns-in_err-write_at-2-clause-moments : goal.returns-in_err-write_at-2-clause-moments
returns-in_err-write_at-2-clause-moments g c =
    let r = c.args.spelled.now in
    lay_gate c.args.place (length r) c.args.next _ (g.D.Disk.view c.write_at.new.d) _ (length (take (length r - 1) (drop 1 r))) (body_len r) c.write_at.ensures.continues c.write_at.ensures.torn
    c.write_at-2.ensures.continues c.write_at-2.ensures.torn

pub returns-clause-moments : goal.returns-clause-moments
returns-clause-moments g c =
    let r = c.args.spelled.now in
    lay_sync c.args.place (length r) c.args.next _ (g.D.Disk.view c.write_at.new.d) (g.D.Disk.view c.write_at-2.new.d) _ (length (take (length r - 1) (drop 1 r))) (body_len r) c.write_at.ensures.continues c.write_at.ensures.torn
    c.write_at-2.ensures.continues c.write_at-2.ensures.torn c.sync.ensures.continues c.sync.ensures.stays

pub returns-in_err-write_at-2-clause-continues : goal.returns-in_err-write_at-2-clause-continues
returns-in_err-write_at-2-clause-continues g c = continues_trans _ _ _ c.write_at.ensures.continues c.write_at-2.ensures.continues

pub returns-clause-continues : goal.returns-clause-continues
returns-clause-continues g c = continues_trans _ _ _ (continues_trans _ _ _ c.write_at.ensures.continues c.write_at-2.ensures.continues) c.sync.ensures.continues
