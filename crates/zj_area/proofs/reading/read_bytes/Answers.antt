use Rattle.std.proofs.Common.{◌≡◌, ◌≤◌, ◌+◌, ◌*◌, ◌-◌, List, ℕ, ◌++◌, length, take, drop, arith, sym, ◌∙◌, length-append, length-drop}
use Rattle.std.proofs.lemmas.List.{length-take-le}
use Rattle.zj_area.proofs.Parts.{both_read, first_byte, front_stays, if_both, if_some}
use Rattle.zj_area.proofs.reading.read_bytes.Goals as goal

-- how many bytes a part of the buffer has
part_len : (h m : ℕ) (buffer into : List ℕ) → length into ≡ h → h + m ≤ length buffer → length (take m (drop h (into ++ drop h buffer))) ≡ m
part_len h m buffer into many within =
    let rest = length-drop h buffer in
    let all = length-append into (drop h buffer) in
    let behind = length-drop h (into ++ drop h buffer) in
    length-take-le m (drop h (into ++ drop h buffer)) (omega (arith, rest, all, behind, many))

pub returns-clause-open : goal.returns-clause-open
returns-clause-open g c =
    let h = 24 + 8 * c.from.result in
    let many : length c.read_at.new.into ≡ h = c.read_at.auto.into ∙ length-take-le h c.args.buffer.now (omega arith) in
    if_some (g.D.Disk.view c.args.d.now).bytes (λ image read. sym (first_byte image c.args.place c.read_at.new.into (drop h c.args.buffer.now) (omega arith) read) ∙ c.if-buffer-ne-OPEN.false) c.in_ok-read_at.ensures.given

pub returns-clause-bytes : goal.returns-clause-bytes
returns-clause-bytes g c =
    let h = 24 + 8 * c.from.result in
    let len = c.len_from_head-len.result in
    let head_len : length c.read_at.new.into ≡ h = c.read_at.auto.into ∙ length-take-le h c.args.buffer.now (omega arith) in
    let rest_len : length c.read_at-2.new.into ≡ len - h = c.read_at-2.auto.into ∙ part_len h (len - h) c.args.buffer.now c.read_at.new.into head_len (omega arith) in
    if_both (g.D.Disk.view c.args.d.now).bytes (g.D.Disk.view c.read_at.new.d).bytes c.read_at.ensures.read_only.bytes
    (λ image head rest. both_read image c.args.buffer.now c.read_at.new.into c.read_at-2.new.into c.args.place h len (omega arith) head_len rest_len head rest)
    c.in_ok-read_at.ensures.given c.in_ok-read_at-2.ensures.given

pub returns-clause-len : goal.returns-clause-len
returns-clause-len g c = λ r is many same.
    let h = 24 + 8 * c.from.result in
    let len = c.len_from_head-len.result in
    let head_len : length c.read_at.new.into ≡ h = c.read_at.auto.into ∙ length-take-le h c.args.buffer.now (omega arith) in
    let room : h ≤ length (c.read_at.new.into ++ drop h c.args.buffer.now) = omega (arith, length-append c.read_at.new.into (drop h c.args.buffer.now), head_len) in
    c.len_from_head-len.ensures.len r is many
    (same ∙ front_stays h (len - h) 24 (c.read_at.new.into ++ drop h c.args.buffer.now) c.read_at-2.new.into (omega arith) room)
