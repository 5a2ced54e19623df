use Rattle.std.proofs.Common.{◌≡◌, ◌+◌, ◌-◌, ◌*◌, ◌/◌, ◌%◌, ◌≤◌, length, arith}
use Rattle.std.proofs.lemmas.Grind.{common_steps}
use Rattle.zj_block.specs.Block.{bytes_of}
use Rattle.zj_block.proofs.Bytes.{length-bytes_of}
use Rattle.zj_block.proofs.Parts.{put_in_two}
use Rattle.zj_block.proofs.Views.{with_bytes_at-is}
use Rattle.zj_block.proofs.block.Block.put_u32.Goals as goal

pub returns-then-from-le4-clause-put : goal.returns-then-from-le4-clause-put
returns-then-from-le4-clause-put c = grind (arith, common_steps, with_bytes_at-is)

-- the bytes before the end of the word, and then those behind it
pub returns-else-from-le4-clause-bytes : goal.returns-else-from-le4-clause-bytes
returns-else-from-le4-clause-bytes c =
    let old = c.args.self.now in
    let at = c.args.at in
    let first_place : 8 * (at / 8) + at % 8 ≡ at = omega arith in
    let second_place : 8 * (at / 8 + 1) + 0 ≡ at + (8 - at % 8) = omega arith in
    let first = rw (first_place, c.from-value.ensures) at c.put_part-else-from-le4.ensures.bytes in
    let second = rw (second_place, c.from-value.ensures) at c.put_part-else-from-le4-2.ensures.bytes in
    let inside : at + 4 ≤ length (bytes_of old) = omega (arith, length-bytes_of old, c.holds.ensures.content.many) in
    put_in_two (bytes_of old) (bytes_of c.put_part-else-from-le4.new.self) (bytes_of c.put_part-else-from-le4-2.new.self) at (8 - at % 8) c.args.v inside (omega arith) first second

pub returns-else-from-le4-clause-put : goal.returns-else-from-le4-clause-put
returns-else-from-le4-clause-put c = with_bytes_at-is _ _ _ _ c.put_part-else-from-le4-2.ensures.content (returns-else-from-le4-clause-bytes c)
