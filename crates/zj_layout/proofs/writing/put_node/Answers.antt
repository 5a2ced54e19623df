use Rattle.std.proofs.Common.{inl, ℕ, ◌+◌, ◌*◌, ◌≤◌, ◌∙◌, arith}
use Rattle.zj_layout.proofs.Kept.{kept_two, number_kept, node_kept, node_here, same_map}
use Rattle.zj_block.specs.Block.{u32_at}
use Rattle.zj_layout.proofs.writing.put_node.Goals as goal

pub returns-clause-here : goal.returns-clause-here
returns-clause-here c =
    let at = 64 * c.args.i in
    let b1 = c.put_number.new.b in
    let b2 = c.put_number-2.new.b in
    let b3 = c.put_numbers.new.b in
    let b4 = c.put_number-3.new.b in
    let b5 = c.put_number-4.new.b in
    let off5 = λ (x : ℕ) (le : x + 4 ≤ at + 60). number_kept b4 b5 (at + 60) 4 x c.put_number-4.ensures.others (inl le) in
    let off4 = λ (x : ℕ) (le : x + 4 ≤ at + 56). number_kept b3 b4 (at + 56) 4 x c.put_number-3.ensures.others (inl le) in
    let off3 = λ (x : ℕ) (le : x + 4 ≤ at + 8). number_kept b2 b3 (at + 8) 48 x c.put_numbers.ensures.others (inl le) in
    let off2 = λ (x : ℕ) (le : x + 4 ≤ at + 4). number_kept b1 b2 (at + 4) 4 x c.put_number-2.ensures.others (inl le) in
    node_here b5 c.args.i c.args.node.now c.requires.spelled
    (off5 at (omega arith) ∙ off4 at (omega arith) ∙ off3 at (omega arith) ∙ off2 at (omega arith) ∙ c.put_number.ensures.here ∙ c.kind_number.ensures)
    (off5 (at + 4) (omega arith) ∙ off4 (at + 4) (omega arith) ∙ off3 (at + 4) (omega arith) ∙ c.put_number-2.ensures.here)
    (same_map (λ j. u32_at b5 (at + 8 + 4 * j)) (λ j. u32_at b3 (at + 8 + 4 * j)) 12 (λ j lt. off5 (at + 8 + 4 * j) (omega arith) ∙ off4 (at + 8 + 4 * j) (omega arith)) ∙ c.put_numbers.ensures.here)
    (off5 (at + 56) (omega arith) ∙ c.put_number-3.ensures.here)
    c.put_number-4.ensures.here

pub returns-clause-others : goal.returns-clause-others
returns-clause-others c j ne =
    let at = 64 * c.args.i in
    let k1 = c.put_number.ensures.others in
    let k2 = kept_two c.args.b.now c.put_number.new.b c.put_number-2.new.b at 4 (at + 4) 4 at 64 k1 c.put_number-2.ensures.others (omega arith) (omega arith) (omega arith) (omega arith) in
    let k3 = kept_two c.args.b.now c.put_number-2.new.b c.put_numbers.new.b at 64 (at + 8) 48 at 64 k2 c.put_numbers.ensures.others (omega arith) (omega arith) (omega arith) (omega arith) in
    let k4 = kept_two c.args.b.now c.put_numbers.new.b c.put_number-3.new.b at 64 (at + 56) 4 at 64 k3 c.put_number-3.ensures.others (omega arith) (omega arith) (omega arith) (omega arith) in
    let k5 = kept_two c.args.b.now c.put_number-3.new.b c.put_number-4.new.b at 64 (at + 60) 4 at 64 k4 c.put_number-4.ensures.others (omega arith) (omega arith) (omega arith) (omega arith) in
    node_kept c.args.b.now c.put_number-4.new.b c.args.i j ne k5
