use Rattle.std.proofs.Common.{◌≡◌, inl, ℕ, ◌+◌, ◌*◌, ◌-◌, List, ◌++◌, replicate, length, ap, subst, ◌∙◌, arith}
use Rattle.zj_tree.proofs.NameLemmas.{name_parts}
use Rattle.zj_layout.specs.Node.{field_at}
use Rattle.zj_layout.proofs.Kept.{kept_two, number_kept, link_kept, link_here}
use Rattle.zj_layout.proofs.writing.put_link.Goals as goal

pub returns-clause-here : goal.returns-clause-here
returns-clause-here c =
    let at = 32 * c.args.i in
    let b1 = c.put_number.new.b in
    let b2 = c.put_byte.new.b in
    let b3 = c.put_byte-2.new.b in
    let b4 = c.put_field.new.b in
    let few = (name_parts c.args.link.now.name c.as_slice-name.ensures.name).few in
    link_here b4 c.args.i c.args.link.now c.as_slice-name.ensures.name few
    (number_kept b3 b4 (at + 6) 26 at c.put_field.ensures.others (inl (omega arith)) ∙ number_kept b2 b3 (at + 5) 1 at c.put_byte-2.ensures.others (inl (omega arith)) ∙ number_kept b1 b2 (at + 4) 1 at c.put_byte.ensures.others (inl (omega arith)) ∙ c.put_number.ensures.here)
    (c.put_field.ensures.others.each (at + 4) (inl (omega arith)) ∙ c.put_byte-2.ensures.others.each (at + 4) (inl (omega arith)) ∙ c.put_byte.ensures.here ∙ ap length c.as_slice-name.ensures.value)
    (c.put_field.ensures.others.each (at + 5) (inl (omega arith)) ∙ c.put_byte-2.ensures.here)
    (subst (λ (xs : List ℕ). field_at b4 (at + 6) ≡ xs ++ replicate (26 - length xs) 0) c.as_slice-name.ensures.value c.put_field.ensures.here)

pub returns-clause-others : goal.returns-clause-others
returns-clause-others c j ne =
    let at = 32 * c.args.i in
    let k1 = c.put_number.ensures.others in
    let k2 = kept_two c.args.b.now c.put_number.new.b c.put_byte.new.b at 4 (at + 4) 1 at 32 k1 c.put_byte.ensures.others (omega arith) (omega arith) (omega arith) (omega arith) in
    let k3 = kept_two c.args.b.now c.put_byte.new.b c.put_byte-2.new.b at 32 (at + 5) 1 at 32 k2 c.put_byte-2.ensures.others (omega arith) (omega arith) (omega arith) (omega arith) in
    let k4 = kept_two c.args.b.now c.put_byte-2.new.b c.put_field.new.b at 32 (at + 6) 26 at 32 k3 c.put_field.ensures.others (omega arith) (omega arith) (omega arith) (omega arith) in
    link_kept c.args.b.now c.put_field.new.b c.args.i j ne k4
