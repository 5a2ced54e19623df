use Rattle.std.proofs.Common.{cond, lt-ltb, None, sym, ap, ◌∙◌}
use Rattle.zj_layout.specs.Node.{checked_link, link_in}
use Rattle.zj_layout.proofs.reading.link_at.Goals as goal

pub returns : goal.returns
unfolding link_in
returns c =
    c.checked_link.ensures
    ∙ (λ i. checked_link (c.number.ensures i) (c.byte.ensures i) (c.byte-2.ensures i) (c.field.ensures i))
    ∙ sym (ap (λ b. cond b (link_in c.args.b.now c.args.i) None) (lt-ltb c.args.i 16 c.if-i-ge-LINKS_PER_BLOCK.false))
