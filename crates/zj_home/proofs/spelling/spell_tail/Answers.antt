use Rattle.std.proofs.Common.{List, ℕ, ◌++◌, ap, refl, ◌∙◌, append_assoc}
use Rattle.zj_home.proofs.spelling.spell_tail.Goals as goal

pub returns-clause-spelled : goal.returns-clause-spelled
returns-clause-spelled c =
    c.push-2.ensures.added ∙ ap (λ (l : List ℕ). l ++ c.to_le_bytes-2.result) c.push.ensures.added
    ∙ append_assoc c.args.slot.now c.to_le_bytes.result c.to_le_bytes-2.result ∙ rw (c.to_le_bytes.ensures, c.to_le_bytes-2.ensures) refl
