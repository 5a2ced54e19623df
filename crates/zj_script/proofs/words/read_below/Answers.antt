use Rattle.std.proofs.Common.{◌≡◌, decimal, arith, sym, ◌∙◌}
use Rattle.std.proofs.lemmas.Fmt.{decimal_injective}
use Rattle.zj_script.proofs.words.read_below.Goals as goal

pub returns-else-number-count-clause-none : goal.returns-else-number-count-clause-none
returns-else-number-count-clause-none c number below is =
    let texts : decimal c.in_ok-number.number ≡ decimal number = sym c.in_ok-number.ensures.some ∙ is in
    let same = decimal_injective c.in_ok-number.number number (omega arith) (omega arith) texts in
    omega (arith, same, c.if-number-count.false, below)
