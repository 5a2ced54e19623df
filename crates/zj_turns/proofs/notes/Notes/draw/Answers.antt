use Rattle.std.proofs.Common.{◌≡◌, ◌∙◌, ℕ, Bool, true, false, cond, Some, None, refl, arith}
use Rattle.std.specs.Bool.{then_some}
use Rattle.zj_turns.proofs.Telling.{agree_drawing}
use Rattle.zj_turns.proofs.notes.Notes.draw.Goals as goal

then_some_is : (b : Bool) (n : ℕ) → then_some b n ≡ cond b (Some n) None
then_some_is true n = refl
then_some_is false n = refl

pub returns-clause-drawn : goal.returns-clause-drawn
returns-clause-drawn c = λ k e t ticket number.
    agree_drawing c.args.self.now k e _ _ c.args.ticket _ t ticket number (let some = c.requires.left in omega arith) c.requires.small (c.then_some-self.ensures ∙ then_some_is _ c.args.ticket)
