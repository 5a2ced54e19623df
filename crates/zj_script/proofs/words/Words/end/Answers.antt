use Rattle.std.proofs.Common.{List, ℕ, length, refl, sym, ap}
use Rattle.zj_script.proofs.Splitting.{left_part, left_text}
use Rattle.zj_script.proofs.words.Words.end.Goals as goal

pub returns-in-Some-clause-err : goal.returns-in-Some-clause-err
returns-in-Some-clause-err c = ((refl, ap (λ (text : List ℕ). length text) (sym (left_text _ _ c.in-Some.is)), λ word more none e. none), left_part _ _ c.in-Some.is)
