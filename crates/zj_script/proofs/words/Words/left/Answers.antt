use Rattle.std.proofs.Common.{length, sym, ap}
use Rattle.std.proofs.Common.{List, ℕ}
use Rattle.zj_script.proofs.Splitting.{left_text}
use Rattle.zj_script.proofs.words.Words.left.Goals as goal

pub returns-in-Some : goal.returns-in-Some
returns-in-Some c = ap (λ (text : List ℕ). length text) (sym (left_text _ _ c.in-Some.is))
