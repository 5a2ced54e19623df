use Rattle.std.proofs.Common.{◌≡◌, ℕ, List, [], true, false, sym, subst, ◌∙◌}
use Rattle.std.specs.Prelude.{slice_index}
use Rattle.std.proofs.lemmas.List.{get_or_default}
use Rattle.zj_tx.specs.Record.{Record}
use Rattle.zj_closure.specs.Found.{records_of}
use Rattle.zj_mount.specs.Gathering.{ChooseSame}
use Rattle.zj_mount.proofs.gathering.choose_same.Goals as goal

pub returns-then-not-chooses_same : goal.returns-then-not-chooses_same
returns-then-not-chooses_same c =
    let core = c.loop-core.core in
    let records = records_of c.args.heads.now core in
    let read : c.index-heads-core.result ≡ records = c.index-heads-core.is ∙ get_or_default c.args.heads.now core c.index-heads-core.result [] c.loop-core-test.true in
    let some : ((d : ℕ) → ChooseSame (slice_index c.args.guess.now d) (slice_index c.args.kept.now d) (records_of c.args.heads.now d)) → ChooseSame c.bound_of-guessed.result c.bound_of.result c.index-heads-core.result = λ all.
    subst (λ (rs : List Record). ChooseSame c.bound_of-guessed.result c.bound_of.result rs) (sym read)
    (subst (λ (n : ℕ). ChooseSame c.bound_of-guessed.result n records) (sym c.bound_of.ensures)
    (subst (λ (n : ℕ). ChooseSame n (slice_index c.args.kept.now core) records) (sym c.bound_of-guessed.ensures) (all core))) in
    (λ (no : false ≡ true). absurd cc, λ all. sym c.if-not-chooses_same.true ∙ c.chooses_same.ensures.1 (some all))
