use Rattle.std.proofs.Common.{◌∷◌, rules, sym, subst, List, ℕ}
use Rattle.zj_script.specs.Grammar.{path_part}
use Rattle.zj_script.specs.Reading.{AreArguments, Stops}
use Rattle.zj_script.specs.Words.{words_left}
use Rattle.zj_script.proofs.Arguments.{lacks_path, stops_path}
use Rattle.zj_script.proofs.Leaving.{if_err}
use Rattle.zj_script.proofs.words.Words.arguments.Goals as goal

pub returns-in_err-path-clause-err : goal.returns-in_err-path-clause-err
returns-in_err-path-clause-err c =
    let s : Stops (AreArguments c.args.verb) (words_left c.args.self.now) c.in_err-path.field-0.0 = lacks_path c.args.verb (words_left c.args.self.now) c.in_err-path.field-0.0 c.in_err-path.ensures.err in
    search (rules, s)

pub returns-clause-err : goal.returns-clause-err
returns-clause-err c =
    let verb = c.args.verb in
    let path = c.in_ok-path.path in
    let left = words_left c.path.new.self in
    if_err c.behind_path.result (Stops (λ parts. AreArguments verb (path_part path ∷ parts)) left) (Stops (AreArguments verb) (words_left c.args.self.now))
    (λ stop s. subst (λ (words : List (List ℕ)). Stops (AreArguments verb) words stop) (sym c.in_ok-path.ensures.ok.1) (stops_path verb path left stop s))
    c.behind_path.ensures.err
