use Rattle.std.proofs.Common.{◌∷◌, ◌<◌, ◌^◌, arith, rules}
use Rattle.zj_script.specs.Grammar.{path_part}
use Rattle.zj_script.specs.Reading.{AreArguments, Stops}
use Rattle.zj_script.specs.Words.{words_left}
use Rattle.zj_script.proofs.Arguments.{of_verb, lacks_to, lacks_size, lacks_read_place, lacks_read_count, lacks_write_place, lacks_written_text}
use Rattle.zj_script.proofs.words.Words.behind_path.Goals as goal

pub returns-in_err-to-in-Rename-clause-err : goal.returns-in_err-to-in-Rename-clause-err
returns-in_err-to-in-Rename-clause-err c =
    let words = words_left c.args.self.now in
    let s : Stops (λ parts. AreArguments c.args.verb (path_part c.args.path ∷ parts)) words c.in_err-to-in-Rename.field-0.0 = of_verb c.args.verb _ c.args.path words c.in_err-to-in-Rename.field-0.0 c.in-Rename.is (lacks_to c.args.path c.requires words c.in_err-to-in-Rename.field-0.0 c.in_err-to-in-Rename.ensures.err) in
    search (rules, s)

pub returns-in_err-size-in-Truncate-clause-err : goal.returns-in_err-size-in-Truncate-clause-err
returns-in_err-size-in-Truncate-clause-err c =
    let words = words_left c.args.self.now in
    let s : Stops (λ parts. AreArguments c.args.verb (path_part c.args.path ∷ parts)) words c.in_err-size-in-Truncate.field-0.0 = of_verb c.args.verb _ c.args.path words c.in_err-size-in-Truncate.field-0.0 c.in-Truncate.is (lacks_size c.args.path c.requires words c.in_err-size-in-Truncate.field-0.0 c.in_err-size-in-Truncate.ensures.err) in
    search (rules, s)

pub returns-in_err-at-in-Read-clause-err : goal.returns-in_err-at-in-Read-clause-err
returns-in_err-at-in-Read-clause-err c =
    let words = words_left c.args.self.now in
    let s : Stops (λ parts. AreArguments c.args.verb (path_part c.args.path ∷ parts)) words c.in_err-at-in-Read.field-0.0 = of_verb c.args.verb _ c.args.path words c.in_err-at-in-Read.field-0.0 c.in-Read.is (lacks_read_place c.args.path c.requires words c.in_err-at-in-Read.field-0.0 c.in_err-at-in-Read.ensures.err) in
    search (rules, s)

pub returns-in_err-count-in-Read-clause-err : goal.returns-in_err-count-in-Read-clause-err
returns-in_err-count-in-Read-clause-err c =
    let low : c.in_ok-at-in-Read.at < 2 ^ 32 = omega arith in
    let s = of_verb c.args.verb _ c.args.path _ _ c.in-Read.is (lacks_read_count c.args.path c.requires c.in_ok-at-in-Read.at low _ _ _ c.in_ok-at-in-Read.ensures.ok c.in_err-count-in-Read.ensures.err) in
    search (rules, s)

pub returns-in_err-at-in-Write-clause-err : goal.returns-in_err-at-in-Write-clause-err
returns-in_err-at-in-Write-clause-err c =
    let words = words_left c.args.self.now in
    let s : Stops (λ parts. AreArguments c.args.verb (path_part c.args.path ∷ parts)) words c.in_err-at-in-Write.field-0.0 = of_verb c.args.verb _ c.args.path words c.in_err-at-in-Write.field-0.0 c.in-Write.is (lacks_write_place c.args.path c.requires words c.in_err-at-in-Write.field-0.0 c.in_err-at-in-Write.ensures.err) in
    search (rules, s)

pub returns-in_err-bytes-in-Write-clause-err : goal.returns-in_err-bytes-in-Write-clause-err
returns-in_err-bytes-in-Write-clause-err c =
    let low : c.in_ok-at-in-Write.at < 2 ^ 32 = omega arith in
    let s = of_verb c.args.verb _ c.args.path _ _ c.in-Write.is (lacks_written_text c.args.path c.requires c.in_ok-at-in-Write.at low _ _ _ c.in_ok-at-in-Write.ensures.ok c.in_err-bytes-in-Write.ensures.err) in
    search (rules, s)
