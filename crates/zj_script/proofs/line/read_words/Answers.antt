use Rattle.std.proofs.Common.{◌≡◌, ◌∷◌, ◌++◌, ◌≤◌, ◌^◌, List, ℕ, arith, rules, ap, sym, ◌∙◌, subst, append-nil}
use Rattle.zj_script.specs.Grammar.{act_parts, core_word, line_parts, words_of}
use Rattle.zj_script.specs.Parts.{parts_of}
use Rattle.zj_script.specs.Reading.{LineStops}
use Rattle.zj_script.proofs.LineEnds.{lacks_core, line_stops, of_line, stops_act_of, stops_at_end}
use Rattle.zj_script.proofs.line.read_words.Goals as goal

pub returns-in_err-core-clause-err : goal.returns-in_err-core-clause-err
returns-in_err-core-clause-err c =
    let s : LineStops c.args.acts c.args.cores (parts_of 32 c.args.text.now) c.in_err-core.field-0.0 =
    subst (λ (words : List (List ℕ)). LineStops c.args.acts c.args.cores words c.in_err-core.field-0.0) c.new-words.ensures (lacks_core c.args.acts c.args.cores _ _ c.in_err-core.ensures.err) in
    search (rules, s)

pub returns-in_err-act-clause-err : goal.returns-in_err-act-clause-err
returns-in_err-act-clause-err c =
    let few : c.args.cores ≤ 2 ^ 32 = omega arith in
    let core = c.in_ok-core.ensures.ok in
    let s : LineStops c.args.acts c.args.cores (parts_of 32 c.args.text.now) c.in_err-act.field-0.0 = line_stops c.args.acts c.args.cores _ _ (
    stops_act_of c.args.acts c.args.cores few c.in_ok-core.core _ _ _ core.0 (sym c.new-words.ensures ∙ core.1) c.in_err-act.ensures.err) in
    search (rules, s)

pub returns-in_err-end-clause-err : goal.returns-in_err-end-clause-err
returns-in_err-end-clause-err c =
    let few : c.args.cores ≤ 2 ^ 32 = omega arith in
    let core = c.in_ok-core.ensures.ok in
    let act = c.in_ok-act.ensures.ok in
    let both = of_line c.args.acts c.args.cores c.in_ok-core.core c.in_ok-act.act core.0 act.0 in
    let words = sym c.new-words.ensures ∙ core.1 ∙ ap (λ (ws : List (List ℕ)). core_word c.in_ok-core.core ∷ ws) act.1 in
    let s : LineStops c.args.acts c.args.cores (parts_of 32 c.args.text.now) c.in_err-end.field-0.0 = line_stops c.args.acts c.args.cores _ _ (
    stops_at_end c.args.acts c.args.cores few c.in_ok-core.core c.in_ok-act.act both.0 both.1 _ _ _ words c.in_err-end.ensures.err.1 c.in_err-end.ensures.err.0) in
    search (rules, s)

pub returns-clause-ok : goal.returns-clause-ok
returns-clause-ok c =
    let core = c.in_ok-core.ensures.ok in
    let act = c.in_ok-act.ensures.ok in
    let both = of_line c.args.acts c.args.cores c.in_ok-core.core c.in_ok-act.act core.0 act.0 in
    let words : parts_of 32 c.args.text.now ≡ words_of (line_parts c.in_ok-core.core c.in_ok-act.act) =
    sym c.new-words.ensures ∙ core.1 ∙ ap (λ (ws : List (List ℕ)). core_word c.in_ok-core.core ∷ ws)
    (act.1 ∙ ap (λ (ws : List (List ℕ)). words_of (act_parts c.in_ok-act.act) ++ ws) c.in_ok-end.ensures.ok ∙ append-nil (words_of (act_parts c.in_ok-act.act))) in
    (both.0, both.1, words)
