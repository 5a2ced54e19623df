use Rattle.std.proofs.Common.{rules}
use Rattle.zj_script.specs.Reading.{AreOfAct, Stops}
use Rattle.zj_script.specs.Words.{words_left}
use Rattle.zj_script.proofs.Openings.{lacks_begun, lacks_opening, stops_begun, stops_call}
use Rattle.zj_script.proofs.words.Words.act.Goals as goal

pub returns-in_err-opening-clause-err : goal.returns-in_err-opening-clause-err
returns-in_err-opening-clause-err c =
    let s : Stops (AreOfAct c.args.acts) (words_left c.args.self.now) c.in_err-opening.field-0.0 = lacks_opening c.args.acts _ _ c.in_err-opening.ensures.err in
    search (rules, s)

pub returns-in_err-arguments-in-Call-clause-err : goal.returns-in_err-arguments-in-Call-clause-err
returns-in_err-arguments-in-Call-clause-err c =
    let ok = c.in_ok-opening.ensures.ok in
    let s : Stops (AreOfAct c.args.acts) (words_left c.args.self.now) c.in_err-arguments-in-Call.field-0.0 =
    stops_call c.args.acts c.in_ok-opening.opening c.in-Call.verb _ _ _ c.in-Call.is ok.0 ok.1 c.in_err-arguments-in-Call.ensures.err in
    search (rules, s)

pub returns-in_err-verb-in-Begin-clause-err : goal.returns-in_err-verb-in-Begin-clause-err
returns-in_err-verb-in-Begin-clause-err c =
    let ok = c.in_ok-opening.ensures.ok in
    let s : Stops (AreOfAct c.args.acts) (words_left c.args.self.now) c.in_err-verb-in-Begin.field-0.0 =
    lacks_begun c.args.acts c.in_ok-opening.opening _ _ _ c.in-Begin.is ok.0 ok.1 c.in_err-verb-in-Begin.ensures.err in
    search (rules, s)

pub returns-in_err-arguments-in-Begin-clause-err : goal.returns-in_err-arguments-in-Begin-clause-err
returns-in_err-arguments-in-Begin-clause-err c =
    let ok = c.in_ok-opening.ensures.ok in
    let verb = c.in_ok-verb-in-Begin.ensures.ok in
    let s : Stops (AreOfAct c.args.acts) (words_left c.args.self.now) c.in_err-arguments-in-Begin.field-0.0 =
    stops_begun c.args.acts c.in_ok-opening.opening c.in_ok-verb-in-Begin.verb _ _ _ _ c.in-Begin.is ok.0 ok.1 verb.0 verb.1 c.in_err-arguments-in-Begin.ensures.err in
    search (rules, s)
