use Rattle.std.proofs.Common.{◌≡◌, ◌<◌, length, sym, ◌∙◌, arith}
use Rattle.std.proofs.lemmas.Bool.Decides.{nat_tests}
use Rattle.zj_script.proofs.Texts.{behind, no_items, no_more_bytes, some_bytes}
use Rattle.zj_script.proofs.Spelling.{second}
use Rattle.zj_script.proofs.text.read_text.Goals as goal

pub returns-then-is_empty-clause-none : goal.returns-then-is_empty-clause-none
returns-then-is_empty-clause-none c bytes good e =
    let none : length c.args.word.now ≡ 0 = grind (arith, nat_tests) in
    some_bytes bytes good (sym e ∙ no_items c.args.word.now none)

pub returns-in_default-clause-none : goal.returns-in_default-clause-none
returns-in_default-clause-none c bytes good e =
    let loop = c.loop-rest.invariant in
    let some : 0 < length c.loop-rest.rest.now = grind (arith, nat_tests) in
    let left = behind c.loop-rest.bytes bytes c.loop-rest.rest.now loop.bytes (second _ _ good) (sym loop.whole ∙ e) in
    no_more_bytes c.loop-rest.rest.now some c.in_default.ensures.none left.0 left.1 left.2
