-- The contents are stored from the last one on.
use Rattle.std.proofs.Common.{◌-◌, ◌<◌, length, drop, [], sym, ap, ◌∙◌, arith}
use Rattle.std.specs.FinMap as finmap
use Rattle.std.proofs.lemmas.Option.{slice_get-get_or}
use Rattle.zj_layout.proofs.Follow.{none_some}
use Rattle.zj_turns.specs.Views.{Known, hold_in}
use Rattle.zj_turns.specs.Passes.{mine, now_knowing}
use Rattle.zj_core.specs.Steps.{stored_into}
use Rattle.zj_core.proofs.Knowing.{knowing_same, mine_is}
use Rattle.zj_core.proofs.Stored.{drop_none, entry_there, loaded_held, stored_drawn, stored_loaded, stored_there, stores_one}
use Rattle.zj_core.proofs.steps.store_all.Goals as goal

pub loop-i-init : goal.loop-i-init
loop-i-init c =
    let p = c.args.pass.now in
    let entries = finmap.entries c.args.written.now in
    sym (knowing_same p c.requires.known)
    ∙ ap (λ es. now_knowing p (stored_into (mine p) es)) (sym (drop_none entries))
    ∙ ap (λ n. now_knowing p (stored_into (mine p) (drop n entries))) (sym (c.len-i.ensures.len ∙ finmap.len-entries c.args.written.now))

pub store-requires-clause-held : goal.store-requires-clause-held
store-requires-clause-held c =
    let p = c.args.pass.now in
    let b = c.in-Some.block.0 in
    let es = drop c.loop-i.i (finmap.entries c.args.written.now) in
    ap (λ (k : Known). finmap.contains_key k.held b) (mine_is p c.loop-i.pass (stored_into (mine p) es) c.loop-i.invariant)
    ∙ stored_there (mine p) es b (c.requires.held b (entry_there c.args.written.now (c.loop-i.i - 1) b c.in-Some.content.now (sym c.in-Some.ensures.entry)))

pub store-requires-clause-loaded : goal.store-requires-clause-loaded
store-requires-clause-loaded c =
    let p = c.args.pass.now in
    let b = c.in-Some.block.0 in
    let es = drop c.loop-i.i (finmap.entries c.args.written.now) in
    ap (λ (k : Known). length (hold_in k b).loaded) (mine_is p c.loop-i.pass (stored_into (mine p) es) c.loop-i.invariant)
    ∙ ap length (stored_loaded (mine p) es b)
    ∙ loaded_held (mine p) b (c.requires.read b) (c.requires.held b (entry_there c.args.written.now (c.loop-i.i - 1) b c.in-Some.content.now (sym c.in-Some.ensures.entry)))

pub store-requires-clause-clear : goal.store-requires-clause-clear
store-requires-clause-clear c =
    let p = c.args.pass.now in
    let es = drop c.loop-i.i (finmap.entries c.args.written.now) in
    ap (λ (k : Known). k.drawn) (mine_is p c.loop-i.pass (stored_into (mine p) es) c.loop-i.invariant) ∙ stored_drawn (mine p) es ∙ c.requires.clear

pub loop-i-preserved-in-Some : goal.loop-i-preserved-in-Some
loop-i-preserved-in-Some c =
    stores_one c.args.pass.now c.loop-i.pass c.store.new.pass (finmap.entries c.args.written.now) c.loop-i.i c.in-Some.block.0 c.in-Some.content.now c.loop-i.invariant (omega (arith, c.loop-i-test.true)) (sym c.in-Some.ensures.entry) c.store.ensures.pass

pub loop-i-preserved : goal.loop-i-preserved
loop-i-preserved c =
    let entries = finmap.entries c.args.written.now in
    let within : c.loop-i.i - 1 < length entries = omega (arith, c.loop-i-test.true, c.loop-i.auto.i, c.len-i.ensures.len, finmap.len-entries c.args.written.now) in
    absurd (none_some (c.in_default.ensures.entry ∙ slice_get-get_or entries (c.loop-i.i - 1) (0, []) within))
