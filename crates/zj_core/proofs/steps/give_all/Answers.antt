-- The blocks are given from the last one on.
use Rattle.std.proofs.Common.{◌≡◌, ◌⊎◌, inl, inr, ◌-◌, ◌<◌, length, drop, true, [], sym, ap, ◌∙◌, subst, arith, Some, ℕ}
use Rattle.std.specs.FinMap as finmap
use Rattle.std.proofs.lemmas.Option.{slice_get-get_or}
use Rattle.zj_layout.proofs.Follow.{none_some}
use Rattle.zj_turns.specs.Views.{Hold, Known, hold_in}
use Rattle.zj_turns.specs.Passes.{mine, now_knowing}
use Rattle.zj_core.specs.Steps.{given_back}
use Rattle.zj_core.proofs.Knowing.{knowing_same, mine_is}
use Rattle.zj_core.proofs.Stored.{drop_none}
use Rattle.zj_core.proofs.Given.{entry_under, give_done, give_held, gives_one}
use Rattle.zj_core.proofs.steps.give_all.Goals as goal

pub loop-i-init : goal.loop-i-init
loop-i-init c =
    let p = c.args.pass.now in
    let es = c.args.taken.now in
    sym (knowing_same p c.requires.known)
    ∙ ap (λ l. now_knowing p (given_back (mine p) l)) (sym (drop_none es))
    ∙ ap (λ n. now_knowing p (given_back (mine p) (drop n es))) (sym c.len-i.ensures.len)

pub give-requires-clause-held : goal.give-requires-clause-held
give-requires-clause-held c =
    let p = c.args.pass.now in
    let b = c.in-Some.block.0 in
    let es = c.args.taken.now in
    let i = c.loop-i.i in
    let at = sym c.in-Some.ensures.entry in
    ap (λ (k : Known). finmap.contains_key k.held b) (mine_is p c.loop-i.pass (given_back (mine p) (drop i es)) c.loop-i.invariant)
    ∙ give_held (mine p) es i b _ c.len-i.ensures.taken.apart (omega (arith, c.loop-i-test.true)) at (c.requires.held b (entry_under es (i - 1) b _ at))

pub give-requires-clause-done : goal.give-requires-clause-done
give-requires-clause-done c =
    let p = c.args.pass.now in
    let b = c.in-Some.block.0 in
    let es = c.args.taken.now in
    let i = c.loop-i.i in
    let at = sym c.in-Some.ensures.entry in
    subst (λ (k : Known). ((hold_in k b).stored ≡ []) ⊎ (k.drawn ≡ true)) (sym (mine_is p c.loop-i.pass (given_back (mine p) (drop i es)) c.loop-i.invariant))
    (give_done (mine p) es i b _ c.len-i.ensures.taken.apart (omega (arith, c.loop-i-test.true)) at (c.requires.held b (entry_under es (i - 1) b _ at)) (at_block (mine p) b c.requires.done))
  where
    at_block : (k : Known) (b : ℕ) → (k.drawn ≡ true) ⊎ ((b : ℕ) (h : Hold) → finmap.get k.held b ≡ Some h → h.stored ≡ []) → (k.drawn ≡ true) ⊎ ((h : Hold) → finmap.get k.held b ≡ Some h → h.stored ≡ [])
    at_block k b (inl drawn) = inl drawn
    at_block k b (inr unstored) = inr (unstored b)

pub loop-i-preserved-in-Some : goal.loop-i-preserved-in-Some
loop-i-preserved-in-Some c =
    gives_one c.args.pass.now c.loop-i.pass c.give.new.pass c.args.taken.now c.loop-i.i c.in-Some.block.0 _ c.loop-i.invariant (omega (arith, c.loop-i-test.true)) (sym c.in-Some.ensures.entry) c.give.ensures.pass

pub loop-i-preserved : goal.loop-i-preserved
loop-i-preserved c =
    let es = c.args.taken.now in
    let within : c.loop-i.i - 1 < length es = omega (arith, c.loop-i-test.true, c.loop-i.auto.i, c.len-i.ensures.len) in
    absurd (none_some (c.in_default.ensures.entry ∙ slice_get-get_or es (c.loop-i.i - 1) (0, []) within))
