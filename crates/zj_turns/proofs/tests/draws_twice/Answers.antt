use Rattle.std.proofs.Common.{◌≡◌, length, refl, ap, ◌∙◌, arith}
use Rattle.zj_turns.specs.Views.{Known, blank, drawing, operation_of}
use Rattle.zj_turns.specs.Passes.{mine, lone}
use Rattle.zj_turns.proofs.Lone.{lone_step, lone_is, fresh_left, idle_drawing, idle_loaded}
use Rattle.zj_turns.proofs.tests.draws_twice.Goals as goal

pub draw-first-requires-clause-left : goal.draw-first-requires-clause-left
draw-first-requires-clause-left c = fresh_left c.args.cache.now.table 0 c.args.pass c.requires.fresh

pub draw-first-requires-clause-clear : goal.draw-first-requires-clause-clear
draw-first-requires-clause-clear c = ap (λ (k : Known). k.drawn) (lone_is c.args.cache.now.table 0 blank c.args.pass c.requires.fresh)

pub draw-first-requires-clause-loaded : goal.draw-first-requires-clause-loaded
draw-first-requires-clause-loaded c = idle_loaded (mine c.args.pass) (ap (λ (k : Known). k.held) (lone_is c.args.cache.now.table 0 blank c.args.pass c.requires.fresh))

pub draw-second-requires-clause-left : goal.draw-second-requires-clause-left
draw-second-requires-clause-left c =
    let t = c.args.cache.now.table in
    let k : Known = drawing blank (operation_of blank c.draw-first.result c.args.pass.core 7) in
    let p : c.draw-first.new.pass ≡ lone t 0 k = lone_step t 0 (λ k. drawing k (operation_of k c.draw-first.result c.args.pass.core 7)) blank c.args.pass c.draw-first.new.pass c.requires.fresh c.draw-first.ensures.pass in
    λ none. let one = ap (λ (k : Known). length k.operations) (lone_is t 0 k c.draw-first.new.pass p) in omega arith

pub draw-second-requires-clause-clear : goal.draw-second-requires-clause-clear
draw-second-requires-clause-clear c =
    let t = c.args.cache.now.table in
    let o = operation_of blank c.draw-first.result c.args.pass.core 7 in
    let p : c.draw-first.new.pass ≡ lone t 0 (drawing blank o) = lone_step t 0 (λ k. drawing k (operation_of k c.draw-first.result c.args.pass.core 7)) blank c.args.pass c.draw-first.new.pass c.requires.fresh c.draw-first.ensures.pass in
    ap (λ (k : Known). k.drawn) (lone_is t 0 (drawing blank o) c.draw-first.new.pass p) ∙ idle_drawing blank o refl

pub draw-second-requires-clause-loaded : goal.draw-second-requires-clause-loaded
draw-second-requires-clause-loaded c =
    let t = c.args.cache.now.table in
    let o = operation_of blank c.draw-first.result c.args.pass.core 7 in
    let p : c.draw-first.new.pass ≡ lone t 0 (drawing blank o) = lone_step t 0 (λ k. drawing k (operation_of k c.draw-first.result c.args.pass.core 7)) blank c.args.pass c.draw-first.new.pass c.requires.fresh c.draw-first.ensures.pass in
    idle_loaded (mine c.draw-first.new.pass) (ap (λ (k : Known). k.held) (lone_is t 0 (drawing blank o) c.draw-first.new.pass p))
