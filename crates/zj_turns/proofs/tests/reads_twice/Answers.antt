use Rattle.std.proofs.Common.{◌≡◌, inl, ℕ, ◌++◌, ◌-◌, length, sym, ap, ◌∙◌, arith, is_some, length-append}
use Rattle.std.specs.Ordering.{nat_cmp}
use Rattle.std.specs.FinMap as finmap
use Rattle.zj_turns.specs.Views.{Hold, Known, taken, loaded_as, hold_in, holding, drawing, operation_of, seal_of}
use Rattle.zj_turns.specs.Passes.{lone}
use Rattle.zj_turns.proofs.Stamping.{length-seal_of}
use Rattle.zj_turns.proofs.Again.{holding_again, held_after}
use Rattle.zj_turns.proofs.Lone.{lone_step, lone_is, lone_holds, lone_hold, holding_only, has_here}
use Rattle.zj_turns.proofs.tests.reads_twice.Goals as goal

pub try_take-requires-clause-free : goal.try_take-requires-clause-free
try_take-requires-clause-free c =
    let t = c.args.cache.now.table in
    let i : Known = c.requires.idle.known in
    ap (λ (k : Known). finmap.contains_key k.held c.args.b.0) (lone_is t c.args.core i c.args.pass c.requires.idle.is) ∙ ap (λ m. finmap.contains_key m c.args.b.0) c.requires.idle.none_held ∙ ap is_some (finmap.get-empty {X = Hold} nat_cmp c.args.b.0)

pub try_take-requires-clause-clear : goal.try_take-requires-clause-clear
try_take-requires-clause-clear c =
    let t = c.args.cache.now.table in
    let i : Known = c.requires.idle.known in
    ap (λ (k : Known). k.drawn) (lone_is t c.args.core i c.args.pass c.requires.idle.is) ∙ c.requires.idle.clear

pub load-first-requires-clause-held : goal.load-first-requires-clause-held
load-first-requires-clause-held c =
    let t = c.args.cache.now.table in
    let i : Known = c.requires.idle.known in
    let n : ℕ = c.args.core in
    let b : ℕ = c.args.b.0 in
    let p1 : c.try_take.new.pass ≡ lone t n (holding i b taken) = lone_step t n (λ k. holding k b taken) i c.args.pass c.try_take.new.pass c.requires.idle.is c.in-Ok.ensures.ok in
    lone_holds t n b i taken c.try_take.new.pass p1

pub load-first-requires-clause-unstored : goal.load-first-requires-clause-unstored
load-first-requires-clause-unstored c =
    let t = c.args.cache.now.table in
    let i : Known = c.requires.idle.known in
    let n : ℕ = c.args.core in
    let b : ℕ = c.args.b.0 in
    let p1 : c.try_take.new.pass ≡ lone t n (holding i b taken) = lone_step t n (λ k. holding k b taken) i c.args.pass c.try_take.new.pass c.requires.idle.is c.in-Ok.ensures.ok in
    ap (λ (h : Hold). h.stored) (lone_hold t n b i taken c.try_take.new.pass p1)

pub draw-ticket-requires-clause-left : goal.draw-ticket-requires-clause-left
draw-ticket-requires-clause-left c =
    let t = c.args.cache.now.table in
    let i : Known = c.requires.idle.known in
    let n : ℕ = c.args.core in
    let b : ℕ = c.args.b.0 in
    let p1 : c.try_take.new.pass ≡ lone t n (holding i b taken) = lone_step t n (λ k. holding k b taken) i c.args.pass c.try_take.new.pass c.requires.idle.is c.in-Ok.ensures.ok in
    let w = c.load-first.new.into ++ seal_of c.load-first.result.0.0 c.load-first.result.1 in
    let k2 : Known = holding i b (loaded_as w) in
    let p2 : c.load-first.new.pass ≡ lone t n k2 = lone_step t n (λ k. holding k b (loaded_as w)) (holding i b taken) c.try_take.new.pass c.load-first.new.pass p1 c.load-first.ensures.pass ∙ ap (lone t n) (holding_again i b taken (loaded_as w)) in
    λ z. c.requires.room (ap (λ (k : Known). 4294967295 - length k.operations) (lone_is t n i c.args.pass c.requires.idle.is) ∙ sym (ap (λ (k : Known). 4294967295 - length k.operations) (lone_is t n k2 c.load-first.new.pass p2)) ∙ z)

pub draw-ticket-requires-clause-clear : goal.draw-ticket-requires-clause-clear
draw-ticket-requires-clause-clear c =
    let t = c.args.cache.now.table in
    let i : Known = c.requires.idle.known in
    let n : ℕ = c.args.core in
    let b : ℕ = c.args.b.0 in
    let p1 : c.try_take.new.pass ≡ lone t n (holding i b taken) = lone_step t n (λ k. holding k b taken) i c.args.pass c.try_take.new.pass c.requires.idle.is c.in-Ok.ensures.ok in
    let w = c.load-first.new.into ++ seal_of c.load-first.result.0.0 c.load-first.result.1 in
    let k2 : Known = holding i b (loaded_as w) in
    let p2 : c.load-first.new.pass ≡ lone t n k2 = lone_step t n (λ k. holding k b (loaded_as w)) (holding i b taken) c.try_take.new.pass c.load-first.new.pass p1 c.load-first.ensures.pass ∙ ap (lone t n) (holding_again i b taken (loaded_as w)) in
    ap (λ (k : Known). k.drawn) (lone_is t n k2 c.load-first.new.pass p2) ∙ c.requires.idle.clear

pub draw-ticket-requires-clause-loaded : goal.draw-ticket-requires-clause-loaded
draw-ticket-requires-clause-loaded c =
    let t = c.args.cache.now.table in
    let i : Known = c.requires.idle.known in
    let n : ℕ = c.args.core in
    let b : ℕ = c.args.b.0 in
    let p1 : c.try_take.new.pass ≡ lone t n (holding i b taken) = lone_step t n (λ k. holding k b taken) i c.args.pass c.try_take.new.pass c.requires.idle.is c.in-Ok.ensures.ok in
    let w = c.load-first.new.into ++ seal_of c.load-first.result.0.0 c.load-first.result.1 in
    let k2 : Known = holding i b (loaded_as w) in
    let p2 : c.load-first.new.pass ≡ lone t n k2 = lone_step t n (λ k. holding k b (loaded_as w)) (holding i b taken) c.try_take.new.pass c.load-first.new.pass p1 c.load-first.ensures.pass ∙ ap (lone t n) (holding_again i b taken (loaded_as w)) in
    λ e h at.
    ap (λ (y : Hold). length y.loaded) (sym (holding_only i c.requires.idle.none_held b e (loaded_as w) h (ap (λ (k : Known). finmap.get k.held e) (sym (lone_is t n k2 c.load-first.new.pass p2)) ∙ at)))
    ∙ (let long = c.load-first.ensures.content in let three = length-seal_of c.load-first.result.0.0 c.load-first.result.1 in let all = length-append c.load-first.new.into (seal_of c.load-first.result.0.0 c.load-first.result.1) in omega arith)

pub load-again-requires-clause-held : goal.load-again-requires-clause-held
load-again-requires-clause-held c =
    let t = c.args.cache.now.table in
    let i : Known = c.requires.idle.known in
    let n : ℕ = c.args.core in
    let b : ℕ = c.args.b.0 in
    let p1 : c.try_take.new.pass ≡ lone t n (holding i b taken) = lone_step t n (λ k. holding k b taken) i c.args.pass c.try_take.new.pass c.requires.idle.is c.in-Ok.ensures.ok in
    let w = c.load-first.new.into ++ seal_of c.load-first.result.0.0 c.load-first.result.1 in
    let k2 : Known = holding i b (loaded_as w) in
    let p2 : c.load-first.new.pass ≡ lone t n k2 = lone_step t n (λ k. holding k b (loaded_as w)) (holding i b taken) c.try_take.new.pass c.load-first.new.pass p1 c.load-first.ensures.pass ∙ ap (lone t n) (holding_again i b taken (loaded_as w)) in
    let k3 : Known = drawing k2 (operation_of k2 c.draw-ticket.result c.load-first.new.pass.core 6) in
    let p3 : c.draw-ticket.new.pass ≡ lone t n k3 = lone_step t n (λ k. drawing k (operation_of k c.draw-ticket.result c.load-first.new.pass.core 6)) k2 c.load-first.new.pass c.draw-ticket.new.pass p2 c.draw-ticket.ensures.pass in
    ap (λ (k : Known). finmap.contains_key k.held b) (lone_is t n k3 c.draw-ticket.new.pass p3) ∙ has_here i b (loaded_as w)

pub load-again-requires-clause-unstored : goal.load-again-requires-clause-unstored
load-again-requires-clause-unstored c =
    let t = c.args.cache.now.table in
    let i : Known = c.requires.idle.known in
    let n : ℕ = c.args.core in
    let b : ℕ = c.args.b.0 in
    let p1 : c.try_take.new.pass ≡ lone t n (holding i b taken) = lone_step t n (λ k. holding k b taken) i c.args.pass c.try_take.new.pass c.requires.idle.is c.in-Ok.ensures.ok in
    let w = c.load-first.new.into ++ seal_of c.load-first.result.0.0 c.load-first.result.1 in
    let k2 : Known = holding i b (loaded_as w) in
    let p2 : c.load-first.new.pass ≡ lone t n k2 = lone_step t n (λ k. holding k b (loaded_as w)) (holding i b taken) c.try_take.new.pass c.load-first.new.pass p1 c.load-first.ensures.pass ∙ ap (lone t n) (holding_again i b taken (loaded_as w)) in
    let k3 : Known = drawing k2 (operation_of k2 c.draw-ticket.result c.load-first.new.pass.core 6) in
    let p3 : c.draw-ticket.new.pass ≡ lone t n k3 = lone_step t n (λ k. drawing k (operation_of k c.draw-ticket.result c.load-first.new.pass.core 6)) k2 c.load-first.new.pass c.draw-ticket.new.pass p2 c.draw-ticket.ensures.pass in
    ap (λ (k : Known). (hold_in k b).stored) (lone_is t n k3 c.draw-ticket.new.pass p3) ∙ ap (λ (h : Hold). h.stored) (held_after i b (loaded_as w))

pub give-requires-clause-held : goal.give-requires-clause-held
give-requires-clause-held c =
    let t = c.args.cache.now.table in
    let i : Known = c.requires.idle.known in
    let n : ℕ = c.args.core in
    let b : ℕ = c.args.b.0 in
    let p1 : c.try_take.new.pass ≡ lone t n (holding i b taken) = lone_step t n (λ k. holding k b taken) i c.args.pass c.try_take.new.pass c.requires.idle.is c.in-Ok.ensures.ok in
    let w = c.load-first.new.into ++ seal_of c.load-first.result.0.0 c.load-first.result.1 in
    let k2 : Known = holding i b (loaded_as w) in
    let p2 : c.load-first.new.pass ≡ lone t n k2 = lone_step t n (λ k. holding k b (loaded_as w)) (holding i b taken) c.try_take.new.pass c.load-first.new.pass p1 c.load-first.ensures.pass ∙ ap (lone t n) (holding_again i b taken (loaded_as w)) in
    let k3 : Known = drawing k2 (operation_of k2 c.draw-ticket.result c.load-first.new.pass.core 6) in
    let p3 : c.draw-ticket.new.pass ≡ lone t n k3 = lone_step t n (λ k. drawing k (operation_of k c.draw-ticket.result c.load-first.new.pass.core 6)) k2 c.load-first.new.pass c.draw-ticket.new.pass p2 c.draw-ticket.ensures.pass in
    let x = c.load-again.new.into ++ seal_of c.load-again.result.0.0 c.load-again.result.1 in
    let p4 : c.load-again.new.pass ≡ lone t n (holding k3 b (loaded_as x)) = lone_step t n (λ k. holding k b (loaded_as x)) k3 c.draw-ticket.new.pass c.load-again.new.pass p3 c.load-again.ensures.pass in
    lone_holds t n b k3 (loaded_as x) c.load-again.new.pass p4

pub give-requires-clause-done : goal.give-requires-clause-done
give-requires-clause-done c =
    let t = c.args.cache.now.table in
    let i : Known = c.requires.idle.known in
    let n : ℕ = c.args.core in
    let b : ℕ = c.args.b.0 in
    let p1 : c.try_take.new.pass ≡ lone t n (holding i b taken) = lone_step t n (λ k. holding k b taken) i c.args.pass c.try_take.new.pass c.requires.idle.is c.in-Ok.ensures.ok in
    let w = c.load-first.new.into ++ seal_of c.load-first.result.0.0 c.load-first.result.1 in
    let k2 : Known = holding i b (loaded_as w) in
    let p2 : c.load-first.new.pass ≡ lone t n k2 = lone_step t n (λ k. holding k b (loaded_as w)) (holding i b taken) c.try_take.new.pass c.load-first.new.pass p1 c.load-first.ensures.pass ∙ ap (lone t n) (holding_again i b taken (loaded_as w)) in
    let k3 : Known = drawing k2 (operation_of k2 c.draw-ticket.result c.load-first.new.pass.core 6) in
    let p3 : c.draw-ticket.new.pass ≡ lone t n k3 = lone_step t n (λ k. drawing k (operation_of k c.draw-ticket.result c.load-first.new.pass.core 6)) k2 c.load-first.new.pass c.draw-ticket.new.pass p2 c.draw-ticket.ensures.pass in
    let x = c.load-again.new.into ++ seal_of c.load-again.result.0.0 c.load-again.result.1 in
    let p4 : c.load-again.new.pass ≡ lone t n (holding k3 b (loaded_as x)) = lone_step t n (λ k. holding k b (loaded_as x)) k3 c.draw-ticket.new.pass c.load-again.new.pass p3 c.load-again.ensures.pass in
    inl (ap (λ (h : Hold). h.stored) (lone_hold t n b k3 (loaded_as x) c.load-again.new.pass p4))
