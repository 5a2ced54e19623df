use Rattle.std.proofs.Common.{◌≡◌, [], ◌∷◌, inr, ℕ, ◌++◌, ◌-◌, length, sym, ap, ◌∙◌, arith, is_some, length-append}
use Rattle.std.specs.Ordering.{nat_cmp}
use Rattle.std.specs.FinMap as finmap
use Rattle.zj_turns.specs.Views.{Hold, Known, taken, loaded_as, stored_as, hold_in, holding, giving, drawing, operation_of, seal_of}
use Rattle.zj_turns.specs.Passes.{lone}
use Rattle.zj_turns.proofs.Stamping.{length-seal_of}
use Rattle.zj_turns.proofs.Again.{holding_again, held_after}
use Rattle.zj_turns.proofs.Lone.{lone_step, lone_is, lone_holds, lone_hold, holding_only, has_here, idle_again}
use Rattle.zj_turns.proofs.Maps.{some_there}
use Rattle.zj_turns.proofs.tests.add_one.Goals as goal

pub try_take-requires-clause-free : goal.try_take-requires-clause-free
try_take-requires-clause-free c =
    let t = c.args.cache.now.table in
    let i : Known = c.requires.idle.known in
    ap (λ (k : Known). finmap.contains_key k.held c.args.b.0) (lone_is t c.args.core i c.args.pass c.requires.idle.is) ∙ ap (λ m. finmap.contains_key m c.args.b.0) c.requires.idle.none_held ∙ ap is_some (finmap.get-empty {X = Hold} nat_cmp c.args.b.0)

pub try_take-requires-clause-clear : goal.try_take-requires-clause-clear
try_take-requires-clause-clear c =
    let t = c.args.cache.now.table in
    let i : Known = c.requires.idle.known in
    ap (λ (k : Known). k.drawn) (lone_is t c.args.core i c.args.pass c.requires.idle.is) ∙ c.requires.idle.clear

pub load-requires-clause-held : goal.load-requires-clause-held
load-requires-clause-held c =
    let t = c.args.cache.now.table in
    let i : Known = c.requires.idle.known in
    let n : ℕ = c.args.core in
    let b : ℕ = c.args.b.0 in
    let p1 : c.try_take.new.pass ≡ lone t n (holding i b taken) = lone_step t n (λ k. holding k b taken) i c.args.pass c.try_take.new.pass c.requires.idle.is c.in-Ok.ensures.ok in
    lone_holds t n b i taken c.try_take.new.pass p1

pub load-requires-clause-unstored : goal.load-requires-clause-unstored
load-requires-clause-unstored c =
    let t = c.args.cache.now.table in
    let i : Known = c.requires.idle.known in
    let n : ℕ = c.args.core in
    let b : ℕ = c.args.b.0 in
    let p1 : c.try_take.new.pass ≡ lone t n (holding i b taken) = lone_step t n (λ k. holding k b taken) i c.args.pass c.try_take.new.pass c.requires.idle.is c.in-Ok.ensures.ok in
    ap (λ (h : Hold). h.stored) (lone_hold t n b i taken c.try_take.new.pass p1)

pub store-requires-clause-held : goal.store-requires-clause-held
store-requires-clause-held c =
    let t = c.args.cache.now.table in
    let i : Known = c.requires.idle.known in
    let n : ℕ = c.args.core in
    let b : ℕ = c.args.b.0 in
    let p1 : c.try_take.new.pass ≡ lone t n (holding i b taken) = lone_step t n (λ k. holding k b taken) i c.args.pass c.try_take.new.pass c.requires.idle.is c.in-Ok.ensures.ok in
    let w = c.load.new.into ++ seal_of c.load.result.0.0 c.load.result.1 in
    let p2 : c.load.new.pass ≡ lone t n (holding i b (loaded_as w)) = lone_step t n (λ k. holding k b (loaded_as w)) (holding i b taken) c.try_take.new.pass c.load.new.pass p1 c.load.ensures.pass ∙ ap (lone t n) (holding_again i b taken (loaded_as w)) in
    lone_holds t n b i (loaded_as w) c.load.new.pass p2

pub store-requires-clause-loaded : goal.store-requires-clause-loaded
store-requires-clause-loaded c =
    let t = c.args.cache.now.table in
    let i : Known = c.requires.idle.known in
    let n : ℕ = c.args.core in
    let b : ℕ = c.args.b.0 in
    let p1 : c.try_take.new.pass ≡ lone t n (holding i b taken) = lone_step t n (λ k. holding k b taken) i c.args.pass c.try_take.new.pass c.requires.idle.is c.in-Ok.ensures.ok in
    let w = c.load.new.into ++ seal_of c.load.result.0.0 c.load.result.1 in
    let p2 : c.load.new.pass ≡ lone t n (holding i b (loaded_as w)) = lone_step t n (λ k. holding k b (loaded_as w)) (holding i b taken) c.try_take.new.pass c.load.new.pass p1 c.load.ensures.pass ∙ ap (lone t n) (holding_again i b taken (loaded_as w)) in
    ap (λ (h : Hold). length h.loaded) (lone_hold t n b i (loaded_as w) c.load.new.pass p2)
    ∙ (let long = c.load.ensures.content in let three = length-seal_of c.load.result.0.0 c.load.result.1 in let all = length-append c.load.new.into (seal_of c.load.result.0.0 c.load.result.1) in omega arith)

pub store-requires-clause-clear : goal.store-requires-clause-clear
store-requires-clause-clear c =
    let t = c.args.cache.now.table in
    let i : Known = c.requires.idle.known in
    let n : ℕ = c.args.core in
    let b : ℕ = c.args.b.0 in
    let p1 : c.try_take.new.pass ≡ lone t n (holding i b taken) = lone_step t n (λ k. holding k b taken) i c.args.pass c.try_take.new.pass c.requires.idle.is c.in-Ok.ensures.ok in
    let w = c.load.new.into ++ seal_of c.load.result.0.0 c.load.result.1 in
    let p2 : c.load.new.pass ≡ lone t n (holding i b (loaded_as w)) = lone_step t n (λ k. holding k b (loaded_as w)) (holding i b taken) c.try_take.new.pass c.load.new.pass p1 c.load.ensures.pass ∙ ap (lone t n) (holding_again i b taken (loaded_as w)) in
    ap (λ (k : Known). k.drawn) (lone_is t n (holding i b (loaded_as w)) c.load.new.pass p2) ∙ c.requires.idle.clear

pub draw-ticket-requires-clause-left : goal.draw-ticket-requires-clause-left
draw-ticket-requires-clause-left c =
    let t = c.args.cache.now.table in
    let i : Known = c.requires.idle.known in
    let n : ℕ = c.args.core in
    let b : ℕ = c.args.b.0 in
    let p1 : c.try_take.new.pass ≡ lone t n (holding i b taken) = lone_step t n (λ k. holding k b taken) i c.args.pass c.try_take.new.pass c.requires.idle.is c.in-Ok.ensures.ok in
    let w = c.load.new.into ++ seal_of c.load.result.0.0 c.load.result.1 in
    let p2 : c.load.new.pass ≡ lone t n (holding i b (loaded_as w)) = lone_step t n (λ k. holding k b (loaded_as w)) (holding i b taken) c.try_take.new.pass c.load.new.pass p1 c.load.ensures.pass ∙ ap (lone t n) (holding_again i b taken (loaded_as w)) in
    let x = c.set_word.new.self in
    let h3 : Hold = stored_as (hold_in (holding i b (loaded_as w)) b).loaded x in
    let p3 : c.store.new.pass ≡ lone t n (holding i b h3) = lone_step t n (λ k. holding k b (stored_as (hold_in k b).loaded x)) (holding i b (loaded_as w)) c.load.new.pass c.store.new.pass p2 c.store.ensures.pass ∙ ap (lone t n) (holding_again i b (loaded_as w) h3) in
    λ z. c.requires.room (ap (λ (k : Known). 4294967295 - length k.operations) (lone_is t n i c.args.pass c.requires.idle.is) ∙ sym (ap (λ (k : Known). 4294967295 - length k.operations) (lone_is t n (holding i b h3) c.store.new.pass p3)) ∙ z)

pub draw-ticket-requires-clause-clear : goal.draw-ticket-requires-clause-clear
draw-ticket-requires-clause-clear c =
    let t = c.args.cache.now.table in
    let i : Known = c.requires.idle.known in
    let n : ℕ = c.args.core in
    let b : ℕ = c.args.b.0 in
    let p1 : c.try_take.new.pass ≡ lone t n (holding i b taken) = lone_step t n (λ k. holding k b taken) i c.args.pass c.try_take.new.pass c.requires.idle.is c.in-Ok.ensures.ok in
    let w = c.load.new.into ++ seal_of c.load.result.0.0 c.load.result.1 in
    let p2 : c.load.new.pass ≡ lone t n (holding i b (loaded_as w)) = lone_step t n (λ k. holding k b (loaded_as w)) (holding i b taken) c.try_take.new.pass c.load.new.pass p1 c.load.ensures.pass ∙ ap (lone t n) (holding_again i b taken (loaded_as w)) in
    let x = c.set_word.new.self in
    let h3 : Hold = stored_as (hold_in (holding i b (loaded_as w)) b).loaded x in
    let p3 : c.store.new.pass ≡ lone t n (holding i b h3) = lone_step t n (λ k. holding k b (stored_as (hold_in k b).loaded x)) (holding i b (loaded_as w)) c.load.new.pass c.store.new.pass p2 c.store.ensures.pass ∙ ap (lone t n) (holding_again i b (loaded_as w) h3) in
    ap (λ (k : Known). k.drawn) (lone_is t n (holding i b h3) c.store.new.pass p3) ∙ c.requires.idle.clear

pub draw-ticket-requires-clause-loaded : goal.draw-ticket-requires-clause-loaded
draw-ticket-requires-clause-loaded c =
    let t = c.args.cache.now.table in
    let i : Known = c.requires.idle.known in
    let n : ℕ = c.args.core in
    let b : ℕ = c.args.b.0 in
    let p1 : c.try_take.new.pass ≡ lone t n (holding i b taken) = lone_step t n (λ k. holding k b taken) i c.args.pass c.try_take.new.pass c.requires.idle.is c.in-Ok.ensures.ok in
    let w = c.load.new.into ++ seal_of c.load.result.0.0 c.load.result.1 in
    let p2 : c.load.new.pass ≡ lone t n (holding i b (loaded_as w)) = lone_step t n (λ k. holding k b (loaded_as w)) (holding i b taken) c.try_take.new.pass c.load.new.pass p1 c.load.ensures.pass ∙ ap (lone t n) (holding_again i b taken (loaded_as w)) in
    let x = c.set_word.new.self in
    let h3 : Hold = stored_as (hold_in (holding i b (loaded_as w)) b).loaded x in
    let p3 : c.store.new.pass ≡ lone t n (holding i b h3) = lone_step t n (λ k. holding k b (stored_as (hold_in k b).loaded x)) (holding i b (loaded_as w)) c.load.new.pass c.store.new.pass p2 c.store.ensures.pass ∙ ap (lone t n) (holding_again i b (loaded_as w) h3) in
    λ e h at.
    ap (λ (y : Hold). length y.loaded) (sym (holding_only i c.requires.idle.none_held b e h3 h (ap (λ (k : Known). finmap.get k.held e) (sym (lone_is t n (holding i b h3) c.store.new.pass p3)) ∙ at)))
    ∙ ap (λ (y : Hold). length y.loaded) (held_after i b (loaded_as w))
    ∙ (let long = c.load.ensures.content in let three = length-seal_of c.load.result.0.0 c.load.result.1 in let all = length-append c.load.new.into (seal_of c.load.result.0.0 c.load.result.1) in omega arith)

pub give-requires-clause-held : goal.give-requires-clause-held
give-requires-clause-held c =
    let t = c.args.cache.now.table in
    let i : Known = c.requires.idle.known in
    let n : ℕ = c.args.core in
    let b : ℕ = c.args.b.0 in
    let p1 : c.try_take.new.pass ≡ lone t n (holding i b taken) = lone_step t n (λ k. holding k b taken) i c.args.pass c.try_take.new.pass c.requires.idle.is c.in-Ok.ensures.ok in
    let w = c.load.new.into ++ seal_of c.load.result.0.0 c.load.result.1 in
    let p2 : c.load.new.pass ≡ lone t n (holding i b (loaded_as w)) = lone_step t n (λ k. holding k b (loaded_as w)) (holding i b taken) c.try_take.new.pass c.load.new.pass p1 c.load.ensures.pass ∙ ap (lone t n) (holding_again i b taken (loaded_as w)) in
    let x = c.set_word.new.self in
    let h3 : Hold = stored_as (hold_in (holding i b (loaded_as w)) b).loaded x in
    let p3 : c.store.new.pass ≡ lone t n (holding i b h3) = lone_step t n (λ k. holding k b (stored_as (hold_in k b).loaded x)) (holding i b (loaded_as w)) c.load.new.pass c.store.new.pass p2 c.store.ensures.pass ∙ ap (lone t n) (holding_again i b (loaded_as w) h3) in
    let k4 : Known = drawing (holding i b h3) (operation_of (holding i b h3) c.draw-ticket.result c.store.new.pass.core 5) in
    let p4 : c.draw-ticket.new.pass ≡ lone t n k4 = lone_step t n (λ k. drawing k (operation_of k c.draw-ticket.result c.store.new.pass.core 5)) (holding i b h3) c.store.new.pass c.draw-ticket.new.pass p3 c.draw-ticket.ensures.pass in
    ap (λ (k : Known). finmap.contains_key k.held b) (lone_is t n k4 c.draw-ticket.new.pass p4) ∙ has_here i b h3

pub give-requires-clause-done : goal.give-requires-clause-done
give-requires-clause-done c =
    let t = c.args.cache.now.table in
    let i : Known = c.requires.idle.known in
    let n : ℕ = c.args.core in
    let b : ℕ = c.args.b.0 in
    let p1 : c.try_take.new.pass ≡ lone t n (holding i b taken) = lone_step t n (λ k. holding k b taken) i c.args.pass c.try_take.new.pass c.requires.idle.is c.in-Ok.ensures.ok in
    let w = c.load.new.into ++ seal_of c.load.result.0.0 c.load.result.1 in
    let p2 : c.load.new.pass ≡ lone t n (holding i b (loaded_as w)) = lone_step t n (λ k. holding k b (loaded_as w)) (holding i b taken) c.try_take.new.pass c.load.new.pass p1 c.load.ensures.pass ∙ ap (lone t n) (holding_again i b taken (loaded_as w)) in
    let x = c.set_word.new.self in
    let h3 : Hold = stored_as (hold_in (holding i b (loaded_as w)) b).loaded x in
    let p3 : c.store.new.pass ≡ lone t n (holding i b h3) = lone_step t n (λ k. holding k b (stored_as (hold_in k b).loaded x)) (holding i b (loaded_as w)) c.load.new.pass c.store.new.pass p2 c.store.ensures.pass ∙ ap (lone t n) (holding_again i b (loaded_as w) h3) in
    let k4 : Known = drawing (holding i b h3) (operation_of (holding i b h3) c.draw-ticket.result c.store.new.pass.core 5) in
    let p4 : c.draw-ticket.new.pass ≡ lone t n k4 = lone_step t n (λ k. drawing k (operation_of k c.draw-ticket.result c.store.new.pass.core 5)) (holding i b h3) c.store.new.pass c.draw-ticket.new.pass p3 c.draw-ticket.ensures.pass in
    inr (ap (λ (k : Known). k.drawn) (lone_is t n k4 c.draw-ticket.new.pass p4) ∙ some_there (holding i b h3).held b (has_here i b h3))

pub returns-in-Ok-clause-idle : goal.returns-in-Ok-clause-idle
returns-in-Ok-clause-idle c =
    let t = c.args.cache.now.table in
    let i : Known = c.requires.idle.known in
    let n : ℕ = c.args.core in
    let b : ℕ = c.args.b.0 in
    let p1 : c.try_take.new.pass ≡ lone t n (holding i b taken) = lone_step t n (λ k. holding k b taken) i c.args.pass c.try_take.new.pass c.requires.idle.is c.in-Ok.ensures.ok in
    let w = c.load.new.into ++ seal_of c.load.result.0.0 c.load.result.1 in
    let p2 : c.load.new.pass ≡ lone t n (holding i b (loaded_as w)) = lone_step t n (λ k. holding k b (loaded_as w)) (holding i b taken) c.try_take.new.pass c.load.new.pass p1 c.load.ensures.pass ∙ ap (lone t n) (holding_again i b taken (loaded_as w)) in
    let x = c.set_word.new.self in
    let h3 : Hold = stored_as (hold_in (holding i b (loaded_as w)) b).loaded x in
    let p3 : c.store.new.pass ≡ lone t n (holding i b h3) = lone_step t n (λ k. holding k b (stored_as (hold_in k b).loaded x)) (holding i b (loaded_as w)) c.load.new.pass c.store.new.pass p2 c.store.ensures.pass ∙ ap (lone t n) (holding_again i b (loaded_as w) h3) in
    let k4 : Known = drawing (holding i b h3) (operation_of (holding i b h3) c.draw-ticket.result c.store.new.pass.core 5) in
    let p4 : c.draw-ticket.new.pass ≡ lone t n k4 = lone_step t n (λ k. drawing k (operation_of k c.draw-ticket.result c.store.new.pass.core 5)) (holding i b h3) c.store.new.pass c.draw-ticket.new.pass p3 c.draw-ticket.ensures.pass in
    let p5 : c.give.new.pass ≡ lone t n (giving k4 b) = lone_step t n (λ k. giving k b) k4 c.draw-ticket.new.pass c.give.new.pass p4 c.give.ensures.pass in
    idle_again i c.requires.idle.none_held t n b h3 (operation_of (holding i b h3) c.draw-ticket.result c.store.new.pass.core 5) c.give.new.pass p5

pub returns-in-Ok-clause-left : goal.returns-in-Ok-clause-left
returns-in-Ok-clause-left c =
    let t = c.args.cache.now.table in
    let i : Known = c.requires.idle.known in
    let n : ℕ = c.args.core in
    let b : ℕ = c.args.b.0 in
    let p1 : c.try_take.new.pass ≡ lone t n (holding i b taken) = lone_step t n (λ k. holding k b taken) i c.args.pass c.try_take.new.pass c.requires.idle.is c.in-Ok.ensures.ok in
    let w = c.load.new.into ++ seal_of c.load.result.0.0 c.load.result.1 in
    let p2 : c.load.new.pass ≡ lone t n (holding i b (loaded_as w)) = lone_step t n (λ k. holding k b (loaded_as w)) (holding i b taken) c.try_take.new.pass c.load.new.pass p1 c.load.ensures.pass ∙ ap (lone t n) (holding_again i b taken (loaded_as w)) in
    let x = c.set_word.new.self in
    let h3 : Hold = stored_as (hold_in (holding i b (loaded_as w)) b).loaded x in
    let p3 : c.store.new.pass ≡ lone t n (holding i b h3) = lone_step t n (λ k. holding k b (stored_as (hold_in k b).loaded x)) (holding i b (loaded_as w)) c.load.new.pass c.store.new.pass p2 c.store.ensures.pass ∙ ap (lone t n) (holding_again i b (loaded_as w) h3) in
    let k4 : Known = drawing (holding i b h3) (operation_of (holding i b h3) c.draw-ticket.result c.store.new.pass.core 5) in
    let p4 : c.draw-ticket.new.pass ≡ lone t n k4 = lone_step t n (λ k. drawing k (operation_of k c.draw-ticket.result c.store.new.pass.core 5)) (holding i b h3) c.store.new.pass c.draw-ticket.new.pass p3 c.draw-ticket.ensures.pass in
    let p5 : c.give.new.pass ≡ lone t n (giving k4 b) = lone_step t n (λ k. giving k b) k4 c.draw-ticket.new.pass c.give.new.pass p4 c.give.ensures.pass in
    let o = operation_of (holding i b h3) c.draw-ticket.result c.store.new.pass.core 5 in
    let before = ap (λ (k : Known). length k.operations) (lone_is t n i c.args.pass c.requires.idle.is) in
    let after = ap (λ (k : Known). length k.operations) (lone_is t n (giving k4 b) c.give.new.pass p5) in
    let more = length-append i.operations (o ∷ []) in
    let room = c.requires.room in
    omega arith
