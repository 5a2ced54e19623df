-- What was stored is drawn for, and then given.
use Rattle.std.proofs.Common.{◌-◌, inl, length, sym, ap, ◌∙◌}
use Rattle.std.specs.FinMap as finmap
use Rattle.zj_turns.specs.Views.{Known}
use Rattle.zj_turns.specs.Passes.{mine}
use Rattle.zj_core.specs.Steps.{stored_into}
use Rattle.zj_core.proofs.Knowing.{has_now, mine_is}
use Rattle.zj_core.proofs.Stored.{stored_drawn, stored_operations}
use Rattle.zj_core.proofs.Finished.{drawn_done, drawn_held, drawn_pass, draws, passes_written, read_written}
use Rattle.zj_core.proofs.steps.finish.Goals as goal

pub draw-ticket-requires-clause-left : goal.draw-ticket-requires-clause-left
draw-ticket-requires-clause-left c none =
    let p = c.args.pass.now in
    let k = stored_into (mine p) (finmap.entries c.args.written.now) in
    c.requires.left (ap (λ l. 4294967295 - length l) (sym (ap (λ (x : Known). x.operations) (mine_is p c.store_all.new.pass k c.store_all.ensures) ∙ stored_operations (mine p) (finmap.entries c.args.written.now))) ∙ none)

pub draw-ticket-requires-clause-clear : goal.draw-ticket-requires-clause-clear
draw-ticket-requires-clause-clear c =
    let p = c.args.pass.now in
    let es = finmap.entries c.args.written.now in
    ap (λ (k : Known). k.drawn) (mine_is p c.store_all.new.pass (stored_into (mine p) es) c.store_all.ensures) ∙ stored_drawn (mine p) es ∙ c.requires.has.clear

pub draw-ticket-requires-clause-loaded : goal.draw-ticket-requires-clause-loaded
draw-ticket-requires-clause-loaded c =
    read_written c.args.cache.now.sizes c.args.pass.now c.args.handle.now.taken c.requires.has c.args.written.now c.len-contents.ensures.contents c.requires.within c.store_all.new.pass c.store_all.ensures

pub draw-ticket-requires-clause-passes : goal.draw-ticket-requires-clause-passes
draw-ticket-requires-clause-passes c =
    passes_written c.args.cache.now.sizes c.args.pass.now c.args.handle.now.taken c.requires.has c.args.written.now c.len-contents.ensures.contents c.requires.within c.requires.keeps c.puts_are_one.ensures c.store_all.new.pass c.store_all.ensures

pub give_all-requires-clause-known : goal.give_all-requires-clause-known
give_all-requires-clause-known c =
    has_now c.store_all.new.pass c.draw-ticket.new.pass _ c.draw-ticket.ensures.pass

pub give_all-requires-clause-held : goal.give_all-requires-clause-held
give_all-requires-clause-held c b some =
    let p = c.args.pass.now in
    let drew = drawn_pass c.args.cache.now.sizes p c.args.handle.now.taken c.requires.has c.args.written.now c.len-contents.ensures.contents c.requires.within c.draw-ticket.result c.args.number c.store_all.new.pass c.draw-ticket.new.pass c.store_all.ensures c.draw-ticket.ensures.pass in
    ap (λ (k : Known). finmap.contains_key k.held b) (mine_is p c.draw-ticket.new.pass _ drew)
    ∙ drawn_held c.args.cache.now.sizes p c.args.handle.now.taken c.requires.has c.args.written.now c.len-contents.ensures.contents c.requires.within c.draw-ticket.result c.args.number b some

pub give_all-requires-clause-done : goal.give_all-requires-clause-done
give_all-requires-clause-done c =
    let p = c.args.pass.now in
    let drew = drawn_pass c.args.cache.now.sizes p c.args.handle.now.taken c.requires.has c.args.written.now c.len-contents.ensures.contents c.requires.within c.draw-ticket.result c.args.number c.store_all.new.pass c.draw-ticket.new.pass c.store_all.ensures c.draw-ticket.ensures.pass in
    inl (ap (λ (k : Known). k.drawn) (mine_is p c.draw-ticket.new.pass _ drew)
    ∙ drawn_done c.args.cache.now.sizes p c.args.handle.now.taken c.requires.has c.args.written.now c.len-contents.ensures.contents c.requires.within c.draw-ticket.result c.args.number c.requires.some)

pub returns-clause-draws : goal.returns-clause-draws
returns-clause-draws c =
    draws c.args.cache.now c.args.pass.now c.args.handle.now.taken c.requires.has c.args.written.now c.len-contents.ensures.contents c.requires.within c.requires.some c.draw-ticket.result c.args.number
    c.store_all.new.pass c.draw-ticket.new.pass c.give_all.new.pass c.store_all.ensures c.draw-ticket.ensures.pass c.give_all.ensures c.draw-ticket.ensures.history
