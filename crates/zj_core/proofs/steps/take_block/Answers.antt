-- The block is taken and loaded; where there is no memory to remember it, it is given back.
use Rattle.std.proofs.Common.{◌++◌, inl}
use Rattle.zj_turns.specs.Views.{seal_of}
use Rattle.zj_core.proofs.Taking.{has_more, held_only, is_held, noted_now, taken_clear, taken_held, taken_unstored, takes_more, two_steps, undone, unstored}
use Rattle.zj_core.proofs.steps.take_block.Goals as goal

pub load-writer-requires-clause-held : goal.load-writer-requires-clause-held
load-writer-requires-clause-held c = taken_held c.args.pass.now c.try_take.new.pass c.args.block.0 c.in_default.ensures.ok

pub load-writer-requires-clause-unstored : goal.load-writer-requires-clause-unstored
load-writer-requires-clause-unstored c = taken_unstored c.args.pass.now c.try_take.new.pass c.args.block.0 c.in_default.ensures.ok

pub give-requires-clause-held : goal.give-requires-clause-held
give-requires-clause-held c = is_held c.args.cache.now.sizes c.args.pass.now c.load-writer.new.pass c.args.taken.now c.add.new.self c.args.block.0 c.load-writer.new.into c.load-writer.result.0.0 c.load-writer.result.1 c.requires.has c.requires.fresh c.load-writer.ensures.content (two_steps c.args.pass.now c.try_take.new.pass c.load-writer.new.pass c.args.block.0 (c.load-writer.new.into ++ seal_of c.load-writer.result.0.0 c.load-writer.result.1) c.in_default.ensures.ok c.load-writer.ensures.pass)

pub give-requires-clause-done : goal.give-requires-clause-done
give-requires-clause-done c = inl (unstored c.args.cache.now.sizes c.args.pass.now c.load-writer.new.pass c.args.taken.now c.add.new.self c.args.block.0 c.load-writer.new.into c.load-writer.result.0.0 c.load-writer.result.1 c.requires.has c.requires.fresh c.load-writer.ensures.content (two_steps c.args.pass.now c.try_take.new.pass c.load-writer.new.pass c.args.block.0 (c.load-writer.new.into ++ seal_of c.load-writer.result.0.0 c.load-writer.result.1) c.in_default.ensures.ok c.load-writer.ensures.pass))

pub returns-in-Ok-clause-has : goal.returns-in-Ok-clause-has
returns-in-Ok-clause-has c = has_more c.args.cache.now.sizes c.args.pass.now c.load-writer.new.pass c.args.taken.now c.add.new.self c.args.block.0 c.load-writer.new.into c.load-writer.result.0.0 c.load-writer.result.1 c.requires.has c.requires.fresh c.load-writer.ensures.content (two_steps c.args.pass.now c.try_take.new.pass c.load-writer.new.pass c.args.block.0 (c.load-writer.new.into ++ seal_of c.load-writer.result.0.0 c.load-writer.result.1) c.in_default.ensures.ok c.load-writer.ensures.pass) c.in-Ok.ensures.under c.requires.root
    (c.load-writer.ensures.some_state (taken_clear c.args.pass.now c.try_take.new.pass c.args.block.0 c.in_default.ensures.ok c.requires.has.clear))
    c.note_writer.new.follows
    (noted_now c.args.cache.now.sizes c.args.pass.now c.load-writer.new.pass c.args.taken.now c.add.new.self c.args.block.0 c.load-writer.new.into c.load-writer.result.0.0 c.load-writer.result.1 c.requires.has c.requires.fresh c.load-writer.ensures.content (two_steps c.args.pass.now c.try_take.new.pass c.load-writer.new.pass c.args.block.0 (c.load-writer.new.into ++ seal_of c.load-writer.result.0.0 c.load-writer.result.1) c.in_default.ensures.ok c.load-writer.ensures.pass)
    c.loaded_is_found.ensures c.load-writer.ensures.none c.note_writer.new.follows c.note_writer.ensures.some c.note_writer.ensures.none)

pub returns-in-Ok-clause-takes : goal.returns-in-Ok-clause-takes
returns-in-Ok-clause-takes c = takes_more c.args.cache.now.sizes c.args.pass.now c.load-writer.new.pass c.args.taken.now c.add.new.self c.args.block.0 c.load-writer.new.into c.load-writer.result.0.0 c.load-writer.result.1 c.requires.has c.requires.fresh c.load-writer.ensures.content (two_steps c.args.pass.now c.try_take.new.pass c.load-writer.new.pass c.args.block.0 (c.load-writer.new.into ++ seal_of c.load-writer.result.0.0 c.load-writer.result.1) c.in_default.ensures.ok c.load-writer.ensures.pass) c.args.cache.now c.in_default.ensures.was_free c.load-writer.ensures.history

pub returns-in-Ok-clause-held : goal.returns-in-Ok-clause-held
returns-in-Ok-clause-held c = is_held c.args.cache.now.sizes c.args.pass.now c.load-writer.new.pass c.args.taken.now c.add.new.self c.args.block.0 c.load-writer.new.into c.load-writer.result.0.0 c.load-writer.result.1 c.requires.has c.requires.fresh c.load-writer.ensures.content (two_steps c.args.pass.now c.try_take.new.pass c.load-writer.new.pass c.args.block.0 (c.load-writer.new.into ++ seal_of c.load-writer.result.0.0 c.load-writer.result.1) c.in_default.ensures.ok c.load-writer.ensures.pass)

pub returns-in-Ok-clause-only : goal.returns-in-Ok-clause-only
returns-in-Ok-clause-only c = held_only c.args.cache.now.sizes c.args.pass.now c.load-writer.new.pass c.args.taken.now c.add.new.self c.args.block.0 c.load-writer.new.into c.load-writer.result.0.0 c.load-writer.result.1 c.requires.has c.requires.fresh c.load-writer.ensures.content (two_steps c.args.pass.now c.try_take.new.pass c.load-writer.new.pass c.args.block.0 (c.load-writer.new.into ++ seal_of c.load-writer.result.0.0 c.load-writer.result.1) c.in_default.ensures.ok c.load-writer.ensures.pass)

pub returns-in-Err-add-clause-pass : goal.returns-in-Err-add-clause-pass
returns-in-Err-add-clause-pass c = undone c.args.cache.now.sizes c.args.pass.now c.load-writer.new.pass c.args.taken.now c.add.new.self c.args.block.0 c.load-writer.new.into c.load-writer.result.0.0 c.load-writer.result.1 c.requires.has c.requires.fresh c.load-writer.ensures.content (two_steps c.args.pass.now c.try_take.new.pass c.load-writer.new.pass c.args.block.0 (c.load-writer.new.into ++ seal_of c.load-writer.result.0.0 c.load-writer.result.1) c.in_default.ensures.ok c.load-writer.ensures.pass) c.give.new.pass c.give.ensures.pass
