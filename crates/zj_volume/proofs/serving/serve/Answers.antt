-- Each block that is needed is one of the image that was not taken yet, and what is done at last serves the call.
use Rattle.zj_volume.proofs.Served.{agrees_none, done_serves, need_within, never_odd}
use Rattle.zj_volume.proofs.serving.serve.Goals as goal

pub loop-taken-init : goal.loop-taken-init
loop-taken-init c = agrees_none c.new-taken.result c.args.blocks.now c.new-taken.ensures

pub take-requires-clause-within : goal.take-requires-clause-within
take-requires-clause-within c = need_within c.args.sizes.now c.args.blocks.now c.loop-taken.taken c.args.call.now c.loop-taken.invariant c.footprint_is_within.ensures c.requires c.in_ok-block.field-0 c.in-Need.block c.in-Need.is c.in_ok-block.ensures.says

pub take-requires-clause-agrees : goal.take-requires-clause-agrees
take-requires-clause-agrees c = c.loop-taken.invariant

pub loop-taken-smaller : goal.loop-taken-smaller
loop-taken-smaller c = c.in_ok-take-in-Need.ensures.fewer

pub loop-taken-preserved : goal.loop-taken-preserved
loop-taken-preserved c = c.in_ok-take-in-Need.ensures.agrees

pub returns-in-Done : goal.returns-in-Done
returns-in-Done c = done_serves c.args.sizes.now c.args.blocks.now c.loop-taken.taken c.args.call.now c.loop-taken.invariant c.in_ok-block.field-0 c.in-Done.reply c.in-Done.written c.in-Done.is c.in_ok-block.ensures.says

pub unreachable-requires : goal.unreachable-requires
unreachable-requires c = never_odd c.args.sizes.now c.args.blocks.now c.loop-taken.taken c.args.call.now c.loop-taken.invariant c.requires c.in_ok-block.field-0 c.in-Odd.is c.in_ok-block.ensures.says
