-- The contents are put in from the last one on.
use Rattle.std.proofs.Common.{◌≡◌, ◌-◌, ◌<◌, length, drop, [], sym, ap, ◌∙◌, arith}
use Rattle.std.specs.FinMap as map_of
use Rattle.std.proofs.lemmas.Option.{slice_get-get_or}
use Rattle.zj_layout.proofs.Follow.{none_some}
use Rattle.zj_history.specs.State.{put_all}
use Rattle.zj_volume.proofs.Puts.{puts_none, puts_one, set_either}
use Rattle.zj_volume.proofs.serving.put_written.Goals as goal

pub loop-i-init : goal.loop-i-init
loop-i-init c =
    let entries = map_of.entries c.args.written.now in
    puts_none c.args.blocks.now entries ∙ ap (λ n. put_all c.args.blocks.now (drop n entries)) (sym (c.len-i.ensures.len ∙ map_of.len-entries c.args.written.now))

pub loop-i-preserved-in-Some : goal.loop-i-preserved-in-Some
loop-i-preserved-in-Some c =
    puts_one c.args.blocks.now c.loop-i.blocks c.put-put.new.self (map_of.entries c.args.written.now) c.loop-i.i c.in-Some.block.0 c.in-Some.content.now c.loop-i.invariant (omega (arith, c.loop-i-test.true)) (sym c.in-Some.ensures.entry)
    (set_either c.loop-i.blocks c.put-put.new.self c.in-Some.block.0 c.in-Some.content.now c.put-put.result c.put-put.ensures.some c.put-put.ensures.put c.put-put.ensures.none)

pub loop-i-preserved : goal.loop-i-preserved
loop-i-preserved c =
    let entries = map_of.entries c.args.written.now in
    let within : c.loop-i.i - 1 < length entries = omega (arith, c.loop-i-test.true, c.loop-i.auto.i, c.len-i.ensures.len, map_of.len-entries c.args.written.now) in
    absurd (none_some (c.in_default.ensures.entry ∙ slice_get-get_or entries (c.loop-i.i - 1) (0, []) within))

pub returns : goal.returns
returns c =
    let last : c.loop-i.i ≡ 0 = omega (arith, c.loop-i-test.false) in
    c.loop-i.invariant ∙ ap (λ n. put_all c.args.blocks.now (drop n (map_of.entries c.args.written.now))) last ∙ c.puts_are_one.ensures c.args.blocks.now c.args.written.now
