use Rattle.std.proofs.Common.{◌≡◌, ◌≤◌, ◌<◌, ◌∙◌, length, sym, ap, arith, take_all}
use Rattle.std.specs.FinMap as map_of
use Rattle.std.specs.List.{flat_map}
use Rattle.zj_cli.specs.Check.{line_of}
use Rattle.zj_cli.proofs.DumpLemmas.{one_told}
use Rattle.zj_cli.proofs.dump.spell_dump.Goals as goal

pub loop-i-preserved : goal.loop-i-preserved
loop-i-preserved c =
    let tree = c.args.tree.now.tree in
    let below : c.loop-i.i < length (map_of.entries tree) = omega (arith, c.loop-i-test.true, c.len-i-end.ensures) in
    one_told (line_of tree) (map_of.entries tree) c.loop-i.i c.loop-i.text _ below c.loop-i.invariant c.in_ok-put_at.ensures
