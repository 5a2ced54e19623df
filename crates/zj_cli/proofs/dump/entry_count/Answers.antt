use Rattle.std.proofs.Common.{◌≡◌, ◌≤◌, ◌<◌, ◌∙◌, length, sym, ap, arith, take_all}
use Rattle.std.specs.Prelude.{count_by}
use Rattle.std.specs.FinMap as map_of
use Rattle.zj_tree.specs.Tree.{is_in}
use Rattle.zj_cli.proofs.DumpLemmas.{one_counted}
use Rattle.zj_cli.proofs.dump.entry_count.Goals as goal

pub loop-i-preserved : goal.loop-i-preserved
loop-i-preserved c =
    let entries = map_of.entries c.args.tree.now.tree in
    let below : c.loop-i.i < length entries = omega (arith, c.loop-i-test.true, c.len-i-end.ensures) in
    let most = c.count_at-count.ensures.most in
    (one_counted (λ entry. is_in c.args.dir.now entry.0) entries c.loop-i.i c.loop-i.count c.count_at-count.result below c.loop-i.invariant.0 c.count_at-count.ensures.is, omega (arith, most, c.loop-i.invariant.1))
